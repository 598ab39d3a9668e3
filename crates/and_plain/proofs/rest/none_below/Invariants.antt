use Rattle.std.proofs.Common.{ℕ, ◌<◌}
use Rattle.and_events.specs.Legal.{IsRipe}
use Rattle.and_plain.proofs.rest.none_below.Given as goal

abbrev pub invariant-loop-vm : goal.invariant-loop-vm
invariant-loop-vm l = (vm : ℕ) → vm < l.vm → IsRipe l.plan l.s l.host vm → ⊥
