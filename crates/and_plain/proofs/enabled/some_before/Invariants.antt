use Rattle.std.proofs.Common.{ℕ, ◌<◌}
use Rattle.and_events.specs.Legal.{IsRipe}
use Rattle.and_plain.proofs.enabled.some_before.Given as goal

abbrev pub invariant-loop-host : goal.invariant-loop-host
invariant-loop-host l = (host : ℕ) → host < l.host → ((vm : ℕ) × IsRipe l.plan l.s host vm) → ⊥
