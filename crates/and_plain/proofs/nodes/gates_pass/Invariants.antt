use Rattle.std.proofs.Common.{ℕ, ◌<◌}
use Rattle.and_events.specs.declared.event.Node.TheVariants as nodes
use Rattle.and_plain.specs.Asked.{Asked}
use Rattle.and_plain.proofs.nodes.gates_pass.Given as goal

abbrev pub invariant-loop-gate : goal.invariant-loop-gate
invariant-loop-gate l = (g : ℕ) → g < l.gate → Asked l.plan l.s l.test (nodes.Gate g)
