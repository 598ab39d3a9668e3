use Rattle.std.proofs.Common.{◌≡◌, ◌++◌}
use Rattle.and_events.specs.declared.event.Node.TheVariants.{Gate}
use Rattle.and_events.specs.Planned.{frees_below}
use Rattle.and_planner.proofs.state.ScriptState.free_gates.Given as goal

abbrev pub invariant-loop-gate : goal.invariant-loop-gate
invariant-loop-gate l = l.steps ≡ l.initial.steps ++ frees_below Gate l.self.script l.gate
