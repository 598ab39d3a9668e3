use Rattle.std.proofs.Common.{◌≡◌, ◌++◌}
use Rattle.and_events.specs.declared.event.Node.TheVariants.{Host}
use Rattle.and_events.specs.Planned.{frees_below}
use Rattle.and_planner.proofs.state.ScriptState.free_hosts.Given as goal

abbrev pub invariant-loop-host : goal.invariant-loop-host
invariant-loop-host l = l.steps ≡ l.initial.steps ++ frees_below Host l.self.script l.host
