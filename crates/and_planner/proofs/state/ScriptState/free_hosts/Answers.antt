use Rattle.and_events.specs.declared.event.Node.TheVariants.{Host}
use Rattle.and_planner.proofs.Applying.{frees-step}
use Rattle.and_planner.proofs.state.ScriptState.free_hosts.Goals as goal

pub loop-host-preserved : goal.loop-host-preserved
loop-host-preserved c = frees-step Host c.args.self.now.script c.loop-host.host _ _ _ c.loop-host.invariant c.in_ok-free_at.ensures
