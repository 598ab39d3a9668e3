use Rattle.and_events.specs.declared.event.Node.TheVariants.{Gate}
use Rattle.and_planner.proofs.Applying.{frees-step}
use Rattle.and_planner.proofs.state.ScriptState.free_gates.Goals as goal

pub loop-gate-preserved : goal.loop-gate-preserved
loop-gate-preserved c = frees-step Gate c.args.self.now.script c.loop-gate.gate _ _ _ c.loop-gate.invariant c.in_ok-free_at.ensures
