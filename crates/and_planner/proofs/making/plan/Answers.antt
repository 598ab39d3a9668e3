use Rattle.and_planner.proofs.Promises.{sound_plan}
use Rattle.and_planner.proofs.making.plan.Goals as goal

pub returns-clause-sound : goal.returns-clause-sound
returns-clause-sound c = sound_plan c.args.scenario c.args.capture c.requires c.made.result c.made.ensures.planned
