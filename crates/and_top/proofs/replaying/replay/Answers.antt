use Rattle.and_top.proofs.Completing.{completes, refuses_scenario, refuses_capture}
use Rattle.and_top.proofs.replaying.replay.Goals as goal

pub returns-clause-complete : goal.returns-clause-complete
returns-clause-complete g c can = completes _ _ _ _ _ c.work.result can c.work.ensures.answer

pub returns-clause-scenario : goal.returns-clause-scenario
returns-clause-scenario g c must = refuses_scenario _ _ _ _ _ c.work.result must c.work.ensures.answer

pub returns-clause-capture : goal.returns-clause-capture
returns-clause-capture g c must = refuses_capture _ _ _ _ _ c.work.result must c.work.ensures.answer
