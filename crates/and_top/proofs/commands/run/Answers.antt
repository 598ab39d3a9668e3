use Rattle.and_top.proofs.commands.run.Goals as goal

pub returns-in-Ok-clause-complete : goal.returns-in-Ok-clause-complete
returns-in-Ok-clause-complete g c = rw (← c.in-Ok.ensures) c.replay.ensures.complete

pub returns-in-Ok-clause-scenario : goal.returns-in-Ok-clause-scenario
returns-in-Ok-clause-scenario g c = rw (← c.in-Ok.ensures) c.replay.ensures.scenario

pub returns-in-Ok-clause-capture : goal.returns-in-Ok-clause-capture
returns-in-Ok-clause-capture g c = rw (← c.in-Ok.ensures) c.replay.ensures.capture
