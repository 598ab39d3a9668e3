use Rattle.and_laws.proofs.Having.{anywhere}
use Rattle.and_laws.proofs.choices.enabled_actors_have_events.Goals as goal

pub returns-clause-decision : goal.returns-clause-decision
returns-clause-decision c = λ plan h sound r a g at way is ways has least most. anywhere plan h sound r a g at way is ways has least most
