use Rattle.and_flow.proofs.Newer.{answers_newest}
use Rattle.and_flow.proofs.laws.caches_answer_the_newest.Goals as goal

pub returns : goal.returns
returns c = answers_newest
