use Rattle.and_worker.proofs.Growing.{stays_right}
use Rattle.and_worker.proofs.laws.caches_stay_right.Goals as goal

pub returns : goal.returns
returns c = stays_right
