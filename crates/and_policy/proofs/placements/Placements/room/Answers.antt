use Rattle.and_policy.proofs.Placing.{same-placements}
use Rattle.and_policy.proofs.placements.Placements.room.Goals as goal

pub returns-clause-kept : goal.returns-clause-kept
returns-clause-kept c = λ k is. same-placements _ _ k c.reserve.ensures.same is
