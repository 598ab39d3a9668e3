use Rattle.and_policy.proofs.Registering.{same-register}
use Rattle.and_policy.proofs.register.Register.room.Goals as goal

pub returns-clause-kept : goal.returns-clause-kept
returns-clause-kept c = λ k is. same-register _ _ k c.reserve.ensures.same is
