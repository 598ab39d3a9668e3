use Rattle.std.proofs.Common.{◌∙◌}
use Rattle.and_policy.proofs.Registering.{address-is}
use Rattle.and_policy.proofs.register.Register.has_address.Goals as goal

pub returns : goal.returns
returns c = λ k is. c.contains_key.ensures ∙ address-is c.args.self.now k c.args.net c.args.ip is
