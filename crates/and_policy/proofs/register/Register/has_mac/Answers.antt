use Rattle.std.proofs.Common.{◌∙◌}
use Rattle.and_policy.proofs.Registering.{mac-is}
use Rattle.and_policy.proofs.register.Register.has_mac.Goals as goal

pub returns : goal.returns
returns c = λ k is. c.contains_key.ensures ∙ mac-is c.args.self.now k c.args.mac is
