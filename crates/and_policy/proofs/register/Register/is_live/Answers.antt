use Rattle.std.proofs.Common.{◌∙◌}
use Rattle.and_policy.proofs.Registering.{live-is}
use Rattle.and_policy.proofs.register.Register.is_live.Goals as goal

pub returns : goal.returns
returns c = λ k is. c.contains_key.ensures ∙ live-is c.args.self.now k c.args.vm is
