use Rattle.std.proofs.Common.{ap, ◌∙◌}
use Rattle.std.specs.Prelude.{is_some}
use Rattle.and_policy.proofs.Registering.{added-is}
use Rattle.and_policy.proofs.register.Register.was_added.Goals as goal

pub returns : goal.returns
returns c = λ k is. c.is_some.ensures ∙ ap is_some (c.net.ensures k is.placements) ∙ added-is k c.args.vm
