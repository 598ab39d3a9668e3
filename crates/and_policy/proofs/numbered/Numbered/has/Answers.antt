use Rattle.std.proofs.Common.{◌∙◌}
use Rattle.and_policy.proofs.numbered.Numbered.has.Goals as goal

pub returns : goal.returns
returns c = λ f is. c.contains.ensures ∙ is.live c.args.net c.args.number
