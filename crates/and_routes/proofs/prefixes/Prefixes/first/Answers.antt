use Rattle.std.proofs.Common.{◌∙◌}
use Rattle.and_routes.proofs.Bucketing.{first-in}
use Rattle.and_routes.proofs.prefixes.Prefixes.first.Goals as goal

pub returns : goal.returns
returns c = λ k is. c.first_of.ensures ∙ first-in c.args.self.now k c.args.net c.args.length c.args.address c.high.result c.requires (c.high.ensures c.requires) is
