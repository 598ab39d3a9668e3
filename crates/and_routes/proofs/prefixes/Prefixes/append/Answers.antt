use Rattle.and_routes.proofs.Bucketing.{prefixes-other}
use Rattle.and_routes.proofs.prefixes.Prefixes.append.Goals as goal

pub returns-in_default-clause-ok : goal.returns-in_default-clause-ok
returns-in_default-clause-ok c = λ k fit is. prefixes-other c.args.self.now k c.args.entry.now c.in_default.not-AddRoute c.in_default.not-DelRoute is
