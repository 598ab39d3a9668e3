use Rattle.std.proofs.Common.{◌∙◌, sym}
use Rattle.and_policy.specs.Logged.{entries_in}
use Rattle.and_policy.proofs.Deciding.{no_route_deleted}
use Rattle.and_policy.proofs.plain.routes.is_deleted.Goals as goal

pub returns-else-some : goal.returns-else-some
returns-else-some g c =
    c.if-some.false ∙ sym (no_route_deleted c.args.net c.args.number (entries_in g.T.Logged.entry_of c.args.log.now) (sym c.requires ∙ c.if-some.false))
