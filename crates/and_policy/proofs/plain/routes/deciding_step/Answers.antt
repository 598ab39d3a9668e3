use Rattle.std.proofs.Common.{◌≡◌, Some, refl, sym, ◌∙◌}
use Rattle.std.proofs.lemmas.Bool.{eq-eqb}
use Rattle.and_policy.specs.declared.entry.Entry.TheVariants.{AddRoute}
use Rattle.and_policy.specs.Logged.{entries_in}
use Rattle.and_policy.proofs.Deciding.{route_more}
use Rattle.and_policy.proofs.plain.routes.deciding_step.Goals as goal

pub returns-in-Some-AddRoute : goal.returns-in-Some-AddRoute
returns-in-Some-AddRoute g c =
    let e : g.T.Logged.entry_of c.args.item.now ≡ Some (AddRoute c.in-Some-AddRoute.n c.in-Some-AddRoute.route) = cc in
    let step = rw c.if-decides.true at c.decides.ensures in
    rw e ((route_more c.args.address (entries_in g.T.Logged.entry_of c.args.later.now) c.args.net c.in-Some-AddRoute.n c.in-Some-AddRoute.route c.args.best (Some c.in-Some-AddRoute.route) (eq-eqb _ _ c.if-n-net.true) c.requires.best step).0 (sym c.is_deleted.ensures ∙ c.if-not-is_deleted.true))

pub returns-in_default-2 : goal.returns-in_default-2
returns-in_default-2 g c =
    let e : g.T.Logged.entry_of c.args.item.now ≡ Some (AddRoute c.in-Some-AddRoute.n c.in-Some-AddRoute.route) = cc in
    let step = rw c.if-decides.false at c.decides.ensures in
    rw e ((route_more c.args.address (entries_in g.T.Logged.entry_of c.args.later.now) c.args.net c.in-Some-AddRoute.n c.in-Some-AddRoute.route c.args.best c.args.best (eq-eqb _ _ c.if-n-net.true) c.requires.best step).1 refl)
