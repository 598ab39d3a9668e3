use Rattle.std.proofs.Common.{◌≡◌, Some, refl, sym, ◌∙◌}
use Rattle.std.proofs.lemmas.Bool.{eq-eqb}
use Rattle.and_policy.specs.declared.entry.Entry.TheVariants.{AddRule}
use Rattle.and_policy.specs.Logged.{entries_in}
use Rattle.and_policy.proofs.Deciding.{rule_more}
use Rattle.and_policy.proofs.plain.rules.deciding_step.Goals as goal

pub returns-in-Some-AddRule : goal.returns-in-Some-AddRule
returns-in-Some-AddRule g c =
    let e : g.T.Logged.entry_of c.args.item.now ≡ Some (AddRule c.in-Some-AddRule.n c.in-Some-AddRule.rule) = cc in
    let step = rw c.if-decides.true at c.decides.ensures in
    rw e ((rule_more c.args.side c.args.tuple.now (entries_in g.T.Logged.entry_of c.args.later.now) c.args.net c.in-Some-AddRule.n c.in-Some-AddRule.rule c.args.best (Some c.in-Some-AddRule.rule) (eq-eqb _ _ c.if-n-net.true) c.requires.best step).0 (sym c.is_deleted.ensures ∙ c.if-not-is_deleted.true))

pub returns-in_default-2 : goal.returns-in_default-2
returns-in_default-2 g c =
    let e : g.T.Logged.entry_of c.args.item.now ≡ Some (AddRule c.in-Some-AddRule.n c.in-Some-AddRule.rule) = cc in
    let step = rw c.if-decides.false at c.decides.ensures in
    rw e ((rule_more c.args.side c.args.tuple.now (entries_in g.T.Logged.entry_of c.args.later.now) c.args.net c.in-Some-AddRule.n c.in-Some-AddRule.rule c.args.best c.args.best (eq-eqb _ _ c.if-n-net.true) c.requires.best step).1 refl)
