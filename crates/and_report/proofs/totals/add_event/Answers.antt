use Rattle.std.proofs.Common.{Some, None, refl, sym, ap, ◌∙◌}
use Rattle.and_report.specs.Nets.{fate_under}
use Rattle.and_report.specs.Fates.{fates_of}
use Rattle.and_report.proofs.NetLemmas.{fate_is}
use Rattle.and_report.proofs.Adding.{totals_next}
use Rattle.and_report.proofs.totals.add_event.Goals as goal

pub returns-in_ok-add_fate-in-Some : goal.returns-in_ok-add_fate-in-Some
returns-in_ok-add_fate-in-Some c = λ h nets was.
    totals_next c.args.plan.now h c.args.event.now c.args.totals.now _ (Some c.in-Some.fate)
    (sym c.in-Some.is ∙ c.fate_under.ensures ∙ ap (λ l. fate_under c.args.plan.now l c.args.event.now) nets ∙ fate_is c.args.plan.now h c.args.event.now)
    c.in_ok-totals.ensures (c.in_ok-add_fate-in-Some.ensures.totals (fates_of c.args.plan.now h) was.fates) c.add_fate.ensures.len was

pub returns-in-None : goal.returns-in-None
returns-in-None c = λ h nets was.
    totals_next c.args.plan.now h c.args.event.now c.args.totals.now _ None
    (sym c.in-None.is ∙ c.fate_under.ensures ∙ ap (λ l. fate_under c.args.plan.now l c.args.event.now) nets ∙ fate_is c.args.plan.now h c.args.event.now)
    c.in_ok-totals.ensures was.fates refl was
