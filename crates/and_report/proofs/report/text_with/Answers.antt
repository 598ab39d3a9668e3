use Rattle.std.proofs.Common.{◌++◌, sym, ap, subst, ◌∙◌}
use Rattle.std.specs.List.{flat_map}
use Rattle.and_events.specs.Run.{past}
use Rattle.and_report.specs.Report.{title, all_rows, some_rows, skip_rows, item_line}
use Rattle.and_report.specs.Tally.{Tally, tally}
use Rattle.and_report.specs.Totals.{AreReceived, AreTotals}
use Rattle.and_report.proofs.Adding.{traffic_is, whole}
use Rattle.and_report.proofs.report.text_with.Goals as goal

pub returns : goal.returns
returns c =
    let h = past c.args.lines.now in
    let t : Tally = tally c.args.plan.now h in
    let are : AreTotals c.args.plan.now h c.in_ok-totals.totals = c.in_ok-totals.ensures in
    whole c.args.plan.now t c.put.new.text.items c.put_rows.new.text.items c.put_some_rows.new.text.items c.put_drops.new.text.items c.put_items.new.text.items c.put_vms.new.text.items
    (c.in_ok-put.ensures ∙ ap (λ l. l ++ title) c.new-text.ensures.items)
    (c.in_ok-put_rows.ensures
    ∙ ap (λ l. c.put.new.text.items ++ all_rows l) (c.head_rows-rows.ensures t are.fates.endings (traffic_is c.args.plan.now h c.in_ok-totals.totals are) c.requires))
    (c.in_ok-put_some_rows.ensures ∙ ap (λ l. c.put_rows.new.text.items ++ some_rows l) (c.skip_rows.ensures ∙ ap skip_rows c.as_slice.ensures))
    (c.in_ok-put_drops.ensures t are.fates)
    (c.in_ok-put_items.ensures ∙ ap (λ l. c.put_drops.new.text.items ++ flat_map item_line l) c.as_slice-2.ensures)
    (c.in_ok-put_vms.ensures t (subst (AreReceived t.fates) (sym c.deref.ensures.value) are.fates.received))
