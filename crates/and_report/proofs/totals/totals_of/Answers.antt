use Rattle.std.proofs.Common.{List, get_or, take, sym, ap, subst, ◌∙◌}
use Rattle.and_events.specs.declared.event.Event.{Event}
use Rattle.and_events.specs.declared.event.Event.TheVariants.{Append}
use Rattle.and_events.specs.declared.event.Line.{Line}
use Rattle.and_events.specs.Run.{past}
use Rattle.and_report.specs.Nets.{nets_in, nets_after}
use Rattle.and_report.specs.Totals.{AreTotals}
use Rattle.and_report.proofs.NetLemmas.{nets_next}
use Rattle.and_report.proofs.Past.{past_more}
use Rattle.and_report.proofs.totals.totals_of.Goals as goal

pub loop-line-preserved : goal.loop-line-preserved
loop-line-preserved c =
    let none : Line = record { seat = 0; event = Append 0 } in
    let h : List Event = past (take c.loop-line.line-index c.args.lines.now) in
    let e : Event = (get_or c.args.lines.now c.loop-line.line-index none).event in
    let more = past_more c.args.lines.now c.loop-line.line-index none c.loop-line-test.true in
    record {
      nets =
          c.follow_nets.ensures ∙ ap (λ nets. nets_after c.args.plan.now nets e) c.loop-line.invariant.nets ∙ sym (nets_next c.args.plan.now h e)
          ∙ ap (nets_in c.args.plan.now) (sym more);
      totals =
          subst (λ h. AreTotals c.args.plan.now h c.add_event.new.totals) (sym more)
          (c.in_ok-add_event.ensures h (c.deref.ensures.value ∙ c.loop-line.invariant.nets) c.loop-line.invariant.totals);
    }
