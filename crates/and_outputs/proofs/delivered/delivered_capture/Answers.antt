use Rattle.std.proofs.Common.{take, sym, ap, ◌∙◌}
use Rattle.and_events.specs.declared.event.Event.TheVariants.{Append}
use Rattle.and_events.specs.declared.event.Line.{Line}
use Rattle.and_events.specs.Run.{past}
use Rattle.and_outputs.specs.Delivered.{delivered}
use Rattle.and_outputs.proofs.Following.{past_more}
use Rattle.and_outputs.proofs.Growing.{delivered_first}
use Rattle.and_outputs.proofs.delivered.delivered_capture.Goals as goal

pub loop-line-init : goal.loop-line-init
loop-line-init c = delivered_first c.args.plan.now c.in_ok-out.out.items c.in_ok-out.ensures

pub loop-line-preserved : goal.loop-line-preserved
loop-line-preserved c =
    let none : Line = record { seat = 0; event = Append 0 } in
    c.in_ok-put_delivery.ensures (past (take c.loop-line.line-index c.args.lines.now)) c.loop-line.invariant
    ∙ ap (delivered c.args.plan.now) (sym (past_more c.args.lines.now c.loop-line.line-index none c.loop-line-test.true))
