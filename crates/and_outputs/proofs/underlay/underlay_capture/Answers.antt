use Rattle.std.proofs.Common.{◌+◌, List, ◌∷◌, get_or, take, sym, subst, ap, ◌∙◌}
use Rattle.and_events.specs.declared.event.Event.{Event}
use Rattle.and_events.specs.declared.event.Event.TheVariants.{Append}
use Rattle.and_events.specs.declared.event.Line.{Line}
use Rattle.and_events.specs.OuterPackets.{sends_of}
use Rattle.and_events.specs.Run.{Run, past}
use Rattle.and_events.specs.State.{state}
use Rattle.and_outputs.specs.Moves.{noted, sent_by}
use Rattle.and_outputs.specs.Underlay.{underlay}
use Rattle.and_outputs.proofs.Following.{carried_first, carried_next, past_more, run_at}
use Rattle.and_outputs.proofs.Growing.{underlay_first, underlay_next}
use Rattle.and_outputs.proofs.Sendable.{puts, sent_found}
use Rattle.and_outputs.proofs.underlay.underlay_capture.Goals as goal

pub loop-line-init : goal.loop-line-init
loop-line-init c = record {
  carried = carried_first c.args.plan.now c.in_ok-carried.carried.items c.in_ok-carried.ensures;
  out = underlay_first c.args.plan.now c.in_ok-out.out.items c.in_ok-out.ensures;
}

pub put_send-requires : goal.put_send-requires
put_send-requires c =
    let none : Line = record { seat = 0; event = Append 0 } in
    let plan = c.args.plan.now in
    let h : List Event = past (take c.loop-line.line-index c.args.lines.now) in
    let e : Event = (get_or c.args.lines.now c.loop-line.line-index none).event in
    let more = past_more c.args.lines.now c.loop-line.line-index none c.loop-line-test.true in
    let run : Run plan (e ∷ h) = subst (Run plan) more (run_at plan c.args.lines.now (c.loop-line.line-index + 1) c.requires.run) in
    puts plan h e c.sender.result c.deref-in-loop-line.result.now c.moved_by-moved.result c.requires.sound run c.sender.ensures
    (c.deref-in-loop-line.ensures.value ∙ c.loop-line.invariant.carried)
    (c.moved_by-moved.ensures (state plan h) (sym (c.deref.ensures.value ∙ c.loop-line.invariant.carried)))

pub loop-line-preserved : goal.loop-line-preserved
loop-line-preserved c =
    let none : Line = record { seat = 0; event = Append 0 } in
    let plan = c.args.plan.now in
    let h : List Event = past (take c.loop-line.line-index c.args.lines.now) in
    let e : Event = (get_or c.args.lines.now c.loop-line.line-index none).event in
    let more = past_more c.args.lines.now c.loop-line.line-index none c.loop-line-test.true in
    let run : Run plan (e ∷ h) = subst (Run plan) more (run_at plan c.args.lines.now (c.loop-line.line-index + 1) c.requires.run) in
    let moved = c.moved_by-moved.ensures (state plan h) (sym (c.deref.ensures.value ∙ c.loop-line.invariant.carried)) in
    let found = sent_found plan h e c.sender.result c.deref-in-loop-line.result.now c.moved_by-moved.result run c.sender.ensures
    (c.deref-in-loop-line.ensures.value ∙ c.loop-line.invariant.carried) moved in
    record {
      carried =
          c.note.ensures ∙ ap (λ l. noted l c.moved_by-moved.result) c.loop-line.invariant.carried ∙ ap (noted (state plan h).flow.carried) moved
          ∙ sym (carried_next plan h e) ∙ ap (λ k. (state plan k).flow.carried) (sym more);
      out =
          underlay_next plan h e (sent_by plan c.sender.result c.deref-in-loop-line.result.now c.moved_by-moved.result) c.put_send.new.out.items found
          (c.in_ok-put_send.ensures (sends_of plan h) c.loop-line.invariant.out)
          ∙ ap (underlay plan) (sym more);
    }
