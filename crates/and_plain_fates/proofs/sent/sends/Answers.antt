use Rattle.std.proofs.Common.{◌<◌, length, refl, arith}
use Rattle.and_events.specs.declared.event.Event.TheVariants.{Append}
use Rattle.and_events.specs.Run.{sends}
use Rattle.and_plain_fates.proofs.SendLemmas.{sends_more}
use Rattle.and_plain_fates.proofs.sent.sends.Goals as goal

pub loop-n-init : goal.loop-n-init
unfolding sends
loop-n-init c = refl

pub loop-n-preserved : goal.loop-n-preserved
loop-n-preserved c =
    let less : c.loop-n.n < length c.args.events.now = omega arith in
    sends_more c.args.plan.now c.args.events.now c.loop-n.n (Append 0) c.args.packet c.loop-n.count c.in_ok-next.next c.one_if.result c.is_send.result less
    c.loop-n.invariant c.is_send.ensures c.one_if.ensures c.in_ok-next.ensures
