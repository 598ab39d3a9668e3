use Rattle.std.proofs.Common.{◌<◌, length, refl, arith}
use Rattle.and_events.specs.declared.event.Event.TheVariants.{Append}
use Rattle.and_events.specs.Ordered.{IsInPlainOrder}
use Rattle.and_events.specs.State.{state}
use Rattle.and_plain.proofs.Running.{state_more}
use Rattle.and_plain_fates.proofs.OrderLemmas.{ordered_more}
use Rattle.and_plain_fates.proofs.order.is_in_plain_order.Goals as goal

pub loop-n-init : goal.loop-n-init
unfolding state IsInPlainOrder
loop-n-init c = record { is = c.in_ok-s.ensures.ok; ordered = ((λ t. tt), (λ t. refl)) }

pub loop-n-preserved : goal.loop-n-preserved
loop-n-preserved c =
    let less : c.loop-n.n < length c.args.events.now = omega arith in
    record {
      is = state_more c.args.plan.now c.args.events.now c.loop-n.n (Append 0) c.loop-n.s c.after.new.s less c.loop-n.invariant.is c.in_ok-after.ensures.ok;
      ordered = ordered_more c.args.plan.now c.args.events.now c.loop-n.n (Append 0) c.loop-n.s c.both-ordered.result c.loop-n.ordered c.is_due.result less
          c.loop-n.invariant.is c.both-ordered.ensures c.loop-n.invariant.ordered c.is_due.ensures;
    }
