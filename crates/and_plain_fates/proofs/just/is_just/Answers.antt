use Rattle.std.proofs.Common.{◌<◌, length, refl, arith}
use Rattle.and_events.specs.declared.event.Event.TheVariants.{Append}
use Rattle.and_events.specs.Just.{Just}
use Rattle.and_events.specs.State.{state}
use Rattle.and_plain.proofs.Running.{state_more}
use Rattle.and_plain_fates.proofs.JustLemmas.{just_more}
use Rattle.and_plain_fates.proofs.just.is_just.Goals as goal

pub loop-n-init : goal.loop-n-init
unfolding state Just
loop-n-init c = record { is = c.in_ok-s.ensures.ok; just = ((λ t. tt), (λ t. refl)) }

pub loop-n-preserved : goal.loop-n-preserved
loop-n-preserved c =
    let less : c.loop-n.n < length c.args.events.now = omega arith in
    record {
      is = state_more c.args.plan.now c.args.events.now c.loop-n.n (Append 0) c.loop-n.s c.after.new.s less c.loop-n.invariant.is c.in_ok-after.ensures.ok;
      just = just_more c.args.plan.now c.args.events.now c.loop-n.n (Append 0) c.args.packet c.both-just.result c.loop-n.just c.in_ok-here.here less
          c.both-just.ensures c.loop-n.invariant.just c.in_ok-here.ensures.ok;
    }
