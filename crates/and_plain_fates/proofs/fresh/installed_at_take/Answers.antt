use Rattle.std.proofs.Common.{◌<◌, length, refl, arith}
use Rattle.and_events.specs.declared.event.Event.TheVariants.{Append}
use Rattle.and_events.specs.Fresh.{installed_at_take}
use Rattle.and_events.specs.State.{state}
use Rattle.and_plain.proofs.Running.{state_more}
use Rattle.and_plain_fates.proofs.FreshLemmas.{taken_more}
use Rattle.and_plain_fates.proofs.fresh.installed_at_take.Goals as goal

pub loop-n-init : goal.loop-n-init
unfolding state installed_at_take
loop-n-init c = record { is = c.in_ok-s.ensures.ok; taken = refl }

pub loop-n-preserved : goal.loop-n-preserved
loop-n-preserved c =
    let less : c.loop-n.n < length c.args.events.now = omega arith in
    record {
      is = state_more c.args.plan.now c.args.events.now c.loop-n.n (Append 0) c.loop-n.s c.after.new.s less c.loop-n.invariant.is c.in_ok-after.ensures.ok;
      taken = taken_more c.args.plan.now c.args.events.now c.loop-n.n (Append 0) c.loop-n.s c.args.actor c.args.packet c.loop-n.taken
          c.take_after-taken.result less c.loop-n.invariant.is c.loop-n.invariant.taken c.take_after-taken.ensures;
    }
