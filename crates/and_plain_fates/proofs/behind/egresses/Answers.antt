use Rattle.std.proofs.Common.{◌<◌, length, arith}
use Rattle.and_events.specs.declared.event.Event.TheVariants.{Append}
use Rattle.and_events.specs.Just.{egresses}
use Rattle.and_events.specs.State.{state}
use Rattle.and_plain.proofs.Running.{state_more}
use Rattle.and_plain_fates.proofs.BehindLemmas.{egresses_more}
use Rattle.and_plain_fates.proofs.behind.egresses.Goals as goal

pub loop-n-init : goal.loop-n-init
unfolding state egresses
loop-n-init c = record { is = c.in_ok-s.ensures.ok; found = c.new-found.ensures.items }

pub loop-n-preserved : goal.loop-n-preserved
loop-n-preserved c =
    let less : c.loop-n.n < length c.args.events.now = omega arith in
    record {
      is = state_more c.args.plan.now c.args.events.now c.loop-n.n (Append 0) c.loop-n.s c.after.new.s less c.loop-n.invariant.is c.in_ok-after.ensures.ok;
      found = egresses_more c.args.plan.now c.args.events.now c.loop-n.n (Append 0) c.loop-n.s c.args.packet c.loop-n.found.items c.add_egress.new.found.items less
          c.loop-n.invariant.is c.loop-n.invariant.found c.in_ok-add_egress.ensures.ok;
    }
