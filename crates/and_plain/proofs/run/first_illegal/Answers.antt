use Rattle.std.proofs.Common.{◌<◌, length, arith}
use Rattle.and_events.specs.declared.event.Event.TheVariants.{Append}
use Rattle.and_events.specs.Run.{Run}
use Rattle.and_events.specs.State.{state}
use Rattle.and_plain.proofs.Running.{illegal_at, state_more, run_more}
use Rattle.and_plain.proofs.run.first_illegal.Goals as goal

pub loop-n-init : goal.loop-n-init
unfolding state Run
loop-n-init c = record { is = c.in_ok-s.ensures.ok; run = tt }

pub returns-then-not-is_legal : goal.returns-then-not-is_legal
returns-then-not-is_legal c =
    let less : c.loop-n.n < length c.args.events.now = omega arith in
    record {
      ok = illegal_at c.args.plan.now c.args.events.now c.loop-n.n (Append 0) c.loop-n.s less c.loop-n.invariant.is c.loop-n.invariant.run c.if-not-is_legal.ensures;
    }

pub loop-n-preserved : goal.loop-n-preserved
loop-n-preserved c =
    let less : c.loop-n.n < length c.args.events.now = omega arith in
    record {
      is = state_more c.args.plan.now c.args.events.now c.loop-n.n (Append 0) c.loop-n.s c.after.new.s less c.loop-n.invariant.is c.in_ok-after.ensures.ok;
      run = run_more c.args.plan.now c.args.events.now c.loop-n.n (Append 0) c.loop-n.s less c.loop-n.invariant.is c.loop-n.invariant.run c.if-not-is_legal.ensures;
    }
