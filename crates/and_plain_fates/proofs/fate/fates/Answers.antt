use Rattle.std.proofs.Common.{◌-◌, ◌++◌, take, sym, ap, ◌∙◌, arith}
use Rattle.std.proofs.Common.{List}
use Rattle.and_events.specs.declared.event.Event.{Event}
use Rattle.and_events.specs.declared.event.Event.TheVariants.{Append}
use Rattle.and_events.specs.Run as spec
use Rattle.and_plain.specs.History.{history}
use Rattle.and_plain_fates.proofs.FateLemmas.{taken_with, taken_without, taken_all}
use Rattle.and_plain_fates.proofs.fate.fates.Goals as goal

pub loop-at-preserved-in-Continue-1 : goal.loop-at-preserved-in-Continue-1
loop-at-preserved-in-Continue-1 c = record {
  within = omega arith;
  found = ap (λ (xs : List Event). xs ++ spec.fates (history (take (c.loop-at.at - 1) c.args.events.now)) c.args.packet) c.in_ok-put.ensures.ok
      ∙ taken_with c.args.events.now (c.loop-at.at - 1) c.loop-at.at c.args.packet (Append 0) c.loop-at.found.items _ (omega arith) (omega arith)
      (sym c.is_fate.ensures ∙ c.if-is_fate.true) c.loop-at.invariant.found;
}

pub loop-at-preserved : goal.loop-at-preserved
loop-at-preserved c = record {
  within = omega arith;
  found = taken_without c.args.events.now (c.loop-at.at - 1) c.loop-at.at c.args.packet (Append 0) c.loop-at.found.items _ (omega arith) (omega arith)
      (sym c.is_fate.ensures ∙ c.if-is_fate.false) c.loop-at.invariant.found;
}

pub returns : goal.returns
returns c = record { ok = taken_all c.args.events.now c.loop-at.at c.args.packet c.loop-at.found.items _ (omega arith) c.loop-at.invariant.found }
