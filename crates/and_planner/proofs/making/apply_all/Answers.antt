use Rattle.std.proofs.Common.{rules}
use Rattle.and_planner.proofs.Planning.{items-step}
use Rattle.and_planner.proofs.making.apply_all.Goals as goal

pub loop-number-preserved : goal.loop-number-preserved
loop-number-preserved c = record {
  planning = items-step c.args.settings c.loop-number.planner.state.settings c.loop-number.number c.args.items.now _ _ _ _ c.loop-number.invariant.settings (search rules) c.loop-number.invariant.planning c.in_ok-apply.ensures.planning;
  frame = search rules;
  packets = search rules;
  settings = search rules;
}
