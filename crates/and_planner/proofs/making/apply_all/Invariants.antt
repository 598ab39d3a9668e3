use Rattle.std.proofs.Common.{◌≡◌, ◌+◌, ◌≤◌, length, drop}
use Rattle.and_events.specs.Planned.{items_applied, nothing_planned}
use Rattle.and_planner.specs.Planners.{planning_of}
use Rattle.and_planner.proofs.making.apply_all.Given as goal

abbrev pub invariant-loop-number : goal.invariant-loop-number
invariant-loop-number l = record {
  planning : items_applied l.fn.settings l.number (drop l.number l.items) (planning_of l.planner) ≡ items_applied l.fn.settings 0 l.items (nothing_planned l.fn.frames.items);
  frame : l.planner.frame + length l.planner.frames.items ≤ 100000;
  packets : length l.planner.packets ≤ l.planner.frame;
  settings : l.planner.state.settings ≡ l.fn.settings;
}
