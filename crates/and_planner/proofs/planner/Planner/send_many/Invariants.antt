use Rattle.std.proofs.Common.{◌≡◌, ◌+◌, ◌≤◌, length}
use Rattle.and_events.specs.Planned.{send_frames}
use Rattle.and_planner.specs.Planners.{planning_of}
use Rattle.and_planner.proofs.planner.Planner.send_many.Given as goal

abbrev pub invariant-loop-left : goal.invariant-loop-left
invariant-loop-left l = record {
  planning : send_frames l.left (planning_of l.self) ≡ send_frames l.count (planning_of l.initial.self);
  frame : l.self.frame + length l.self.frames.items ≤ 100000;
  packets : length l.self.packets ≤ l.self.frame;
  state : l.self.state ≡ l.initial.self.state;
}

abbrev pub decreases-loop-left : goal.decreases-loop-left
decreases-loop-left l = l.left
