use Rattle.std.proofs.Common.{◌≡◌, take}
use Rattle.and_events.specs.Run.{past}
use Rattle.and_events.specs.State.{state}
use Rattle.and_outputs.specs.Underlay.{underlay}
use Rattle.and_outputs.proofs.underlay.underlay_capture.Given as goal

abbrev pub invariant-loop-line : goal.invariant-loop-line
invariant-loop-line l = record {
  carried : l.carried.items ≡ (state l.plan (past (take l.line-index l.lines))).flow.carried;
  out : l.out.items ≡ underlay l.plan (past (take l.line-index l.lines));
}
