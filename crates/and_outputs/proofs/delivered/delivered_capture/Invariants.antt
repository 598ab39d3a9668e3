use Rattle.std.proofs.Common.{◌≡◌, take}
use Rattle.and_events.specs.Run.{past}
use Rattle.and_outputs.specs.Delivered.{delivered}
use Rattle.and_outputs.proofs.delivered.delivered_capture.Given as goal

abbrev pub invariant-loop-line : goal.invariant-loop-line
invariant-loop-line l = l.out.items ≡ delivered l.plan (past (take l.line-index l.lines))
