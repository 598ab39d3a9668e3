use Rattle.std.proofs.Common.{◌≡◌, take}
use Rattle.and_events.specs.Run.{past}
use Rattle.and_events.specs.State.{state}
use Rattle.and_report.proofs.run_orders.installed_after.Given as goal

abbrev pub invariant-loop-line : goal.invariant-loop-line
invariant-loop-line l = l.installed.items ≡ (state l.plan (past (take l.line-index l.lines))).programmes.installed
