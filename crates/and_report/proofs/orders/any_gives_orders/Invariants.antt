use Rattle.std.proofs.Common.{◌≡◌, take}
use Rattle.std.specs.List.{list_any}
use Rattle.and_events.specs.Run.{past}
use Rattle.and_report.specs.Orders.{gives_orders}
use Rattle.and_report.proofs.orders.any_gives_orders.Given as goal

abbrev pub invariant-loop-line : goal.invariant-loop-line
invariant-loop-line l = l.any ≡ list_any (gives_orders l.plan) (past (take l.line-index l.lines))
