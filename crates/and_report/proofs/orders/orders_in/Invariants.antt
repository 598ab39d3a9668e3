use Rattle.std.proofs.Common.{◌≡◌, take}
use Rattle.and_report.specs.Tally.{orders_among}
use Rattle.and_report.proofs.orders.orders_in.Given as goal

abbrev pub invariant-loop-place : goal.invariant-loop-place
invariant-loop-place l = l.orders ≡ orders_among (take l.place l.s.programmes.ops)
