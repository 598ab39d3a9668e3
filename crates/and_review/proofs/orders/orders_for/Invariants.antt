use Rattle.std.proofs.Common.{◌≡◌, ◌++◌, drop}
use Rattle.and_review.specs.Orders as spec
use Rattle.and_review.proofs.orders.orders_for.Given as goal

abbrev pub invariant-loop-key : goal.invariant-loop-key
invariant-loop-key l = spec.orders_for l.settings l.routes l.keys ≡ l.orders.items ++ spec.orders_for l.settings l.routes (drop l.key-index l.keys)
