use Rattle.std.proofs.Common.{arith}
use Rattle.and_review.proofs.Ticks.{now-few}
use Rattle.and_review.proofs.orders.order_for.Goals as goal

pub overflow_add-result : goal.overflow_add-result
overflow_add-result c = omega (arith, now-few c.args.routes.now, c.requires.small, c.ticks.ensures)
