use Rattle.std.proofs.Common.{length}
use Rattle.and_plain.proofs.usage.+give_orders.Given as goal

abbrev pub decreases-give_orders : goal.decreases-give_orders
decreases-give_orders l = length l.usage.now
