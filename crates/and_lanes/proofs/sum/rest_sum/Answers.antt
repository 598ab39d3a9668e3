use Rattle.std.proofs.Common.{arith}
use Rattle.and_lanes.proofs.Sums.{words_sum-le}
use Rattle.and_lanes.proofs.sum.rest_sum.Goals as goal

pub overflow_add-sum-in-len2-up : goal.overflow_add-sum-in-len2-up
overflow_add-sum-in-len2-up c = omega (arith, c.loop-rest.invariant, c.requires, words_sum-le c.args.bytes.now (λ i. omega (arith, c.type_inv.bytes i)))

pub overflow_add-result : goal.overflow_add-result
overflow_add-result c = omega (arith, c.loop-rest.invariant, c.requires, words_sum-le c.args.bytes.now (λ i. omega (arith, c.type_inv.bytes i)))
