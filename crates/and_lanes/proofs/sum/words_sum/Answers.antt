use Rattle.std.proofs.Common.{◌+◌, ◌*◌, arith}
use Rattle.and_lanes.proofs.Sums.{words_sum-le}
use Rattle.and_lanes.proofs.Pairing.{joined, ended}
use Rattle.and_lanes.proofs.sum.words_sum.Goals as goal

pub overflow_add-sum : goal.overflow_add-sum
overflow_add-sum c =
    let i = c.loop-at.invariant in
    let two = joined c.args.bytes.now c.loop-at.at (16 * c.min-blocks.result) i.2.0 i.2.1 (omega arith) in
    let all = ended c.args.bytes.now (c.loop-at.at + 16 * c.min-blocks.result) (i.2.0 + 8 * c.min-blocks.result) (omega arith) (omega arith) in
    let most = words_sum-le c.args.bytes.now (λ k. omega (arith, c.type_inv.bytes k)) in
    record { fits = omega (arith, i, two, all, most, c.from-sum.ensures, c.blocks_sum.ensures) }

pub loop-at-preserved : goal.loop-at-preserved
loop-at-preserved c =
    let i = c.loop-at.invariant in
    let two = joined c.args.bytes.now c.loop-at.at (16 * c.min-blocks.result) i.2.0 i.2.1 (omega arith) in (
      omega (arith, c.min-blocks.ensures, c.loop-at-test.true, i),
      omega (arith, i, two, c.from-sum.ensures, c.blocks_sum.ensures),
      (i.2.0 + 8 * c.min-blocks.result, omega (arith, i)),
      i.3,
    )

pub overflow_add-result : goal.overflow_add-result
overflow_add-result c =
    let i = c.loop-at.invariant in
    let all = ended c.args.bytes.now c.loop-at.at i.2.0 i.2.1 (omega arith) in
    let most = words_sum-le c.args.bytes.now (λ k. omega (arith, c.type_inv.bytes k)) in
    record { fits = omega (arith, i, all, most, c.from.ensures, c.rest_sum.ensures) }

pub returns-clause-value : goal.returns-clause-value
returns-clause-value c =
    let i = c.loop-at.invariant in
    let all = ended c.args.bytes.now c.loop-at.at i.2.0 i.2.1 (omega arith) in
    omega (arith, i, all, c.from.ensures, c.rest_sum.ensures)

pub returns-clause-bound : goal.returns-clause-bound
returns-clause-bound c =
    let i = c.loop-at.invariant in
    let all = ended c.args.bytes.now c.loop-at.at i.2.0 i.2.1 (omega arith) in
    let most = words_sum-le c.args.bytes.now (λ k. omega (arith, c.type_inv.bytes k)) in
    omega (arith, i, all, most, c.from.ensures, c.rest_sum.ensures)
