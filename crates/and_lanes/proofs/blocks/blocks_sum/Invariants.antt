use Rattle.std.proofs.Common.{◌≡◌, ◌+◌, ◌*◌, ◌≤◌, length, slice_range}
use Rattle.std.specs.Simd.Lanes.{Each1, sum_l}
use Rattle.and_policy.specs.Outer as outer
use Rattle.and_lanes.proofs.blocks.blocks_sum.Given as goal

abbrev pub invariant-loop-block : goal.invariant-loop-block
invariant-loop-block l =
    Each1 (λ x. x ≤ 255 * l.block) l.high
    × Each1 (λ x. x ≤ 255 * l.block) l.low
    × (256 * sum_l l.high + sum_l l.low ≡ outer.words_sum (slice_range l.bytes l.from (l.from + 16 * l.block)))
    × (length l.high ≡ 8)
    × (length l.low ≡ 8)
