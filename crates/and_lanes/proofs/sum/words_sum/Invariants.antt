use Rattle.std.proofs.Common.{◌≡◌, ◌+◌, ◌-◌, ◌≤◌, ◌<◌, ◌^◌, ℕ, take}
use Rattle.and_policy.specs.Outer as outer
use Rattle.and_lanes.proofs.sum.words_sum.Given as goal

abbrev pub invariant-loop-at : goal.invariant-loop-at
invariant-loop-at l =
    (l.at ≤ l.len) × (l.sum ≡ outer.words_sum (take l.at l.bytes)) × ((half : ℕ) × (l.at ≡ half + half)) × (l.len < 2 ^ 64)

abbrev pub decreases-loop-at : goal.decreases-loop-at
decreases-loop-at l = l.len - l.at
