use Rattle.std.proofs.Common.{◌≡◌}
use Rattle.and_policy.specs.Outer.{folded}
use Rattle.and_lanes.proofs.sum.folded.Given as goal

abbrev pub invariant-loop-sum : goal.invariant-loop-sum
invariant-loop-sum l = folded l.sum l.sum ≡ folded l.words l.words

abbrev pub decreases-loop-sum : goal.decreases-loop-sum
decreases-loop-sum l = l.sum
