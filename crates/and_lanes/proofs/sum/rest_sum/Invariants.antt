use Rattle.std.proofs.Common.{◌≡◌, ◌+◌, length}
use Rattle.and_policy.specs.Outer.{words_sum}
use Rattle.and_lanes.proofs.sum.rest_sum.Given as goal

abbrev pub invariant-loop-rest : goal.invariant-loop-rest
invariant-loop-rest l = (l.sum + words_sum l.rest ≡ words_sum l.bytes)

abbrev pub decreases-loop-rest : goal.decreases-loop-rest
decreases-loop-rest l = length l.rest
