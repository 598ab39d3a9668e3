use Rattle.std.proofs.Common.{sym, ◌∙◌, arith}
use Rattle.and_lanes.proofs.Sums.{folded-step}
use Rattle.and_lanes.proofs.sum.folded.Goals as goal

pub loop-sum-preserved : goal.loop-sum-preserved
loop-sum-preserved c = sym (folded-step c.loop-sum.sum (omega arith)) ∙ c.loop-sum.invariant
