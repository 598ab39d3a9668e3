use Rattle.std.proofs.Common.{arith}
use Rattle.and_events.specs.Usage.{usage_after}
use Rattle.deciding_rows.proofs.usages.Counted.clear.Goals as goal

pub invariant_of-self : goal.invariant_of-self
unfolding usage_after
invariant_of-self c = λ key. rw c.clear.ensures.used (omega arith)
