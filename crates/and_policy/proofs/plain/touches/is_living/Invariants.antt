use Rattle.std.proofs.Common.{◌≡◌, ◌≤◌, length, drop}
use Rattle.std.specs.List.{list_any}
use Rattle.and_policy.specs.Logged.{entries_in, entry_of_op}
use Rattle.and_policy.specs.Programmes as spec
use Rattle.and_policy.proofs.plain.touches.is_living.Given as goal

abbrev pub invariant-loop-at : goal.invariant-loop-at
invariant-loop-at l = (l.at ≤ length l.ops) × (l.found ≡ list_any (spec.same_order l.order) (spec.living (entries_in entry_of_op l.ops) (drop l.at l.ops)))

abbrev pub decreases-loop-at : goal.decreases-loop-at
decreases-loop-at l = l.at
