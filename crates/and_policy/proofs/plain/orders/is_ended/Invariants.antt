use Rattle.std.proofs.Common.{◌≡◌, ◌≤◌, length, drop}
use Rattle.std.specs.List.{list_any}
use Rattle.and_policy.specs.Logged.{entries_in, entry_of_op}
use Rattle.and_policy.specs.Programmes as spec
use Rattle.and_policy.proofs.plain.orders.is_ended.Given as goal

abbrev pub invariant-loop-at : goal.invariant-loop-at
invariant-loop-at l = (l.at ≤ length l.later) × (l.ended ≡ list_any (spec.ends (entries_in entry_of_op l.ops) l.order) (drop l.at l.later))

abbrev pub decreases-loop-at : goal.decreases-loop-at
decreases-loop-at l = l.at
