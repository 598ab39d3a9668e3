use Rattle.std.proofs.Common.{◌≡◌, ◌≤◌, length, drop}
use Rattle.std.specs.Prelude.{◌==◌, ◌&&◌, not}
use Rattle.std.specs.List.{list_any}
use Rattle.and_policy.specs.Logged.{entries_in, entry_of_op}
use Rattle.and_policy.specs.Programmes as spec
use Rattle.and_policy.proofs.plain.touches.ends_order.Given as goal

abbrev pub invariant-loop-at : goal.invariant-loop-at
invariant-loop-at l = (l.at ≤ length l.earlier) × (l.found ≡ list_any (λ order. (order.net == l.net) && not (list_any (spec.same_order order) (spec.living (entries_in entry_of_op l.until) l.until))) (spec.living (entries_in entry_of_op l.earlier) (drop l.at l.earlier)))

abbrev pub decreases-loop-at : goal.decreases-loop-at
decreases-loop-at l = l.at
