use Rattle.std.proofs.Common.{◌≡◌, ◌≤◌, length, drop}
use Rattle.std.specs.Prelude.{◌==◌, ◌&&◌}
use Rattle.std.specs.List.{find, list_any}
use Rattle.and_policy.specs.Logged.{entries_in, entry_of_op}
use Rattle.and_policy.specs.Programmes as spec
use Rattle.and_policy.proofs.plain.orders.live_in.Given as goal

abbrev pub invariant-loop-at : goal.invariant-loop-at
invariant-loop-at l = (l.at ≤ length l.ops) × (l.search.seen ≡ list_any (spec.orders_for l.net l.ip) (drop l.at l.ops)) × (l.search.live ≡ find (λ order. (order.net == l.net) && (order.ip == l.ip)) (spec.living (entries_in entry_of_op l.ops) (drop l.at l.ops)))

abbrev pub decreases-loop-at : goal.decreases-loop-at
decreases-loop-at l = l.at
