use Rattle.std.proofs.Common.{◌≡◌, drop}
use Rattle.std.specs.List.{find}
use Rattle.and_policy.specs.Caches as caches
use Rattle.and_flow.proofs.group.place_of.Given as goal

abbrev pub invariant-loop-at : goal.invariant-loop-at
invariant-loop-at l = find (λ x. caches.same_key x.key l.key) l.items ≡ find (λ x. caches.same_key x.key l.key) (drop l.at l.items)
