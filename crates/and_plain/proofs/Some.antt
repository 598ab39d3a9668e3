-- Searches: a number below a bound that has a fact.
use Rattle.std.specs.Prelude.{◌↔◌, IsTrue}
use Rattle.std.proofs.Common.{◌≡◌, ℕ, ◌<◌, ◌≤◌, Bool, true, false, refl, arith}
use Rattle.and_events.specs.declared.plan.Plan.{Plan}
use Rattle.and_events.specs.State.{State}
use Rattle.and_events.specs.Legal.{IsRipe}
use Rattle.and_plain.proofs.Ripe.{ripe_within}
use Rattle.std.proofs.Common.{length}

pub some_found : (P : ℕ → Type 0) (n k : ℕ) → k < n → P k → (IsTrue true ↔ ((m : ℕ) × (m < n) × P m))
some_found P n k less here = ((λ t. (k, less, here)), (λ found. refl))

pub some_none : (P : ℕ → Type 0) (n k : ℕ) → n ≤ k → ((m : ℕ) → m < k → P m → ⊥) → (IsTrue false ↔ ((m : ℕ) × (m < n) × P m))
some_none P n k past none = ((λ (t : false ≡ true). let never : ⊥ = cc in absurd never), (λ found. absurd (none found.0 (omega (arith, found.1)) found.2)))

pub ripe_at : (plan : Plan) (s : State) (host n : ℕ) (r : Bool) → n ≡ length s.ports
    → (IsTrue r ↔ ((vm : ℕ) × (vm < n) × IsRipe plan s host vm)) → (IsTrue r ↔ ((vm : ℕ) × IsRipe plan s host vm))
ripe_at plan s host n r is e = (
  (λ t. ((e.0 t).0, (e.0 t).2)),
  (λ ripe. let less : ripe.0 < length s.ports = ripe_within plan s host ripe.0 ripe.1 in e.1 (ripe.0, omega arith, ripe.1)),
)

pub ripe_anywhere : (plan : Plan) (s : State) (r : Bool)
    → (IsTrue r ↔ ((host : ℕ) × (host < plan.settings.hosts) × ((vm : ℕ) × IsRipe plan s host vm)))
    → (IsTrue r ↔ ((host vm : ℕ) × IsRipe plan s host vm))
ripe_anywhere plan s r e =
    ((λ t. ((e.0 t).0, (e.0 t).2.0, (e.0 t).2.1)), (λ ripe. e.1 (ripe.0, ripe.2.2, (ripe.1, ripe.2))))
