-- Tests and the facts that they decide.
use Rattle.std.specs.Prelude.{◌↔◌, IsTrue}
use Rattle.std.proofs.Common.{◌≡◌, ℕ, ◌<◌, ◌≤◌, Bool, true, false, refl, arith}

-- a fact of all numbers below a bound fails at one of them
pub all_stops : (P : ℕ → Type 0) (n k : ℕ) → k < n → (P k → ⊥) → (IsTrue false ↔ ((m : ℕ) → m < n → P m))
all_stops P n k less fails = ((λ (t : false ≡ true). let never : ⊥ = cc in absurd never), (λ all. absurd (fails (all k less))))

-- it holds up to the bound
pub all_end : (P : ℕ → Type 0) (n k : ℕ) → n ≤ k → ((m : ℕ) → m < k → P m) → (IsTrue true ↔ ((m : ℕ) → m < n → P m))
all_end P n k past all = ((λ t m less. all m (omega arith)), (λ every. refl))

-- both facts, where both tests decide them
pub both_are : {A B : Type 0} (r a b : Bool) → (IsTrue r ↔ (IsTrue a × IsTrue b)) → (IsTrue a ↔ A) → (IsTrue b ↔ B) → (IsTrue r ↔ (A × B))
both_are r a b e ea eb = ((λ t. (ea.0 (e.0 t).0, eb.0 (e.0 t).1)), (λ both. e.1 (ea.1 both.0, eb.1 both.1)))
