-- Hairpins: where there are none, and which is the first that is ripe.
use Rattle.std.specs.Prelude.{◌↔◌, IsTrue}
use Rattle.std.specs.List.{All}
use Rattle.std.proofs.Common.{◌≡◌, ℕ, suc, zero, ◌<◌, ◌≤◌, Bool, List, [], ◌∷◌, length, get_or, ⊎_elim, inl, inr, ap, refl, sym, subst, ◌∙◌, arith}
use Rattle.std.proofs.lemmas.Bool.{cases_lt}
use Rattle.std.proofs.lemmas.List.{get_or_past}
use Rattle.and_policy.specs.declared.port.Port.{Port}
use Rattle.and_policy.specs.declared.port.Port.TheVariants as port_states
use Rattle.and_events.specs.declared.plan.Plan.{Plan}
use Rattle.and_events.specs.Ports.{port_at, IsHairpin}
use Rattle.and_events.specs.State.{State}
use Rattle.and_events.specs.Legal.{IsRipe, Before}

none_past : (ports : List (List Port)) (host vm : ℕ) → length ports ≤ vm → port_at ports host vm ≡ port_states.Absent
none_past ports host vm past = ap (λ (row : List Port). get_or row host port_states.Absent) (get_or_past ports vm [] past)

-- only VMs that have ports have hairpins
pub ripe_within : (plan : Plan) (s : State) (host vm : ℕ) → IsRipe plan s host vm → vm < length s.ports
ripe_within plan s host vm (to, entry, here, is, each) =
    ⊎_elim (λ (w : vm < length s.ports). w)
    (λ (w : length s.ports ≤ vm). let no : port_states.Absent ≡ port_states.Hairpin to entry = sym (none_past s.ports host vm w) ∙ is in let never : ⊥ = cc in absurd never)
    (cases_lt vm (length s.ports))

pub none_ripe : (plan : Plan) (s : State) (host n : ℕ) (r : Bool) → n ≡ length s.ports
    → (IsTrue r ↔ ((vm : ℕ) → vm < n → IsRipe plan s host vm → ⊥)) → (IsTrue r ↔ ((vm : ℕ) → IsRipe plan s host vm → ⊥))
none_ripe plan s host n r is e =
    ((λ t vm ripe. let less : vm < length s.ports = ripe_within plan s host vm ripe in e.0 t vm (omega arith) ripe), (λ none. e.1 (λ vm less ripe. none vm ripe)))

-- no ripe hairpin stands before this one: none at a smaller host, and none of a smaller VM at this host
pub first_ripe : (plan : Plan) (s : State) (host vm : ℕ) (r a b : Bool) → (IsTrue r ↔ (IsTrue a × IsTrue b))
    → (IsTrue a ↔ ((h : ℕ) → h < host → (v : ℕ) → IsRipe plan s h v → ⊥)) → (IsTrue b ↔ ((v : ℕ) → v < vm → IsRipe plan s host v → ⊥))
    → (IsTrue r ↔ ((h v : ℕ) → IsRipe plan s h v → Before h v host vm → ⊥))
first_ripe plan s host vm r a b e ea eb = (
  (λ t h v ripe before.
      ⊎_elim (λ (w : h < host). ea.0 (e.0 t).0 h w v ripe)
      (λ (w : (h ≡ host) × (v < vm)). eb.0 (e.0 t).1 v w.1 (subst (λ (x : ℕ). IsRipe plan s x v) w.0 ripe)) before),
  (λ all. e.1 (ea.1 (λ h less v ripe. all h v ripe (inl less)), eb.1 (λ v less ripe. all host v ripe (inr (refl, less))))),
)

at : {A : Type 0} (P : A → Type 0) (d : A) (xs : List A) → P d → All P xs → (k : ℕ) → P (get_or xs k d)
at P d [] here all k = here
at P d (x ∷ xs) here all zero = all zero d (omega arith)
at P d (x ∷ xs) here all (suc k) = at P d xs here (λ j e less. all (suc j) e (omega arith)) k

from : {A : Type 0} (P : A → Type 0) (d : A) (xs : List A) → ((k : ℕ) → P (get_or xs k d)) → All P xs
from P d [] each k e less = let never : ⊥ = omega arith in absurd never
from P d (x ∷ xs) each zero e less = each zero
from P d (x ∷ xs) each (suc k) e less = from P d xs (λ j. each (suc j)) k e (omega arith)

abbrev pub IsFree : Port → Type 0
IsFree p = IsHairpin p → ⊥

-- no port at all is a hairpin
pub no_hairpin : (ports : List (List Port)) (r : Bool) → (IsTrue r ↔ All (λ row. All IsFree row) ports)
    → (IsTrue r ↔ ((host vm : ℕ) → IsHairpin (port_at ports host vm) → ⊥))
no_hairpin ports r e = (
  (λ t host vm. at IsFree port_states.Absent (get_or ports vm []) (λ hairpin. hairpin) (at (λ row. All IsFree row) [] ports (λ k d less. let never : ⊥ = omega arith in absurd never) (e.0 t) vm) host),
  (λ none. e.1 (from (λ row. All IsFree row) [] ports (λ vm. from IsFree port_states.Absent (get_or ports vm []) (λ host. none host vm)))),
)

pub no_hairpin_of : (rows ports : List (List Port)) (r : Bool) → rows ≡ ports → (IsTrue r ↔ All (λ row. All IsFree row) rows)
    → (IsTrue r ↔ ((host vm : ℕ) → IsHairpin (port_at ports host vm) → ⊥))
no_hairpin_of rows ports r is e =
    subst (λ (x : List (List Port)). IsTrue r ↔ ((host vm : ℕ) → IsHairpin (port_at x host vm) → ⊥)) is (no_hairpin rows r e)
