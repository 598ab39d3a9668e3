-- The network into which a packet's one Egress and one Route lead.
use Rattle.std.specs.Prelude.{◌↔◌}
use Rattle.std.proofs.Common.{◌≡◌, ℕ, ◌≤◌, ◌<◌, List, [], ◌∷◌, length, get_or, Option, Some, None, ⊎_elim, inl, inr, refl, sym, ap, subst, ◌∙◌, arith}
use Rattle.and_policy.specs.declared.decision.Dest.{Dest}
use Rattle.and_policy.specs.declared.decision.Dest.TheVariants.{Offload, Hover}
use Rattle.and_events.specs.declared.plan.Plan.{Plan}
use Rattle.and_events.specs.Just.{Left, Led}
use Rattle.and_plain_fates.specs.Behind.{Allows, LeadsTo, Leads, SentOnce, routed_from}

-- a list of one item
pub single : {A : Type 0} (xs : List A) (d : A) → 1 ≤ length xs → length xs < 2 → xs ≡ get_or xs 0 d ∷ []
single [] d some few = let never : ⊥ = omega arith in absurd never
single (x ∷ []) d some few = refl
single (x ∷ y ∷ rest) d some few = let never : ⊥ = omega arith in absurd never

-- what is answered for the one item
pub once_is : {A : Type 0} (P : A → ℕ → Type 0) (xs : List A) (x : A) (r : Option ℕ) → xs ≡ x ∷ [] → ((net : ℕ) → (r ≡ Some net) ↔ P x net)
    → (net : ℕ) → (r ≡ Some net) ↔ ((y : A) × (xs ≡ y ∷ []) × P y net)
once_is P xs x r is all net = (
  (λ t. (x, is, (all net).0 t)),
  (λ found. (all net).1 (subst (λ y. P y net) (ap (λ ys. get_or ys 0 x) (sym found.1 ∙ is)) found.2)),
)

pub by_offload : (plan : Plan) (i : ℕ) (left : Left) (leds : List Led) (host net : ℕ) (o : Option Dest) (r : Option ℕ)
    → ((dest : Dest) → (o ≡ Some dest) ↔ Allows plan i left dest) → o ≡ Some (Offload host net)
    → ((to : ℕ) → (r ≡ Some to) ↔ ((net ≡ to) × LeadsTo (routed_from plan i left.behind) net host))
    → (to : ℕ) → (r ≡ Some to) ↔ Leads plan i left leds to
by_offload plan i left leds host net o r eo is er to = (
  (λ t. let here = (er to).0 t in
      inl (
        host,
        subst (λ m. Allows plan i left (Offload host m)) here.0 ((eo (Offload host net)).0 is),
        subst (λ m. LeadsTo (routed_from plan i left.behind) m host) here.0 here.1,
      )),
  (λ leads. ⊎_elim
      (λ off. let there : o ≡ Some (Offload off.0 to) = (eo (Offload off.0 to)).1 off.1 in
      let same : net ≡ to = cc in
      let at : off.0 ≡ host = cc in
      (er to).1 (
        same,
        subst (λ m. LeadsTo (routed_from plan i left.behind) net m) at
            (subst (λ m. LeadsTo (routed_from plan i left.behind) m off.0) (sym same) off.2),
      ))
      (λ hover. let there : o ≡ Some (Hover hover.0.0) = (eo (Hover hover.0.0)).1 hover.0.1 in
      let never : ⊥ = cc in absurd never)
      leads),
)

pub by_hover : (plan : Plan) (i : ℕ) (left : Left) (leds : List Led) (gateway : ℕ) (o : Option Dest) (r : Option ℕ)
    → ((dest : Dest) → (o ≡ Some dest) ↔ Allows plan i left dest) → o ≡ Some (Hover gateway)
    → ((to : ℕ) → (r ≡ Some to) ↔ SentOnce plan i leds to)
    → (to : ℕ) → (r ≡ Some to) ↔ Leads plan i left leds to
by_hover plan i left leds gateway o r eo is er to = (
  (λ t. inr ((gateway, (eo (Hover gateway)).0 is), (er to).0 t)),
  (λ leads. ⊎_elim
      (λ off. let there : o ≡ Some (Offload off.0 to) = (eo (Offload off.0 to)).1 off.1 in
      let never : ⊥ = cc in absurd never)
      (λ hover. (er to).1 hover.1)
      leads),
)

pub by_none : (plan : Plan) (i : ℕ) (left : Left) (leds : List Led) (o : Option Dest) (r : Option ℕ)
    → ((dest : Dest) → (o ≡ Some dest) ↔ Allows plan i left dest) → o ≡ None → r ≡ None
    → (to : ℕ) → (r ≡ Some to) ↔ Leads plan i left leds to
by_none plan i left leds o r eo is none to = (
  (λ t. let never : ⊥ = cc in absurd never),
  (λ leads. ⊎_elim
      (λ off. let there : o ≡ Some (Offload off.0 to) = (eo (Offload off.0 to)).1 off.1 in
      let never : ⊥ = cc in absurd never)
      (λ hover. let there : o ≡ Some (Hover hover.0.0) = (eo (Hover hover.0.0)).1 hover.0.1 in
      let never : ⊥ = cc in absurd never)
      leads),
)
