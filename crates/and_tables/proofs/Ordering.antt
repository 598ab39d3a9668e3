-- Rules that stay in the order in which they are tried.
use Rattle.std.proofs.Common.{◌≡◌, ℕ, zero, suc, ◌+◌, ◌<◌, Bool, true, false, List, [], ◌∷◌, length, get_or, refl, subst, arith}
use Rattle.std.specs.Prelude.{if◌then◌else◌}
use Rattle.std.specs.Cmp.{IsStrictWeakOrder}
use Rattle.std.specs.List.Sorted.{IsSortedBy}
use Rattle.and_policy.specs.declared.entry.Rule.{Rule}
use Rattle.and_policy.specs.Egress.{rule_before}
use Rattle.and_policy.specs.Sorting.{place}

pub ranks : IsStrictWeakOrder rule_before
ranks = record { one_way = λ a b h. grind arith; chain = λ a b c h g. grind arith }

one_way : (a b : Rule) → rule_before a b ≡ true → rule_before b a ≡ false
one_way a b h = grind arith

-- none comes before the one that stands just before it
abbrev Rises : List Rule → Type 0
Rises [] = Unit {0}
Rises (x ∷ []) = Unit {0}
Rises (x ∷ y ∷ ys) = (rule_before y x ≡ false) × Rises (y ∷ ys)

rises : (xs : List Rule) → ((k : ℕ) (d : Rule) → suc k < length xs → rule_before (get_or xs (suc k) d) (get_or xs k d) ≡ false) → Rises xs
rises [] h = tt
rises (x ∷ []) h = tt
rises (x ∷ y ∷ ys) h = (h 0 x (omega arith), rises (y ∷ ys) (λ k d l. h (suc k) d (omega (arith, l))))

by_place : (xs : List Rule) → Rises xs → (k : ℕ) (d : Rule) → suc k < length xs → rule_before (get_or xs (suc k) d) (get_or xs k d) ≡ false
by_place [] s k d l = absurd (omega (arith, l))
by_place (x ∷ []) s k d l = absurd (omega (arith, l))
by_place (x ∷ y ∷ ys) s zero d l = s.0
by_place (x ∷ y ∷ ys) s (suc k) d l = by_place (y ∷ ys) s.1 k d (omega (arith, l))

rises_place : (x : Rule) (ys : List Rule) → Rises ys → Rises (place rule_before x ys)
rises_place x [] s = tt
rises_place x (y ∷ []) s = at_first (rule_before x y) refl
  where
    at_first : (b : Bool) → rule_before x y ≡ b → Rises (if b then x ∷ y ∷ [] else y ∷ x ∷ [])
    at_first true e = (one_way x y e, tt)
    at_first false e = (e, tt)
rises_place x (y ∷ z ∷ ys) s = at_first (rule_before x y) refl (rule_before x z) (rises_place x (z ∷ ys) s.1)
  where
    at_first : (b : Bool) → rule_before x y ≡ b → (c : Bool) → Rises (if c then x ∷ z ∷ ys else z ∷ place rule_before x ys)
        → Rises (if b then x ∷ y ∷ z ∷ ys else y ∷ (if c then x ∷ z ∷ ys else z ∷ place rule_before x ys))
    at_first true e c ih = (one_way x y e, s)
    at_first false e true ih = (e, ih)
    at_first false e false ih = (s.0, ih)

-- a rule goes to its place
pub in_order_place : (x : Rule) (ys : List Rule) → IsSortedBy rule_before ys → IsSortedBy rule_before (place rule_before x ys)
in_order_place x ys s =
    let up = rises_place x ys (rises ys (λ k d l. subst (λ n. rule_before (get_or ys n d) (get_or ys k d) ≡ false) (plus_one k) (s k d (omega arith) (omega (arith, l))))) in
    λ k d low high. subst (λ n. rule_before (get_or (place rule_before x ys) n d) (get_or (place rule_before x ys) k d) ≡ false) (one_plus k) (by_place (place rule_before x ys) up k d (omega (arith, high)))
  where
    plus_one : (k : ℕ) → k + 1 ≡ suc k
    plus_one k = omega arith

    one_plus : (k : ℕ) → suc k ≡ k + 1
    one_plus k = omega arith

pub in_order_none : IsSortedBy rule_before []
in_order_none = λ k d low high. absurd (omega (arith, high))
