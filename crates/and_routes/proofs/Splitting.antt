-- The first of a list by an order, where all that meet one test come before all that meet another.
use Rattle.std.proofs.Common.{◌≡◌, Bool, true, false, ◌||◌, List, [], ◌∷◌, Option, Some, None, cond, refl, ap, sym, ◌∙◌}
use Rattle.std.specs.Prelude.{if◌then◌else◌}
use Rattle.std.specs.Option.{option_or}
use Rattle.std.specs.List.{filter}
use Rattle.std.proofs.lemmas.Bool.{false≢true}
use Rattle.and_policy.specs.Matching.{better, least}

module _ {A : Type 0} where
  some_is : (x y : A) → Some x ≡ Some y → x ≡ y
  some_is x y h = cc h

  abbrev Meets : (A → Bool) → Option A → Type 0
  Meets t None = Unit {0}
  Meets t (Some y) = t y ≡ true

  better_meets : (before : A → A → Bool) (t : A → Bool) (x : A) (o : Option A) → t x ≡ true → Meets t o → t (better before x o) ≡ true
  better_meets before t x None e m = e
  better_meets before t x (Some y) e m = choose (before y x)
    where
      choose : (b : Bool) → t (if b then y else x) ≡ true
      choose true = m
      choose false = e

  least_meets : (before : A → A → Bool) (t : A → Bool) (xs : List A) → Meets t (least before (filter t xs))
  least_meets before t [] = tt
  least_meets before t (x ∷ xs) = at_first (t x) refl (least_meets before t xs)
    where
      at_first : (b : Bool) → t x ≡ b → Meets t (least before (filter t xs)) → Meets t (least before (cond b (x ∷ filter t xs) (filter t xs)))
      at_first true e ih = better_meets before t x (least before (filter t xs)) e ih
      at_first false e ih = ih

  -- q comes first, then s
  pub record Precedes (before before2 : A → A → Bool) (p q s : A → Bool) : Type 0 where
    pub whole : (x : A) → p x ≡ (q x || s x)
    pub first : (x y : A) → q x ≡ true → s y ≡ true → before x y ≡ true
    pub last : (x y : A) → q x ≡ true → s y ≡ true → before y x ≡ false
    pub same : (x y : A) → q x ≡ true → q y ≡ true → before x y ≡ before2 x y

  module _ (before before2 : A → A → Bool) (p q s : A → Bool) where
    top : Precedes before before2 p q s → (x : A) (a b l : Option A) → q x ≡ true → l ≡ option_or a b → Meets q a → Meets s b → better before x l ≡ better before2 x a
    top h x None None l e g m n = rw g refl
    top h x None (Some z) l e g m n = rw (g, h.last x z e n) refl
    top h x (Some y) b l e g m n = rw (g, h.same y x m e) refl

    rest : Precedes before before2 p q s → (x : A) (a b l : Option A) → s x ≡ true → l ≡ option_or a b → Meets q a → Some (better before x l) ≡ option_or a (Some (better before x b))
    rest h x None b l e g m = rw g refl
    rest h x (Some y) b l e g m = rw (g, h.first y x m e) refl

    pub split : Precedes before before2 p q s → (xs : List A) → least before (filter p xs) ≡ option_or (least before2 (filter q xs)) (least before (filter s xs))
    split h [] = refl
    split h (x ∷ xs) = at_first (q x) refl (s x) refl (p x) (h.whole x) (split h xs)
      where
        at_first : (b : Bool) → q x ≡ b → (c : Bool) → s x ≡ c → (d : Bool) → d ≡ (q x || s x)
            → least before (filter p xs) ≡ option_or (least before2 (filter q xs)) (least before (filter s xs))
            → least before (cond d (x ∷ filter p xs) (filter p xs)) ≡ option_or (least before2 (cond b (x ∷ filter q xs) (filter q xs))) (least before (cond c (x ∷ filter s xs) (filter s xs)))
        at_first true e true f d g ih = absurd (false≢true (sym (h.last x x e f) ∙ h.first x x e f))
        at_first true e false f d g ih =
            rw (g, e) (ap (λ (y : A). Some y) (top h x (least before2 (filter q xs)) (least before (filter s xs)) (least before (filter p xs)) e ih (least_meets before2 q xs) (least_meets before s xs)))
        at_first false e true f d g ih =
            rw (g, e, f) (rest h x (least before2 (filter q xs)) (least before (filter s xs)) (least before (filter p xs)) f ih (least_meets before2 q xs))
        at_first false e false f d g ih = rw (g, e, f) ih
