-- Lists of which an element was set, or which got one more.
use Rattle.std.proofs.Common.{◌≡◌, ◌≢◌, ◌⊎◌, inl, inr, ⊎_elim, ℕ, zero, suc, ◌<◌, List, [], ◌∷◌, ◌++◌, length, set, sym, refl, ap, ◌∙◌, arith}
use mathlib.Core.Option.{some, some-injective, some-ne-none}
use lib.ListN.{get_elem?}
use Rattle.atomic_table.proofs.Lists.{at_set}

module _ {A : Type 0} where
  pub in_range : (l : List A) (i : ℕ) (a : A) → get_elem? l i ≡ some a → i < length l
  in_range [] i a e = absurd (some-ne-none a (sym e))
  in_range (x ∷ xs) zero a e = omega arith
  in_range (x ∷ xs) (suc i) a e = let r = in_range xs i a e in omega arith

  pub same_place : (l : List A) (i j : ℕ) (a b : A) → get_elem? l i ≡ some a → get_elem? l j ≡ some b → i ≡ j → a ≡ b
  same_place l i j a b here there e = some-injective a b (sym here ∙ (ap (λ (k : ℕ). get_elem? l k) e ∙ there))

  pub at_more : (l : List A) (a b : A) (j : ℕ) → get_elem? (l ++ a ∷ []) j ≡ some b → (get_elem? l j ≡ some b) ⊎ ((j ≡ length l) × (a ≡ b))
  at_more [] a b zero e = inr (refl, some-injective a b e)
  at_more [] a b (suc j) e = absurd (some-ne-none b (sym e))
  at_more (x ∷ xs) a b zero e = inl e
  at_more (x ∷ xs) a b (suc j) e = ⊎_elim (λ (h : get_elem? xs j ≡ some b). inl h) (λ (h : (j ≡ length xs) × (a ≡ b)). inr (ap suc h.0, h.1)) (at_more xs a b j e)

  -- what stands at j after one was set and one was added
  pub at_split : (l : List A) (id j : ℕ) (a b x : A) → get_elem? (set l id a ++ b ∷ []) j ≡ some x
      → ((j ≡ id) × (a ≡ x)) ⊎ (((j ≢ id) × (get_elem? l j ≡ some x)) ⊎ ((j ≡ length (set l id a)) × (b ≡ x)))
  at_split l id j a b x e = ⊎_elim
      (λ (h : get_elem? (set l id a) j ≡ some x). ⊎_elim (λ (p : (j ≡ id) × (a ≡ x)). inl p) (λ (p : (j ≢ id) × (get_elem? l j ≡ some x)). inr (inl p)) (at_set l id j a x h))
      (λ (h : (j ≡ length (set l id a)) × (b ≡ x)). inr (inr h))
      (at_more (set l id a) b x j e)

  -- what stands at j after two were set
  pub at_join : (l : List A) (id other j : ℕ) (a b x : A) → get_elem? (set (set l id a) other b) j ≡ some x
      → ((j ≡ other) × (b ≡ x)) ⊎ ((j ≢ other) × (((j ≡ id) × (a ≡ x)) ⊎ ((j ≢ id) × (get_elem? l j ≡ some x))))
  at_join l id other j a b x e = ⊎_elim
      (λ (p : (j ≡ other) × (b ≡ x)). inl p)
      (λ (p : (j ≢ other) × (get_elem? (set l id a) j ≡ some x)). inr (p.0, at_set l id j a x p.1))
      (at_set (set l id a) other j b x e)
