-- Texts that are cut at a byte which their pieces do not have.
use Rattle.std.proofs.Common.{◌≡◌, ◌≢◌, ℕ, Bool, true, false, List, [], ◌∷◌, ◌++◌, ◌&&◌, refl, sym, ap, ◌∙◌, true≢false}
use Rattle.std.specs.List.{list_all}

-- the head and the tail of equal lists are equal
pub head_is : {A : Type 0} (x y : A) (xs ys : List A) → x ∷ xs ≡ y ∷ ys → x ≡ y
head_is {A} x y xs ys e = ap first e
  where
    first : List A → A
    first [] = x
    first (z ∷ zs) = z

pub tail_is : {A : Type 0} (x y : A) (xs ys : List A) → x ∷ xs ≡ y ∷ ys → xs ≡ ys
tail_is {A} x y xs ys e = ap rest e
  where
    rest : List A → List A
    rest [] = []
    rest (z ∷ zs) = zs

-- no byte of the text fails the test
abbrev pub AllPass : (ℕ → Bool) → List ℕ → Type 0
AllPass p [] = Unit {0}
AllPass p (x ∷ xs) = (p x ≡ true) × AllPass p xs

pub both : (a b : Bool) → (a && b) ≡ true → (a ≡ true) × (b ≡ true)
both true b e = (refl, e)
both false b e = absurd (true≢false (sym e))

pub all_pass : (p : ℕ → Bool) (xs : List ℕ) → list_all p xs ≡ true → AllPass p xs
all_pass p [] e = tt
all_pass p (x ∷ xs) e = let b = both (p x) (list_all p xs) e in (b.0, all_pass p xs b.1)

pub pass_both : (p : ℕ → Bool) (xs ys : List ℕ) → AllPass p xs → AllPass p ys → AllPass p (xs ++ ys)
pass_both p [] ys a b = b
pass_both p (x ∷ xs) ys a b = (a.0, pass_both p xs ys a.1 b)

-- a byte that fails the test stands in no text that passes it
differs : (p : ℕ → Bool) (c x : ℕ) → p c ≡ false → p x ≡ true → x ≢ c
differs p c x fails passes e = true≢false (sym passes ∙ (ap p e ∙ fails))

-- up to the first byte that fails the test both texts are the same, and so is that byte
pub cut : (p : ℕ → Bool) (c d : ℕ) (xs ys us vs : List ℕ) → p c ≡ false → p d ≡ false → AllPass p xs → AllPass p ys
    → xs ++ c ∷ us ≡ ys ++ d ∷ vs → (xs ≡ ys) × (c ≡ d) × (us ≡ vs)
cut p c d [] [] us vs f g a b e = (refl, head_is c d us vs e, tail_is c d us vs e)
cut p c d [] (y ∷ ys) us vs f g a b e = absurd (differs p c y f b.0 (sym (head_is c y us (ys ++ d ∷ vs) e)))
cut p c d (x ∷ xs) [] us vs f g a b e = absurd (differs p d x g a.0 (head_is x d (xs ++ c ∷ us) vs e))
cut p c d (x ∷ xs) (y ∷ ys) us vs f g a b e =
    let rest = cut p c d xs ys us vs f g a.1 b.1 (tail_is x y (xs ++ c ∷ us) (ys ++ d ∷ vs) e) in
    (ap (λ z. z ∷ xs) (head_is x y (xs ++ c ∷ us) (ys ++ d ∷ vs) e) ∙ ap (λ zs. y ∷ zs) rest.0, rest.1, rest.2)
