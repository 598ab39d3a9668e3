-- The lists of a drill grow at their end.
use Rattle.std.proofs.Common.{◌≡◌, ℕ, ◌+◌, List, [], ◌∷◌, ◌++◌, refl, sym, ap, ◌∙◌, append_assoc, add-one}
use Rattle.std.proofs.lemmas.List.{append-nil}
use Rattle.and_make.specs.Lists.{below}
use Rattle.and_make.specs.Script.{script, items_of, beginning}

pub below_none : {A : Type 0} (f : ℕ → A) → below f 0 ≡ []
unfolding below
below_none f = refl

pub below_more : {A : Type 0} (f : ℕ → A) (n : ℕ) → below f (n + 1) ≡ below f n ++ f n ∷ []
unfolding below
below_more f n = rw add-one refl

pub script_none : script 0 ≡ beginning
unfolding script
script_none = refl

pub script_more : (n : ℕ) → script (n + 1) ≡ script n ++ items_of n
unfolding script
script_more n = rw add-one refl

-- nothing was put behind them yet
pub grown_none : {A : Type 0} (f : ℕ → A) (start : List A) → start ≡ start ++ below f 0
grown_none f start = sym (ap (λ l. start ++ l) (below_none f) ∙ append-nil start)

-- one more was put behind them
pub grown_more : {A : Type 0} (f : ℕ → A) (start now next : List A) (n : ℕ) (one : A) → now ≡ start ++ below f n → one ≡ f n → next ≡ now ++ one ∷ []
    → next ≡ start ++ below f (n + 1)
grown_more f start now next n one before is put =
    put ∙ ap (λ x. now ++ x ∷ []) is ∙ ap (λ l. l ++ f n ∷ []) before ∙ append_assoc start (below f n) (f n ∷ []) ∙ ap (λ l. start ++ l) (sym (below_more f n))
