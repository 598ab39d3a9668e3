-- Lists in which at most one element meets a test.
use Rattle.std.specs.Prelude.{◌≡◌, Bool, true, false, List, [], ◌∷◌}
use Rattle.std.specs.List.{list_any}

module _ {A : Type 0} where
  abbrev pub Once : (A → Bool) → List A → Type 0
  Once test [] = Unit {0}
  Once test (x ∷ xs) = (test x ≡ true → list_any test xs ≡ false) × Once test xs
