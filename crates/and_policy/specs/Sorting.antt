-- Lists in the order of a relation `before`, each element of which has a number of its own.
use Rattle.std.specs.Prelude.{◌≡◌, ℕ, ◌==◌, Bool, true, false, nat_lt, if◌then◌else◌, List, [], ◌∷◌}
use Rattle.std.specs.List.{list_any}
use Rattle.and_policy.specs.declared.entry.Route.{Route}

-- `before` is a strict order, in which two of different numbers are never alike
pub record IsOrder {A : Type 0} (before : A → A → Bool) (number : A → ℕ) : Type 0 where
  pub asym : (x y : A) → before x y ≡ true → before y x ≡ false
  pub trans : (x y z : A) → before x y ≡ true → before y z ≡ true → before x z ≡ true
  pub total : (x y : A) → (number x ≡ number y → ⊥) → before x y ≡ false → before y x ≡ true

module _ {A : Type 0} (before : A → A → Bool) where
  -- the list with the element before the first that comes after it
  abbrev pub place : A → List A → List A
  place x [] = x ∷ []
  place x (y ∷ ys) = if before x y then x ∷ y ∷ ys else y ∷ place x ys

  abbrev pub sorted : List A → List A
  sorted [] = []
  sorted (x ∷ xs) = place x (sorted xs)

  -- each comes after this one
  abbrev pub AllAfter : A → List A → Type 0
  AllAfter x [] = Unit {0}
  AllAfter x (y ∷ ys) = (before x y ≡ true) × AllAfter x ys

  -- each comes before all that stand behind it
  abbrev pub Ascends : List A → Type 0
  Ascends [] = Unit {0}
  Ascends (x ∷ xs) = AllAfter x xs × Ascends xs

module _ {A : Type 0} (number : A → ℕ) where
  -- no two have the same number
  abbrev pub Differ : List A → Type 0
  Differ [] = Unit {0}
  Differ (x ∷ xs) = (list_any (λ y. number y == number x) xs ≡ false) × Differ xs

-- routes of one prefix: the smaller number comes first
abbrev pub smaller_route : Route → Route → Bool
smaller_route a b = nat_lt a.number b.number
