-- Lists of parts, each of which is right for its place.
use Rattle.std.specs.Prelude.{◌≡◌, ℕ, List, length, Some, slice_get}

-- there are so many, and each is right for its place, counted from 0
pub record AreAt {A : Type 0} (P : ℕ → A → Type 0) (count : ℕ) (xs : List A) : Type 0 where
  pub many : length xs ≡ count
  pub each : (n : ℕ) (x : A) → slice_get xs n ≡ Some x → P n x
