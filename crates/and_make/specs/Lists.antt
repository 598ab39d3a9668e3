-- Lists that are told place by place.
use Rattle.std.specs.Prelude.{ℕ, zero, suc, List, [], ◌∷◌, ◌++◌}

-- what f gives of each number below n, in their order
unfoldable pub below : {A : Type 0} → (ℕ → A) → ℕ → List A
below f zero = []
below f (suc n) = below f n ++ f n ∷ []
