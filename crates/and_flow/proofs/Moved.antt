-- A list whose items after a place move down by one, one after the other.
use Rattle.std.proofs.Common.{◌≡◌, ◌<◌, ◌≤◌, ◌+◌, ◌∙◌, ℕ, zero, suc, List, [], ◌∷◌, ◌++◌, length, get_or, set, take, drop, refl, subst, ap, add-one, arith}
use Rattle.std.specs.List.{remove}

-- the items below `to` have moved
abbrev pub moved : {X : Type 0} → List X → ℕ → ℕ → List X
moved xs at to = take to (remove xs at) ++ drop to xs

pub moved_none : {X : Type 0} (xs : List X) (at : ℕ) → moved xs at at ≡ xs
moved_none [] zero = refl
moved_none [] (suc at) = refl
moved_none (x ∷ xs) zero = refl
moved_none (x ∷ xs) (suc at) = ap (λ ys. x ∷ ys) (moved_none xs at)

-- the same from the first place on
next_of_first : {X : Type 0} (x : X) (xs : List X) (to : ℕ) (d : X) → to < length xs
    → set (take to xs ++ drop to (x ∷ xs)) to (get_or (take to xs ++ drop to (x ∷ xs)) (suc to) d) ≡ take (suc to) xs ++ drop to xs
next_of_first x [] to d lt = absurd (omega arith)
next_of_first x (y ∷ ys) zero d lt = refl
next_of_first x (y ∷ ys) (suc to) d lt = ap (λ zs. y ∷ zs) (next_of_first y ys to d (omega arith))

moved_next : {X : Type 0} (xs : List X) (at to : ℕ) (d : X) → at ≤ to → suc to < length xs → set (moved xs at to) to (get_or (moved xs at to) (suc to) d) ≡ moved xs at (suc to)
moved_next [] at to d le lt = absurd (omega arith)
moved_next (x ∷ xs) zero to d le lt = next_of_first x xs to d (omega arith)
moved_next (x ∷ xs) (suc at) zero d le lt = absurd (omega arith)
moved_next (x ∷ xs) (suc at) (suc to) d le lt = ap (λ ys. x ∷ ys) (moved_next xs at to d (omega arith) (omega arith))

-- the next item, as it is read, is written over the one before it
pub moved_on : {X : Type 0} (xs ys : List X) (at to : ℕ) (item : X) → ys ≡ moved xs at to → item ≡ get_or ys (to + 1) item → at ≤ to → suc to < length xs
    → set ys to item ≡ moved xs at (to + 1)
moved_on xs ys at to item is read le lt =
    let r : item ≡ get_or (moved xs at to) (suc to) item = subst (λ zs. item ≡ get_or zs (suc to) item) is (rw add-one at read) in
    ap (λ zs. set zs to item) is ∙ ap (λ x. set (moved xs at to) to x) r ∙ rw add-one (moved_next xs at to item le lt)
