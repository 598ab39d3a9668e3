-- Counts of what passes a test.
use Rattle.std.proofs.Common.{◌≡◌, ℕ, ◌+◌, ◌<◌, ◌≤◌, Bool, true, false, cond, List, [], ◌∷◌, length, get_or, set, refl, ap, arith}
use Rattle.std.specs.List.{All, count_by}
use Rattle.std.proofs.lemmas.List.Sums.{sum_by-cons, sum_by-set, count_by-le-length}
use Rattle.std.proofs.lemmas.List.Elements.{All-nil, All-cons, All-head, All-tail}
use Rattle.std.proofs.Math.ListN.{length-set}

-- where none is counted, none passes
pub count_none : {X : Type 0} (p : X → Bool) (xs : List X) → count_by p xs ≡ 0 → All (λ x. p x ≡ false) xs
count_none {X} p [] e = All-nil (λ x. p x ≡ false)
count_none {X} p (x ∷ xs) e =
    let c = sum_by-cons (λ y. cond (p y) 1 0) x xs in
    let first : p x ≡ false = elim (p x) as (λ b. (p x ≡ b → p x ≡ false)) [
      | true ↦ λ w. let f : Bool → ℕ = λ b. cond b 1 0 in let one : f (p x) ≡ 1 = ap f w in absurd (omega (arith, c, one, e))
      | false ↦ λ w. w
    ] refl in
    All-cons (λ y. p y ≡ false) x xs first (count_none p xs (omega (arith, c, e)))

-- where none passes, none is counted
pub none_counted : {X : Type 0} (p : X → Bool) (xs : List X) → All (λ x. p x ≡ false) xs → count_by p xs ≡ 0
none_counted {X} p [] all = refl
none_counted {X} p (x ∷ xs) all =
    let c = sum_by-cons (λ y. cond (p y) 1 0) x xs in
    let f : Bool → ℕ = λ b. cond b 1 0 in let first : f (p x) ≡ 0 = ap f (All-head (λ y. p y ≡ false) x xs all) in
    let rest = none_counted p xs (All-tail (λ y. p y ≡ false) x xs all) in
    omega (arith, c, first, rest)

-- a write: one more where the new element passes, one less where the old one did
pub count_set : {X : Type 0} (p : X → Bool) (xs : List X) (i : ℕ) (y d : X) → i < length xs → count_by p (set xs i y) + cond (p (get_or xs i d)) 1 0 ≡ count_by p xs + cond (p y) 1 0
count_set p xs i y d h = sum_by-set (λ x. cond (p x) 1 0) xs i y d h

pub count_set_within : {X : Type 0} (p : X → Bool) (xs : List X) (i : ℕ) (y : X) → count_by p (set xs i y) ≤ length xs
count_set_within {X} p xs i y = omega (arith, count_by-le-length p (set xs i y), length-set xs i y)
