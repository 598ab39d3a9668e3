-- A change of each list in turn, from the front.
use Rattle.std.proofs.Common.{◌≡◌, ℕ, suc, zero, ◌+◌, ◌<◌, List, [], ◌∷◌, ◌++◌, length, get_or, set, map, take, drop, refl, sym, ap, ◌∙◌, arith, add-one}

pub push_next : {X : Type 0} (y : X) (xs : List (List X)) (k : ℕ) → k < length xs
    → set (map (λ x. x ++ y ∷ []) (take k xs) ++ drop k xs) k (get_or (map (λ x. x ++ y ∷ []) (take k xs) ++ drop k xs) k [] ++ y ∷ [])
    ≡ map (λ x. x ++ y ∷ []) (take (suc k) xs) ++ drop (suc k) xs
push_next y [] k h = let no : ⊥ = omega arith in absurd no
push_next y (x ∷ xs) zero h = refl
push_next y (x ∷ xs) (suc k) h = ap (λ zs. (x ++ y ∷ []) ∷ zs) (push_next y xs k (omega arith))

pub push_last : {X : Type 0} (y : X) (xs zs : List (List X)) (k n : ℕ) → n ≡ k + 1 → k < length xs → zs ≡ map (λ x. x ++ y ∷ []) (take k xs) ++ drop k xs
    → set zs k (get_or zs k [] ++ y ∷ []) ≡ map (λ x. x ++ y ∷ []) (take n xs) ++ drop n xs
push_last y xs zs k n e h is =
    ap (λ ws. set ws k (get_or ws k [] ++ y ∷ [])) is
    ∙ (push_next y xs k h ∙ ap (λ m. map (λ x. x ++ y ∷ []) (take m xs) ++ drop m xs) (sym (e ∙ add-one k)))
