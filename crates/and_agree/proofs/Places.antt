-- Lists whose first elements are the same.
use Rattle.std.proofs.Common.{◌≡◌, ℕ, zero, suc, ◌+◌, ◌<◌, ◌≤◌, List, [], ◌∷◌, length, take, get_or, refl, sym, ap, ◌∙◌, subst, arith, Some}
use Rattle.std.proofs.lemmas.Option.{get_or_from_slice_get, slice_get-get_or}
use Rattle.and_policy.specs.declared.entry.Op.{Op}
use Rattle.and_agree.specs.Agreeing.{Differ, DifferAt}

-- they stay the same with the next ones, where these are equal
pub one_more : {A : Type 0} (xs ys : List A) (k : ℕ) (d e : A) → k < length xs → k < length ys → take k xs ≡ take k ys → get_or xs k d ≡ get_or ys k e → take (suc k) xs ≡ take (suc k) ys
one_more [] ys k d e in_xs in_ys same next = absurd (omega arith)
one_more (x ∷ xs) [] k d e in_xs in_ys same next = absurd (omega arith)
one_more (x ∷ xs) (y ∷ ys) zero d e in_xs in_ys same next = cc
one_more (x ∷ xs) (y ∷ ys) (suc k) d e in_xs in_ys same next =
    let rest : take k xs ≡ take k ys = cc in
    let more : take (suc k) xs ≡ take (suc k) ys = one_more xs ys k d e (omega arith) (omega arith) rest next in
    let first : x ≡ y = cc in
    cc

-- all of one that is no longer than what is the same begins the other
pub all_same : {A : Type 0} (xs ys : List A) (n : ℕ) → length xs ≤ n → take n xs ≡ take n ys → take (length xs) ys ≡ xs
all_same [] ys n short same = refl
all_same (x ∷ xs) ys zero short same = absurd (omega arith)
all_same (x ∷ xs) [] (suc n) short same = absurd (cc)
all_same (x ∷ xs) (y ∷ ys) (suc n) short same =
    let rest : take n xs ≡ take n ys = cc in
    let more : take (length xs) ys ≡ xs = all_same xs ys n (omega arith) rest in
    let first : x ≡ y = cc in
    cc

-- the first place where they differ, with the elements there
pub differs : (xs ys : List Op) (k : ℕ) (d e : Op) → k < length xs → k < length ys → take k xs ≡ take k ys → (get_or xs k d ≡ get_or ys k e → ⊥) → DifferAt xs ys k
differs xs ys k d e in_xs in_ys same differ =
    (get_or xs k d, get_or ys k e, record { same = same; in_tables = slice_get-get_or xs k d in_xs; in_programme = slice_get-get_or ys k e in_ys; differ = differ })

pub told : (xs ys xs' ys' : List Op) (k : ℕ) (d e : Op) → xs ≡ xs' → ys ≡ ys' → DifferAt xs ys k → Differ xs' ys' k (get_or xs k d) (get_or ys k e)
told xs ys xs' ys' k d e is is' w =
    let x : get_or xs k d ≡ w.0 = get_or_from_slice_get xs k w.0 d w.2.in_tables in
    let y : get_or ys k e ≡ w.1 = get_or_from_slice_get ys k w.1 e w.2.in_programme in
    let here : Differ xs ys k (get_or xs k d) (get_or ys k e) =
    record { same = w.2.same; in_tables = w.2.in_tables ∙ ap Some (sym x); in_programme = w.2.in_programme ∙ ap Some (sym y); differ = λ z. w.2.differ (sym x ∙ (z ∙ y)) } in
    subst (λ a. Differ a ys' k (get_or xs k d) (get_or ys k e)) is (subst (λ a. Differ xs a k (get_or xs k d) (get_or ys k e)) is' here)
