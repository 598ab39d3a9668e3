-- Lists that are written at one place; the one place at which a test passes.
use Rattle.std.proofs.Common.{◌≡◌, ◌≢◌, ℕ, zero, suc, ◌+◌, ◌<◌, Bool, true, false, cond, List, [], ◌∷◌, length, get_or, set, replicate, refl, ap, ◌∙◌, arith, Some}
use Rattle.std.specs.Prelude.{if◌then◌else◌, ◌==◌, position}
use Rattle.std.specs.List.{count_by, position_from}
use Rattle.std.proofs.lemmas.List.{get_or-set_same, get_or-set_other}
use Rattle.std.proofs.lemmas.List.Sums.{sum_by-cons}
use Rattle.std.proofs.lemmas.Bool.{cases_eq}
use Rattle.std.proofs.lemmas.Grind.{common_steps}
use Rattle.std.proofs.lemmas.Iterator.Adapters.{position_from-zero}
use Rattle.and_laws.proofs.Places.{one_if}

-- ---- writes

-- what stands at a place after a write, there or elsewhere
pub set_at : {X : Type 0} (xs : List X) (k n : ℕ) (x d : X) (P : X → Type 0) → P (get_or xs n d) → (k ≡ n → P x) → P (get_or (set xs k x) n d)
set_at [] k n x d P old new = old
set_at (y ∷ ys) zero zero x d P old new = new refl
set_at (y ∷ ys) zero (suc n) x d P old new = old
set_at (y ∷ ys) (suc k) zero x d P old new = old
set_at (y ∷ ys) (suc k) (suc n) x d P old new = set_at ys k n x d P old (λ e. new (ap suc e))

pub set_is : {X : Type 0} (xs : List X) (k n : ℕ) (x d : X) → k < length xs → get_or (set xs k x) n d ≡ (if n == k then x else get_or xs n d)
set_is xs k n x d within = grind (arith, common_steps, cases_eq n k, get_or-set_same xs k x d within, get_or-set_other xs k n x d)

pub replicate_at : {X : Type 0} (n k : ℕ) (d : X) → get_or (replicate n d) k d ≡ d
replicate_at zero k d = refl
replicate_at (suc n) zero d = refl
replicate_at (suc n) (suc k) d = replicate_at n k d

-- what is not the value past the end stands within
pub within : {X : Type 0} (xs : List X) (k : ℕ) (d : X) → get_or xs k d ≢ d → k < length xs
within [] k d n = absurd (n refl)
within (x ∷ xs) zero d n = omega arith
within (x ∷ xs) (suc k) d n = let w = within xs k d n in omega (arith, w)

-- ---- tests that pass at one place, and not past the end

passes_first : {X : Type 0} (t : X → Bool) (xs : List X) (i k : ℕ) (d : X) → t d ≡ false → t (get_or xs k d) ≡ true → ((x : ℕ) → x ≢ k → t (get_or xs x d) ≡ false) → position_from t i xs ≡ Some (i + k)
passes_first t [] i k d past here others = absurd (cc)
passes_first t (x ∷ xs) i zero d past here others = rw here (ap Some (omega arith))
passes_first t (x ∷ xs) i (suc k) d past here others =
    let not_first : t x ≡ false = others 0 (omega arith) in
    let later : position_from t (i + 1) xs ≡ Some (i + 1 + k) = passes_first t xs (i + 1) k d past here (λ y n. others (suc y) (λ e. n (omega (arith, e)))) in
    rw not_first (later ∙ ap Some (omega arith))

pub position_is : {X : Type 0} (t : X → Bool) (xs : List X) (k : ℕ) (d : X) → t d ≡ false → t (get_or xs k d) ≡ true → ((x : ℕ) → x ≢ k → t (get_or xs x d) ≡ false) → position t xs ≡ Some k
position_is t xs k d past here others = position_from-zero t xs ∙ passes_first t xs 0 k d past here others ∙ ap Some (omega arith)

pub count_none : {X : Type 0} (t : X → Bool) (xs : List X) (d : X) → ((x : ℕ) → t (get_or xs x d) ≡ false) → count_by t xs ≡ 0
count_none t [] d none = refl
count_none t (x ∷ xs) d none =
    let first : one_if (t x) ≡ 0 = ap one_if (none 0) in
    omega (arith, sum_by-cons (λ y. one_if (t y)) x xs, first, count_none t xs d (λ y. none (suc y)))

pub count_one : {X : Type 0} (t : X → Bool) (xs : List X) (k : ℕ) (d : X) → t d ≡ false → t (get_or xs k d) ≡ true → ((x : ℕ) → x ≢ k → t (get_or xs x d) ≡ false) → count_by t xs ≡ 1
count_one t [] k d past here others = absurd (cc)
count_one t (x ∷ xs) zero d past here others =
    let first : one_if (t x) ≡ 1 = ap (λ b. cond b 1 0) here in
    let rest = count_none t xs d (λ y. others (suc y) (omega arith)) in
    omega (arith, sum_by-cons (λ y. one_if (t y)) x xs, first, rest)
count_one t (x ∷ xs) (suc k) d past here others =
    let first : one_if (t x) ≡ 0 = ap one_if (others 0 (omega arith)) in
    let rest = count_one t xs k d past here (λ y n. others (suc y) (λ e. n (omega (arith, e)))) in
    omega (arith, sum_by-cons (λ y. one_if (t y)) x xs, first, rest)
