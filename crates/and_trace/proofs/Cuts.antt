-- A text that is cut at a byte: the place of the byte, and what stands on either side of it.
use Rattle.std.proofs.Common.{◌≡◌, ℕ, ◌+◌, ◌-◌, ◌<◌, ◌≤◌, Bool, true, false, cond, ◌==◌, nat_lt, Some, None, List, [], ◌∷◌, ◌++◌, length, take, drop, get_or, refl, sym, ap, ◌∙◌, arith}
use Rattle.std.specs.List.{position, position_or_len}
use Rattle.std.proofs.lemmas.Bool.{ltb-false, ltb-true, eqb-true}
use Rattle.std.proofs.lemmas.List.Sums.{split_at_first, passes_at_first}
use Rattle.std.proofs.lemmas.List.{take_all, take_rest, drop_all}
use Rattle.and_trace.specs.Fields.{upto, past}

found : (b : Bool) (n at : ℕ) → Some at ≡ cond b (Some n) None → at ≡ n
found true n at e = cc
found false n at e = cc

missed : (b : Bool) (n : ℕ) → cond b (Some n) None ≡ None → b ≡ false
missed true n e = cc
missed false n e = refl

within : (b : Bool) (n at : ℕ) → Some at ≡ cond b (Some n) None → b ≡ true
within true n at e = refl
within false n at e = cc

place_is : (p : ℕ → Bool) (xs : List ℕ) (at : ℕ) → Some at ≡ position p xs → at ≡ position_or_len p xs
place_is p xs at e = found (nat_lt (position_or_len p xs) (length xs)) (position_or_len p xs) at e

none_at : (p : ℕ → Bool) (xs : List ℕ) → position p xs ≡ None → length xs ≤ position_or_len p xs
none_at p xs e = ltb-false (position_or_len p xs) (length xs) (missed (nat_lt (position_or_len p xs) (length xs)) (position_or_len p xs) e)

pub upto_some : (c : ℕ) (xs : List ℕ) (at : ℕ) → Some at ≡ position (λ x. x == c) xs → take at xs ≡ upto c xs
unfolding upto
upto_some c xs at e = ap (λ n. take n xs) (place_is (λ x. x == c) xs at e)

pub past_some : (c : ℕ) (xs : List ℕ) (at : ℕ) → Some at ≡ position (λ x. x == c) xs → take (length xs - (at + 1)) (drop (at + 1) xs) ≡ past c xs
unfolding past
past_some c xs at e = take_rest xs (at + 1) ∙ ap (λ n. drop (n + 1) xs) (place_is (λ x. x == c) xs at e)

pub upto_none : (c : ℕ) (xs : List ℕ) → position (λ x. x == c) xs ≡ None → xs ≡ upto c xs
unfolding upto
upto_none c xs e = sym (take_all (position_or_len (λ x. x == c) xs) xs (none_at (λ x. x == c) xs e))

pub past_none : (c : ℕ) (xs : List ℕ) → position (λ x. x == c) xs ≡ None → [] ≡ past c xs
unfolding past
past_none c xs e =
    let far : length xs ≤ position_or_len (λ x. x == c) xs = none_at (λ x. x == c) xs e in
    sym (drop_all (position_or_len (λ x. x == c) xs + 1) xs (omega (arith, far)))

-- the text is what stands before the byte, the byte, and what stands behind it
pub cut_at : (c : ℕ) (xs : List ℕ) (at : ℕ) → Some at ≡ position (λ x. x == c) xs → xs ≡ take at xs ++ c ∷ take (length xs - (at + 1)) (drop (at + 1) xs)
cut_at c xs at e =
    let n = position_or_len (λ x. x == c) xs in
    let less : n < length xs = ltb-true n (length xs) (within (nat_lt n (length xs)) n at e) in
    let here : get_or xs n 0 ≡ c = eqb-true (get_or xs n 0) c (passes_at_first (λ x. x == c) xs 0 less) in
    let parts : xs ≡ take n xs ++ (get_or xs n 0 ∷ drop (n + 1) xs) = split_at_first (λ x. x == c) xs 0 less in
    let place : at ≡ n = place_is (λ x. x == c) xs at e in
    parts ∙ (ap (λ b. take n xs ++ (b ∷ drop (n + 1) xs)) here
    ∙ (ap (λ m. take m xs ++ (c ∷ drop (m + 1) xs)) (sym place) ∙ ap (λ t. take at xs ++ (c ∷ t)) (sym (take_rest xs (at + 1)))))
