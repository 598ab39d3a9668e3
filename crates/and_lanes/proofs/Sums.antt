-- One's complement sums.
use Rattle.std.proofs.Common.{◌≡◌, ℕ, zero, suc, ◌+◌, ◌-◌, ◌*◌, ◌/◌, ◌%◌, ◌<◌, ◌≤◌, List, [], ◌∷◌, ◌++◌, length, get_or, take, refl, sym, ◌∙◌, arith, inl, inr}
use Rattle.std.proofs.lemmas.Bool.{cases_lt, lt-ltb, le-ltb}
use Rattle.and_policy.specs.Outer.{words_sum, folded}

-- ---- words

pub words_sum-append : (xs ys : List ℕ) (half : ℕ) → length xs ≡ half + half → words_sum (xs ++ ys) ≡ words_sum xs + words_sum ys
words_sum-append [] ys half even = omega arith
words_sum-append (x ∷ []) ys half even = absurd (omega arith)
words_sum-append (x ∷ y ∷ xs) ys zero even = absurd (omega arith)
words_sum-append (x ∷ y ∷ xs) ys (suc half) even = omega (arith, words_sum-append xs ys half (omega arith))

-- no word is above 16 bits
pub words_sum-le : (xs : List ℕ) → ((i : ℕ) → get_or xs i 0 < 256) → words_sum xs ≤ 65535 * length xs
words_sum-le [] fits = omega arith
words_sum-le (x ∷ []) fits = omega (arith, fits 0)
words_sum-le (x ∷ y ∷ xs) fits = omega (arith, fits 0, fits 1, words_sum-le xs (λ i. fits (suc (suc i))))

-- ---- folding

below : (steps sum : ℕ) → sum < 65536 → folded steps sum ≡ sum
below zero sum lt = refl
below (suc steps) sum lt = rw (lt-ltb _ _ lt) refl

above : (steps sum : ℕ) → 65536 ≤ sum → folded (suc steps) sum ≡ folded steps (sum / 65536 + sum % 65536)
above steps sum le = rw (le-ltb _ _ le) refl

-- as soon as there are enough steps, more change nothing
enough : (a b sum : ℕ) → sum ≤ a → sum ≤ b → folded a sum ≡ folded b sum
enough zero b sum p q = sym (below b sum (omega arith))
enough (suc a) zero sum p q = below (suc a) sum (omega arith)
enough (suc a) (suc b) sum p q =
    elim (cases_lt sum 65536) [
      | inl lt ↦ below (suc a) sum lt ∙ sym (below (suc b) sum lt)
      | inr le ↦ above a sum le ∙ enough a b (sum / 65536 + sum % 65536) (omega arith) (omega arith) ∙ sym (above b sum le)
    ]

-- one step
pub folded-step : (sum : ℕ) → 65536 ≤ sum → folded sum sum ≡ folded (sum / 65536 + sum % 65536) (sum / 65536 + sum % 65536)
folded-step sum le =
    let e : folded sum sum ≡ folded (suc sum) sum = enough sum (suc sum) sum (omega arith) (omega arith) in
    e ∙ above sum sum le ∙ enough sum (sum / 65536 + sum % 65536) (sum / 65536 + sum % 65536) (omega arith) (omega arith)

pub folded-small : (sum : ℕ) → sum < 65536 → folded sum sum ≡ sum
folded-small sum lt = below sum sum lt

-- a sum that is not 0 folds to a number from 1 to 65535 that differs from it by a multiple of 65535
record IsFolded (sum result : ℕ) : Type 0 where
  some : 0 < result
  fits : result < 65536
  times : ℕ
  same : sum ≡ result + 65535 * times

is_folded : (steps sum : ℕ) → sum ≤ steps → 0 < sum → IsFolded sum (folded steps sum)
is_folded zero sum p some = absurd (omega arith)
is_folded (suc steps) sum p some =
    elim (cases_lt sum 65536) [
      | inl lt ↦ rw (below (suc steps) sum lt) (record { some = some; fits = lt; times = 0; same = omega arith })
      | inr le ↦
          let more = is_folded steps (sum / 65536 + sum % 65536) (omega arith) (omega arith) in
          rw (above steps sum le) (record { some = more.some; fits = more.fits; times = more.times + sum / 65536; same = omega (arith, more.same) })
    ]

-- a sum with its own checksum added is all ones
pub with_checksum : (sum total : ℕ) → 0 < sum → total ≡ sum + (65535 - folded sum sum) → folded total total ≡ 65535
with_checksum sum total some e =
    let a = is_folded sum sum (omega arith) some in
    let b = is_folded total total (omega arith) (omega arith) in
    omega (arith, a.same, a.fits, a.some, b.same, b.fits, b.some)

pub folded-fits : (sum : ℕ) → folded sum sum < 65536
folded-fits sum =
    elim (cases_lt 0 sum) [
      | inl lt ↦ let a = is_folded sum sum (omega arith) lt in a.fits
      | inr le ↦ let e = folded-small sum (omega arith) in omega (arith, e)
    ]

-- a sum that is all ones stays so with all ones added
pub with_all_ones : (sum total : ℕ) → 0 < sum → folded sum sum ≡ 65535 → total ≡ sum + 65535 → folded total total ≡ 65535
with_all_ones sum total some ones e =
    let a = is_folded sum sum (omega arith) some in
    let b = is_folded total total (omega arith) (omega arith) in
    omega (arith, a.same, a.fits, a.some, b.same, b.fits, b.some, ones)

-- the two bytes of a number are one word
pub words_sum-take_2 : (xs : List ℕ) → 2 ≤ length xs → words_sum (take 2 xs) ≡ get_or xs 0 0 * 256 + get_or xs 1 0
words_sum-take_2 [] long = absurd (omega arith)
words_sum-take_2 (x ∷ []) long = absurd (omega arith)
words_sum-take_2 (x ∷ y ∷ xs) long = omega arith

pub folded-zero : (sum : ℕ) → folded sum sum ≡ 0 → sum ≡ 0
folded-zero sum e =
    elim (cases_lt 0 sum) [
      | inl lt ↦ let a = is_folded sum sum (omega arith) lt in absurd (omega (arith, a.some, e))
      | inr le ↦ omega arith
    ]
