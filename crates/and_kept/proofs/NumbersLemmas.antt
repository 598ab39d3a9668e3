-- Bits of words, and how many of a set are smaller than a number.
use Rattle.std.proofs.Common.{◌≡◌, ◌≢◌, ℕ, zero, suc, ◌+◌, ◌*◌, ◌-◌, ◌/◌, ◌%◌, ◌^◌, add-one, ◌<◌, ◌≤◌, ◌⊎◌, Bool, true, false, List, length, set, get_or, refl, sym, ap, ◌∙◌, inl, inr, arith, bit_and, bit_or}
use Rattle.std.specs.Prelude.{if◌then◌else◌, ◌==◌, replicate}
use Rattle.std.specs.Int.{bit_at, w64, bit_not, trailing_zeros}
use Rattle.std.proofs.lemmas.Bool.{cases_eq, cases_lt}
use Rattle.std.proofs.lemmas.Grind.{common_steps}
use Rattle.std.proofs.lemmas.List.{get_or-set_same, get_or-set_other}
use Rattle.std.proofs.lemmas.Nat.{and_le_l}
use Rattle.std.proofs.lemmas.Nat.Bits.{bit_at_and, bit_at_mask_inside, bit_at_mask_below, ones_shl, bit_at-trailing_zeros, bit_at-lt, bit_at-zero, bit_at_set_same, bit_at_set_other, bit_at_clear_same, bit_at_clear_other}
use Rattle.and_kept.specs.Numbers.{Numbers, IsPut, has, has_in, one_if, count_below, rank, rank_in}

-- ---- the lowest bit of a word from one on

-- that is the place of a word's lowest 1 from `from` on
pub record IsLowest (w from low : ℕ) : Type 0 where
  pub within : low < 64
  pub past : from ≤ low
  pub one : bit_at w low ≡ 1
  pub none : (i : ℕ) → from ≤ i → i < low → bit_at w i ≡ 0

module _ (w k : ℕ) (small : w < 2 ^ 64) (within : k < 64) where
  abbrev rest : ℕ
  rest = bit_and w ((2 ^ 64 - 1) * 2 ^ k % 2 ^ 64)

  rest_low : (i : ℕ) → i < k → bit_at rest i ≡ 0
  rest_low i low = rw (ones_shl 64 k (omega arith)) (omega (arith, bit_at_and w (2 ^ 64 - 2 ^ k) i, bit_at_mask_below k 64 i low))

  rest_high : (i : ℕ) → k ≤ i → i < 64 → bit_at rest i ≡ bit_at w i
  rest_high i high top =
      rw (ones_shl 64 k (omega arith)) (omega (arith, bit_at_and w (2 ^ 64 - 2 ^ k) i, bit_at_mask_inside k 64 i high top, bit_at-lt w i))

  pub no_rest : rest ≡ 0 → (i : ℕ) → k ≤ i → i < 64 → bit_at w i ≡ 0
  no_rest none i high top = sym (rest_high i high top) ∙ (ap (λ r. bit_at r i) none ∙ bit_at-zero i)

  pub lowest : 0 < rest → IsLowest w k (trailing_zeros w64 rest)
  lowest some =
      let less : rest < 2 ^ 64 = omega (arith, and_le_l w ((2 ^ 64 - 1) * 2 ^ k % 2 ^ 64)) in
      let is = bit_at-trailing_zeros w64 rest some less in
      let past : k ≤ trailing_zeros w64 rest = from_cases (cases_lt (trailing_zeros w64 rest) k) is.1 in
      record {
        within = is.0;
        past = past;
        one = sym (rest_high _ past is.0) ∙ is.1;
        none = λ i high low. sym (rest_high i high (omega (arith, is.0))) ∙ is.2 i low;
      }
    where
      from_cases : (trailing_zeros w64 rest < k) ⊎ (k ≤ trailing_zeros w64 rest) → bit_at rest (trailing_zeros w64 rest) ≡ 1 → k ≤ trailing_zeros w64 rest
      from_cases (inl below) one = absurd (omega (arith, rest_low _ below, one))
      from_cases (inr past) one = past

-- ---- one number in or out

pub bit_in : (w n : ℕ) → IsPut w (bit_or w (1 * 2 ^ (n % 64) % 2 ^ 64)) n true
bit_in w n = record { here = bit_at_set_same w64 w (n % 64) (omega arith); others = λ i _ other. bit_at_set_other w64 w (n % 64) (omega arith) i other }

pub bit_out : (w n : ℕ) → IsPut w (bit_and w (bit_not w64 (1 * 2 ^ (n % 64) % 2 ^ 64))) n false
bit_out w n = record { here = bit_at_clear_same w64 w (n % 64) (omega arith); others = λ i top other. bit_at_clear_other w64 w (n % 64) (omega arith) i top other }

is_one : (on : Bool) → (one_if on == 1) ≡ on
is_one true = refl
is_one false = refl

same_bit : (words : List ℕ) (n j w : ℕ) (on : Bool) → n / 64 < length words → IsPut (get_or words (n / 64) 0) w n on → (j / 64 ≡ n / 64) ⊎ (j / 64 ≢ n / 64) → j ≢ n
    → bit_at (get_or (set words (n / 64) w) (j / 64) 0) (j % 64) ≡ bit_at (get_or words (j / 64) 0) (j % 64)
same_bit words n j w on within put (inl same) other =
    rw same (rw (get_or-set_same words (n / 64) w 0 within) (put.others (j % 64) (omega arith) (λ e. other (omega (arith, e)))))
same_bit words n j w on within put (inr apart) other = rw (get_or-set_other words (n / 64) (j / 64) w 0 apart) refl

eq_is : (a b : ℕ) → a ≡ b → (a == b) ≡ true
eq_is a b e = grind (arith, common_steps)

eq_not : (a b : ℕ) → a ≢ b → (a == b) ≡ false
eq_not a b e = grind (arith, common_steps)

pub has_put : (words : List ℕ) (n w : ℕ) (on : Bool) → n / 64 < length words → IsPut (get_or words (n / 64) 0) w n on
    → (j : ℕ) → has_in (set words (n / 64) w) j ≡ (if j == n then on else has_in words j)
unfolding has_in
has_put words n w on within put j = by_case (cases_eq j n)
  where
    by_case : (j ≡ n) ⊎ (j ≢ n) → has_in (set words (n / 64) w) j ≡ (if j == n then on else has_in words j)
    by_case (inl same) = rw (eq_is j n same, same, get_or-set_same words (n / 64) w 0 within, put.here) (is_one on)
    by_case (inr other) = rw (eq_not j n other) (ap (λ b. b == 1) (same_bit words n j w on within put (cases_eq (j / 64) (n / 64)) other))

-- ---- how many are smaller

one_at_most : (b : Bool) → one_if b ≤ 1
one_at_most true = omega arith
one_at_most false = omega arith

pub count_within : (p : ℕ → Bool) (n : ℕ) → count_below p n ≤ n
unfolding count_below
count_within p zero = omega arith
count_within p (suc n) = omega (arith, count_within p n, one_at_most (p n))

pub count_suc : (p : ℕ → Bool) (n : ℕ) → count_below p (n + 1) ≡ count_below p n + one_if (p n)
unfolding count_below
count_suc p n = rw (add-one) refl

-- tests that agree count the same
pub count_same : (p q : ℕ → Bool) (n : ℕ) → ((j : ℕ) → j < n → p j ≡ q j) → count_below p n ≡ count_below q n
unfolding count_below
count_same p q zero same = refl
count_same p q (suc n) same = omega (arith, ap one_if (same n (omega arith)), count_same p q n (λ j l. same j (omega (arith, l))))

-- the numbers from a on are counted as another test counts them from 0 on
pub count_shift : (p q : ℕ → Bool) (a b : ℕ) → ((k : ℕ) → k < b → p (a + k) ≡ q k) → count_below p (a + b) ≡ count_below p a + count_below q b
unfolding count_below
count_shift p q a zero same = let e : a + 0 ≡ a = omega arith in rw e (omega arith)
count_shift p q a (suc b) same =
    let e : a + suc b ≡ a + b + 1 = omega arith in
    rw e (omega (arith, count_suc p (a + b), ap one_if (same b (omega arith)), count_shift p q a b (λ k l. same k (omega (arith, l)))))

pub count_grows : (p : ℕ → Bool) (a b : ℕ) → a ≤ b → count_below p a ≤ count_below p b
unfolding count_below
count_grows p a zero le = let same : a ≡ 0 = omega arith in rw same (omega arith)
count_grows p a (suc b) le = by_case (cases_lt b a) (λ more. count_grows p a b more)
  where
    by_case : (b < a) ⊎ (a ≤ b) → (a ≤ b → count_below p a ≤ count_below p b) → count_below p a ≤ count_below p b + one_if (p b)
    by_case (inl last) before = let same : a ≡ suc b = omega arith in rw same (omega arith)
    by_case (inr more) before = omega (arith, before more)

-- where none is in from a on, as many are smaller than a as than b
pub rank_flat : (words : List ℕ) (a b : ℕ) → a ≤ b → ((j : ℕ) → a ≤ j → j < b → has_in words j ≡ false) → rank_in words b ≡ rank_in words a
unfolding count_below
rank_flat words a zero le none = let same : a ≡ 0 = omega arith in ap (rank_in words) (sym same)
rank_flat words a (suc b) le none =
    by_case (cases_lt b a) (λ more. rank_flat words a b more (λ j low high. none j low (omega (arith, high))))
  where
    by_case : (b < a) ⊎ (a ≤ b) → (a ≤ b → rank_in words b ≡ rank_in words a) → rank_in words b + one_if (has_in words b) ≡ rank_in words a
    by_case (inl last) before = let same : a ≡ suc b = omega arith in ap (rank_in words) (sym same)
    by_case (inr more) before = rw (none b more (omega arith)) (omega (arith, before more))

-- the next one from a on is counted
pub rank_there : (words : List ℕ) (n : ℕ) → has_in words n ≡ true → (a k : ℕ) → a ≤ n → ((j : ℕ) → a ≤ j → j < n → has_in words j ≡ false) → rank_in words a ≡ k → rank_in words (n + 1) ≡ k + 1
rank_there words n is a k le none passed =
    let one : one_if (has_in words n) ≡ 1 = ap one_if is in
    omega (arith, count_suc (has_in words) n, rank_flat words a n le none, one, passed)

module _ (old new : List ℕ) (n : ℕ) (on : Bool) (put : (j : ℕ) → has_in new j ≡ (if j == n then on else has_in old j)) where
  other : (j : ℕ) → j ≢ n → has_in new j ≡ has_in old j
  other j apart = put j ∙ ap (λ b. if b then on else has_in old j) (eq_not j n apart)

  here : has_in new n ≡ on
  here = put n ∙ ap (λ b. if b then on else has_in old n) (eq_is n n refl)

  rank_below : (k : ℕ) → k ≤ n → rank_in new k ≡ rank_in old k
  unfolding count_below
  rank_below zero le = refl
  rank_below (suc k) le = rw (other k (λ e. omega (arith, e, le))) (omega (arith, rank_below k (omega (arith, le))))

  -- after a number is put in or out, as many more are smaller than what is above it
  pub rank_put : (m : ℕ) → n < m → rank_in new m + one_if (has_in old n) ≡ rank_in old m + one_if on
  unfolding count_below
  rank_put zero within = absurd (omega arith)
  rank_put (suc m) within = by_case (cases_eq m n) (λ more. rank_put m more) (rank_below n (omega arith))
    where
      by_case : (m ≡ n) ⊎ (m ≢ n) → (n < m → rank_in new m + one_if (has_in old n) ≡ rank_in old m + one_if on) → rank_in new n ≡ rank_in old n
          → rank_in new m + one_if (has_in new m) + one_if (has_in old n) ≡ rank_in old m + one_if (has_in old m) + one_if on
      by_case (inl same) before below = rw (same, here, below) (omega arith)
      by_case (inr apart) before below = rw (other m apart) (omega (arith, before (omega (arith, within, apart))))

-- what is in is counted
pub rank_has : (words : List ℕ) (n m : ℕ) → n < m → one_if (has_in words n) ≤ rank_in words m
unfolding count_below
rank_has words n zero within = absurd (omega arith)
rank_has words n (suc m) within = by_case (cases_eq m n) (λ more. rank_has words n m more)
  where
    by_case : (m ≡ n) ⊎ (m ≢ n) → (n < m → one_if (has_in words n) ≤ rank_in words m) → one_if (has_in words n) ≤ rank_in words m + one_if (has_in words m)
    by_case (inl same) before = rw same (omega arith)
    by_case (inr apart) before = omega (arith, before (omega (arith, within, apart)))

-- ---- no numbers

pub copies_at : {X : Type 0} (k n : ℕ) (d : X) → get_or (replicate k d) n d ≡ d
copies_at zero n d = refl
copies_at (suc k) zero d = refl
copies_at (suc k) (suc n) d = copies_at k n d

pub has_none : (k n : ℕ) → has_in (replicate k 0) n ≡ false
unfolding has_in
has_none k n = ap (λ b. b == 1) (ap (λ w. bit_at w (n % 64)) (copies_at {X = ℕ} k (n / 64) 0) ∙ bit_at-zero (n % 64))

pub rank_zero : (words : List ℕ) → rank_in words 0 ≡ 0
unfolding count_below
rank_zero words = refl

pub rank_none : (k n : ℕ) → rank_in (replicate k 0) n ≡ 0
rank_none k n = rank_flat (replicate k 0) 0 n (omega arith) (λ j low high. has_none k j) ∙ rank_zero (replicate k 0)

-- ---- the lowest from a number on

-- a bit of the word at `at` is a number from there on
module _ (words : List ℕ) (at : ℕ) where
  bit_there : (j i : ℕ) → j / 64 ≡ at / 64 → j % 64 ≡ i → bit_at (get_or words (j / 64) 0) (j % 64) ≡ bit_at (get_or words (at / 64) 0) i
  bit_there j i same at_i = rw (same, at_i) refl

  pub there : (found : ℕ) → found < 64 → bit_at (get_or words (at / 64) 0) found ≡ 1 → has_in words (at / 64 * 64 + found) ≡ true
  unfolding has_in
  there found within one =
      let same : (at / 64 * 64 + found) / 64 ≡ at / 64 = omega (arith, within) in
      ap (λ b. b == 1) (bit_there (at / 64 * 64 + found) found same (omega (arith, within)) ∙ one)

  none_up_to : (found : ℕ) → found ≤ 64 → ((i : ℕ) → at % 64 ≤ i → i < found → bit_at (get_or words (at / 64) 0) i ≡ 0) → (j : ℕ) → at ≤ j → j < at / 64 * 64 + found → has_in words j ≡ false
  unfolding has_in
  none_up_to found wide none j low high =
      let same : j / 64 ≡ at / 64 = omega (arith, low, high, wide) in
      ap (λ b. b == 1) (bit_there j (j % 64) same refl ∙ none (j % 64) (omega (arith, low, high, wide)) (omega (arith, low, high, wide)))

-- none is in up to the lowest bit, as none was before that word
pub none_from : (words : List ℕ) (from at found : ℕ) → found ≤ 64 → ((i : ℕ) → at % 64 ≤ i → i < found → bit_at (get_or words (at / 64) 0) i ≡ 0)
    → ((j : ℕ) → from ≤ j → j < at → has_in words j ≡ false) → (j : ℕ) → from ≤ j → j < at / 64 * 64 + found → has_in words j ≡ false
none_from words from at found wide none before j low high = by_case (cases_lt j at)
  where
    by_case : (j < at) ⊎ (at ≤ j) → has_in words j ≡ false
    by_case (inl past) = before j low past
    by_case (inr later) = none_up_to words at found wide none j later high

-- a set that tells what passes a test has as many numbers below one as pass it
pub rank_told : (s : Numbers) (p : ℕ → Bool) (m n : ℕ) → ((k : ℕ) → k < m → has s k ≡ p k) → n ≤ m → rank s n ≡ count_below p n
rank_told s p m n told le = count_same (has_in s.words) p n (λ k l. told k (omega (arith, l, le)))
