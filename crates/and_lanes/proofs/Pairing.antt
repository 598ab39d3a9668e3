-- Pairs of bytes as lanes.
use Rattle.std.proofs.Common.{◌≡◌, ℕ, zero, suc, ◌+◌, ◌-◌, ◌*◌, ◌/◌, ◌%◌, ◌<◌, ◌≤◌, List, [], ◌∷◌, ◌++◌, length, refl, sym, ◌∙◌, ap, subst, map, arith}
use Rattle.std.proofs.Common.{Fits, w8, w16, take, drop, get_or, slice_range}
use Rattle.std.specs.Simd.Lanes.{Each1, Each2, sum_l, zip2, number_l, digits_l}
use Rattle.std.proofs.lemmas.Simd.{sum_bound, below_from_Fits, chunk-fits, length-chunk, sum-zip2}
use Rattle.std.proofs.lemmas.List.{drop-drop, length-map, length-take}
use Rattle.std.proofs.Math.Seq.{take-add, take-length}
use Rattle.and_lanes.proofs.Sums.{words_sum-append}
use Rattle.and_policy.specs.Outer.{words_sum}
use Rattle.and_lanes.specs.Pairs.{pairs}

abbrev pub AreBytes : List ℕ → Type 0
AreBytes = Each1 (λ x. x < 256)

-- the little-endian 16-bit numbers of the bytes
pub digits_are_pairs : (n : ℕ) (xs : List ℕ) → length xs ≡ n + n → AreBytes xs → digits_l 65536 n (number_l 256 xs) ≡ pairs xs
digits_are_pairs zero [] e b = refl
digits_are_pairs zero (x ∷ xs) e b = absurd (omega arith)
digits_are_pairs (suc n) [] e b = absurd (omega arith)
digits_are_pairs (suc n) (x ∷ []) e b = absurd (omega arith)
digits_are_pairs (suc n) (x ∷ y ∷ xs) e b =
    let low : (x + 256 * (y + 256 * number_l 256 xs)) % 65536 ≡ x + 256 * y = omega (arith, b.0, b.1.0) in
    let high : (x + 256 * (y + 256 * number_l 256 xs)) / 65536 ≡ number_l 256 xs = omega (arith, b.0, b.1.0) in
    rw (low, high, digits_are_pairs n xs (omega arith) b.1.1) refl

-- first and second bytes add up to the words
pub pairs_sum : (xs : List ℕ) (n : ℕ) → length xs ≡ n + n → AreBytes xs
    → 256 * sum_l (map (λ x. x % 256) (pairs xs)) + sum_l (map (λ x. x / 256) (pairs xs)) ≡ words_sum xs
pairs_sum [] n e b = refl
pairs_sum (x ∷ []) n e b = absurd (omega arith)
pairs_sum (x ∷ y ∷ xs) zero e b = absurd (omega arith)
pairs_sum (x ∷ y ∷ xs) (suc n) e b =
    let low : (x + 256 * y) % 256 ≡ x = omega (arith, b.0) in
    let high : (x + 256 * y) / 256 ≡ y = omega (arith, b.0) in
    rw (low, high) (omega (arith, pairs_sum xs n (omega arith) b.1.1))

-- ---- lanes

pub fits_each : (xs ys : List ℕ) → Each2 (λ x y. x + y < 65536) xs ys → Each2 (λ x y. Fits w16 (x + y)) xs ys
fits_each [] ys h = tt
fits_each (x ∷ xs) [] h = tt
fits_each (x ∷ xs) (y ∷ ys) h = (record { fits = h.0 }, fits_each xs ys h.1)

pub map_same : (f g : ℕ → ℕ) → ((x : ℕ) → f x ≡ g x) → (xs : List ℕ) → map f xs ≡ map g xs
map_same f g h [] = refl
map_same f g h (x ∷ xs) = rw (h x, map_same f g h xs) refl

pub each_small : (xs : List ℕ) → Each1 (Fits w16) xs → Each1 (λ x. x ≤ 65535) xs
each_small [] h = tt
each_small (x ∷ xs) h = (omega (arith, h.0), each_small xs h.1)

pub total_fits : (xs : List ℕ) → length xs ≡ 8 → Each1 (Fits w16) xs → sum_l xs ≤ 524280
total_fits xs e h = let b = sum_bound 65535 xs (each_small xs h) in omega (arith, b, e)

-- the longest of both sums, one block on
pub each_added : (m : ℕ) (xs ys : List ℕ) → m ≤ 65280 → Each1 (λ x. x ≤ m) xs → Each1 (λ y. y ≤ 255) ys → Each2 (λ x y. x + y < 65536) xs ys
each_added m [] ys l h g = tt
each_added m (x ∷ xs) [] l h g = tt
each_added m (x ∷ xs) (y ∷ ys) l h g = (omega (arith, h.0, g.0), each_added m xs ys l h.1 g.1)

pub each_most : (m n : ℕ) (xs ys : List ℕ) → n ≡ m + 255 → Each1 (λ x. x ≤ m) xs → Each1 (λ y. y ≤ 255) ys → Each1 (λ z. z ≤ n) (zip2 (λ x y. x + y) xs ys)
each_most m n [] ys e h g = tt
each_most m n (x ∷ xs) [] e h g = tt
each_most m n (x ∷ xs) (y ∷ ys) e h g = (omega (arith, h.0, g.0), each_most m n xs ys e h.1 g.1)

pub firsts_small : (xs : List ℕ) → Each1 (λ y. y ≤ 255) (map (λ x. x % 256) xs)
firsts_small [] = tt
firsts_small (x ∷ xs) = (omega arith, firsts_small xs)

pub length-pairs : (xs : List ℕ) (n : ℕ) → length xs ≡ n + n → length (pairs xs) ≡ n
length-pairs [] n e = omega arith
length-pairs (x ∷ []) n e = absurd (omega arith)
length-pairs (x ∷ y ∷ xs) zero e = absurd (omega arith)
length-pairs (x ∷ y ∷ xs) (suc n) e = omega (arith, length-pairs xs n (omega arith))

pub sum-widened : (xs : List ℕ) → sum_l (map (λ x. x) xs) ≡ sum_l xs
sum-widened [] = refl
sum-widened (x ∷ xs) = ap (λ n. x + n) (sum-widened xs)

pub bytes_in : (xs : List ℕ) (a n : ℕ) → ((i : ℕ) → Fits w8 (get_or xs i 0)) → AreBytes (take n (drop a xs))
bytes_in xs a n fits = below_from_Fits w8 (take n (drop a xs)) (chunk-fits w8 a n xs fits)

pub seconds_are_bytes : (xs : List ℕ) → AreBytes xs → Each1 (λ y. y ≤ 255) (map (λ x. x / 256) (pairs xs))
seconds_are_bytes [] b = tt
seconds_are_bytes (x ∷ []) b = tt
seconds_are_bytes (x ∷ y ∷ xs) b = (omega (arith, b.0, b.1.0), seconds_are_bytes xs b.1.1)

-- one block more
pub one_more : (xs : List ℕ) (from k : ℕ) (high low : List ℕ) → ((i : ℕ) → Fits w8 (get_or xs i 0)) → from + 16 * k + 16 ≤ length xs
    → length high ≡ 8 → length low ≡ 8 → 256 * sum_l high + sum_l low ≡ words_sum (slice_range xs from (from + 16 * k))
    → 256 * sum_l (zip2 (λ x y. x + y) high (map (λ x. x % 256) (pairs (slice_range xs (from + 16 * k) (from + 16 * k + 16)))))
    + sum_l (zip2 (λ x y. x + y) low (map (λ x. x / 256) (pairs (slice_range xs (from + 16 * k) (from + 16 * k + 16)))))
    ≡ words_sum (slice_range xs from (from + 16 * (k + 1)))
one_more xs from k high low fits inside h l e =
    let piece = take 16 (drop (from + 16 * k) xs) in
    let one : from + 16 * k + 16 - (from + 16 * k) ≡ 16 = omega arith in
    let some : from + 16 * k - from ≡ 16 * k = omega arith in
    let more : from + 16 * (k + 1) - from ≡ 16 * k + 16 = omega arith in
    let is : slice_range xs (from + 16 * k) (from + 16 * k + 16) ≡ piece = ap (λ n. take n (drop (from + 16 * k) xs)) one in
    let before : slice_range xs from (from + 16 * k) ≡ take (16 * k) (drop from xs) = ap (λ n. take n (drop from xs)) some in
    let after : slice_range xs from (from + 16 * (k + 1)) ≡ take (16 * k + 16) (drop from xs) = ap (λ n. take n (drop from xs)) more in
    let seam : take (16 * k + 16) (drop from xs) ≡ take (16 * k) (drop from xs) ++ piece =
    take-add (16 * k) 16 (drop from xs) ∙ ap (λ ys. take (16 * k) (drop from xs) ++ take 16 ys) (drop-drop (16 * k) from xs) in
    let long : length piece ≡ 8 + 8 = length-chunk (from + 16 * k) 16 xs inside in
    let start : length (take (16 * k) (drop from xs)) ≡ 8 * k + 8 * k = omega (arith, length-chunk from (16 * k) xs (omega arith)) in
    let eight = length-pairs piece 8 long in
    let a = sum-zip2 high (map (λ x. x % 256) (pairs piece)) (omega (arith, h, eight, length-map (pairs piece) (λ x. x % 256))) in
    let b = sum-zip2 low (map (λ x. x / 256) (pairs piece)) (omega (arith, l, eight, length-map (pairs piece) (λ x. x / 256))) in
    let c = pairs_sum piece 8 long (bytes_in xs (from + 16 * k) 16 fits) in
    let d = words_sum-append (take (16 * k) (drop from xs)) piece (8 * k) start in
    rw (is, after, seam) (omega (arith, a, b, c, d, e, ap words_sum before))

-- ---- pieces of a slice

take_even : (xs : List ℕ) (a n half : ℕ) → a ≡ half + half → a ≤ length xs → words_sum (take a xs) + words_sum (take n (drop a xs)) ≡ words_sum (take (a + n) xs)
take_even xs a n half e l =
    let long : length (take a xs) ≡ half + half = omega (arith, length-take a xs) in
    rw (take-add a n xs) (sym (words_sum-append (take a xs) (take n (drop a xs)) half long))

-- the first a bytes and the next n
pub joined : (xs : List ℕ) (a n half : ℕ) → a ≡ half + half → a ≤ length xs
    → words_sum (take a xs) + words_sum (slice_range xs a (a + n)) ≡ words_sum (take (a + n) xs)
joined xs a n half e l =
    let some : a + n - a ≡ n = omega arith in
    let left : words_sum (slice_range xs a (a + n)) ≡ words_sum (take n (drop a xs)) = ap (λ m. words_sum (take m (drop a xs))) some in
    rw left (take_even xs a n half e l)

-- the first a bytes and the rest
pub ended : (xs : List ℕ) (a half : ℕ) → a ≡ half + half → a ≤ length xs
    → words_sum (take a xs) + words_sum (slice_range xs a (length xs)) ≡ words_sum xs
ended xs a half e l =
    let all : a + (length xs - a) ≡ length xs = omega arith in
    let two = joined xs a (length xs - a) half e l in
    let P : ℕ → Type 0 = λ n. words_sum (take a xs) + words_sum (slice_range xs a n) ≡ words_sum (take n xs) in
    subst P all two ∙ ap words_sum (take-length xs)

-- ---- a sum of 0

pub no_words : (xs : List ℕ) → words_sum xs ≡ 0 → (k : ℕ) (d : ℕ) → k < length xs → get_or xs k d ≡ 0
no_words [] e k d l = absurd (omega arith)
no_words (x ∷ []) e zero d l = omega arith
no_words (x ∷ []) e (suc k) d l = absurd (omega arith)
no_words (x ∷ y ∷ xs) e zero d l = omega arith
no_words (x ∷ y ∷ xs) e (suc zero) d l = omega arith
no_words (x ∷ y ∷ xs) e (suc (suc k)) d l = no_words xs (omega arith) k d (omega arith)
