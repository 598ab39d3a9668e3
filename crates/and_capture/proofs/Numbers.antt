-- Numbers as bytes, in either order: what was written is read again, and what was read is written again.
use Rattle.std.proofs.Common.{◌≡◌, ℕ, ◌+◌, ◌^◌, ◌<◌, ◌≤◌, List, ◌++◌, length, get_or, take, drop, sym, ◌∙◌, arith, inl, inr}
use Rattle.std.specs.Int.{w16, w32, from_be_bytes, from_le_bytes}
use Rattle.std.proofs.lemmas.Bool.{cases_lt}
use Rattle.std.proofs.lemmas.List.{get_or-drop, get_or-take, get_or_past, length-take}
use Rattle.std.proofs.lemmas.Nat.{be_bytes_2, be_bytes_4, le_bytes_2, le_bytes_4}
use Rattle.byteorder.specs.Endian.{big_number, little_number}
use Rattle.byteorder.specs.Numbers.{big_from-take, little_from-take, big_number-reads_back, little_number-reads_back, big_from-lt, little_from-lt, length-bytes_high_first, length-bytes_low_first}
use Rattle.and_capture.specs.Spelling.{Order, little, big, number_in, bytes_in}

abbrev pub IsBytes : List ℕ → Type 0
IsBytes bytes = (i : ℕ) → get_or bytes i 0 < 256

pub IsBytes-drop : (n : ℕ) (bytes : List ℕ) → IsBytes bytes → IsBytes (drop n bytes)
IsBytes-drop n bytes h i = rw get_or-drop (h (n + i))

pub IsBytes-take : (n : ℕ) (bytes : List ℕ) → IsBytes bytes → IsBytes (take n bytes)
IsBytes-take n bytes h i =
    elim (cases_lt i n) [
      | inl lt ↦ rw (get_or-take n bytes i 0 lt) (h i)
      | inr le ↦ rw (get_or_past (take n bytes) i 0 (omega (arith, length-take n bytes))) (omega arith)
    ]

pub length-bytes_in : (order : Order) (n x : ℕ) → length (bytes_in order n x) ≡ n
length-bytes_in little n x = length-bytes_low_first 0 n x
length-bytes_in big n x = length-bytes_high_first n x

-- a number that was written is read again
pub number_again : (order : Order) (n x : ℕ) (rest : List ℕ) → x < 256 ^ n → number_in order n (bytes_in order n x ++ rest) ≡ x
number_again little n x rest h = little_number-reads_back n x rest h
number_again big n x rest h = big_number-reads_back n x rest h

pub number_fits : (order : Order) (n : ℕ) (bytes : List ℕ) → IsBytes bytes → number_in order n bytes < 256 ^ n
number_fits little n bytes h = little_from-lt 0 n bytes h
number_fits big n bytes h = big_from-lt 0 n bytes h

little_4 : (bytes : List ℕ) → little_number 4 bytes ≡ from_le_bytes w32 bytes
little_4 bytes = omega arith

little_2 : (bytes : List ℕ) → little_number 2 bytes ≡ from_le_bytes w16 bytes
little_2 bytes = omega arith

big_4 : (bytes : List ℕ) → big_number 4 bytes ≡ from_be_bytes w32 bytes
big_4 bytes = omega arith

big_2 : (bytes : List ℕ) → big_number 2 bytes ≡ from_be_bytes w16 bytes
big_2 bytes = omega arith

-- a number of four bytes that was read is written again
pub bytes_4 : (order : Order) (bytes : List ℕ) → IsBytes bytes → 4 ≤ length bytes → bytes_in order 4 (number_in order 4 bytes) ≡ take 4 bytes
bytes_4 little bytes h long =
    le_bytes_4 (take 4 bytes) (little_number 4 bytes) (omega (arith, length-take 4 bytes)) (IsBytes-take 4 bytes h) (sym (little_from-take 0 4 4 bytes (omega arith)) ∙ little_4 (take 4 bytes))
bytes_4 big bytes h long =
    be_bytes_4 (take 4 bytes) (big_number 4 bytes) (omega (arith, length-take 4 bytes)) (IsBytes-take 4 bytes h) (sym (big_from-take 0 4 4 bytes (omega arith)) ∙ big_4 (take 4 bytes))

pub bytes_2 : (order : Order) (bytes : List ℕ) → IsBytes bytes → 2 ≤ length bytes → bytes_in order 2 (number_in order 2 bytes) ≡ take 2 bytes
bytes_2 little bytes h long =
    le_bytes_2 (take 2 bytes) (little_number 2 bytes) (omega (arith, length-take 2 bytes)) (IsBytes-take 2 bytes h) (sym (little_from-take 0 2 2 bytes (omega arith)) ∙ little_2 (take 2 bytes))
bytes_2 big bytes h long =
    be_bytes_2 (take 2 bytes) (big_number 2 bytes) (omega (arith, length-take 2 bytes)) (IsBytes-take 2 bytes h) (sym (big_from-take 0 2 2 bytes (omega arith)) ∙ big_2 (take 2 bytes))
