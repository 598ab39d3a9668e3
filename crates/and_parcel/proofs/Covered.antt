-- What the UDP checksum covers, and its sum.
use Rattle.std.proofs.Common.{◌≡◌, ℕ, ◌+◌, ◌-◌, ◌/◌, ◌%◌, ◌<◌, ◌≤◌, List, ◌∷◌, ◌++◌, length, take, drop, refl, ap, ◌∙◌, arith, inl, inr, length-drop}
use Rattle.std.proofs.lemmas.Bool.Decides.{eqb_tells}
use Rattle.std.specs.Prelude.{if◌then◌else◌, ◌==◌}
use Rattle.std.proofs.lemmas.List.{length-take, get_or-drop}
use Rattle.and_lanes.proofs.Sums.{folded-fits, words_sum-append, words_sum-take_2, with_checksum, with_all_ones}
use Rattle.and_policy.specs.Numbers.{number_from}
use Rattle.and_policy.specs.Outer.{Envelope, words_sum, folded, ones_sum, udp_covered}
use Rattle.and_parcel.specs.Reading.{covered}
use Rattle.and_parcel.specs.Sealing.{with_sum}
use Rattle.and_parcel.proofs.Headers.{pieces}

-- what the UDP checksum covers, word by word
pub covered-sum : (bytes : List ℕ) → 36 ≤ length bytes → words_sum (take 8 (drop 12 bytes)) + (17 + (number_from 24 2 bytes + words_sum (drop 20 bytes))) ≡ words_sum (covered bytes)
covered-sum bytes long =
    let addresses : length (take 8 (drop 12 bytes)) ≡ 4 + 4 = omega (arith, length-take 8 (drop 12 bytes), length-drop 12 bytes) in
    let len : length (take 2 (drop 24 bytes)) ≡ 1 + 1 = omega (arith, length-take 2 (drop 24 bytes), length-drop 24 bytes) in
    let first = words_sum-append (take 8 (drop 12 bytes)) (0 ∷ 17 ∷ (take 2 (drop 24 bytes) ++ drop 20 bytes)) 4 addresses in
    let second = words_sum-append (take 2 (drop 24 bytes)) (drop 20 bytes) 1 len in
    let word = words_sum-take_2 (drop 24 bytes) (omega (arith, length-drop 24 bytes)) in
    omega (arith, first, second, word, get_or-drop 24 bytes 0 0, get_or-drop 24 bytes 1 0)

-- ---- an outer packet of its pieces

pub with_sum_is : (o : Envelope) (n sum u v : ℕ) (frame : List ℕ) → with_sum v (pieces o n sum u frame) ≡ pieces o n sum v frame
with_sum_is o n sum u v frame = refl

pub covered_is : (o : Envelope) (sum : ℕ) (frame : List ℕ) → covered (pieces o (length frame) sum 0 frame) ≡ udp_covered o frame
covered_is o sum frame = refl

-- the checksum is two of the bytes
udp_sum : (front rest : List ℕ) (sum : ℕ) → length front ≡ 9 + 9 → sum < 65536
    → words_sum (front ++ (sum / 256 % 256) ∷ (sum % 256) ∷ rest) ≡ words_sum (front ++ 0 ∷ 0 ∷ rest) + sum
udp_sum front rest sum long lt =
    omega (arith, words_sum-append front ((sum / 256 % 256) ∷ (sum % 256) ∷ rest) 9 long, words_sum-append front (0 ∷ 0 ∷ rest) 9 long)

pub sealed_words : (o : Envelope) (n sum u : ℕ) (frame : List ℕ) → u < 65536
    → words_sum (covered (pieces o n sum u frame)) ≡ words_sum (covered (pieces o n sum 0 frame)) + u
sealed_words o n sum u frame lt =
    udp_sum (take 18 (covered (pieces o n sum 0 frame))) (drop 20 (covered (pieces o n sum 0 frame))) u refl lt

-- something is covered: at least the UDP destination port
some_words : (o : Envelope) (n sum : ℕ) (frame : List ℕ) → 0 < words_sum (covered (pieces o n sum 0 frame))
some_words o n sum frame =
    let split = words_sum-append (take 16 (covered (pieces o n sum 0 frame))) (drop 16 (covered (pieces o n sum 0 frame))) 8 refl in
    omega (arith, split)

-- with its checksum, as it is sent, the sum is all ones
sent_sum : (words total u s : ℕ) → 0 < words → s ≡ 65535 - folded words words → u ≡ (if s == 0 then 65535 else s) → (u < 65536 → total ≡ words + u)
    → (folded total total ≡ 65535) × (0 < u) × (u < 65536)
sent_sum words total u s some is sent more =
    elim (eqb_tells s 0) as (λ _. (folded total total ≡ 65535) × (0 < u) × (u < 65536)) [
      | inl e ↦
          let all : u ≡ 65535 = sent ∙ rw e.0 refl in
          let ones : folded words words ≡ 65535 = omega (arith, folded-fits words, is, e.1) in
          (with_all_ones words total some ones (more (omega (arith, all)) ∙ ap (λ n. words + n) all), omega (arith, all), omega (arith, all))
      | inr e ↦
          let same : u ≡ s = sent ∙ rw e.0 refl in
          let few : u < 65536 = omega (arith, same, is) in
          (with_checksum words total some (more few ∙ ap (λ n. words + n) (same ∙ is)), some_left u s same e.1, few)
    ]
  where
    some_left : (u s : ℕ) → u ≡ s → (s ≡ 0 → ⊥) → 0 < u
    some_left u s e ne = omega (arith, e, ne)

pub sealed_sum : (o : Envelope) (n sum u : ℕ) (frame : List ℕ)
    → u ≡ (let s = 65535 - ones_sum (covered (pieces o n sum 0 frame)) in if s == 0 then 65535 else s)
    → (ones_sum (covered (pieces o n sum u frame)) ≡ 65535) × (0 < u) × (u < 65536)
sealed_sum o n sum u frame e =
    sent_sum (words_sum (covered (pieces o n sum 0 frame))) (words_sum (covered (pieces o n sum u frame))) u (65535 - ones_sum (covered (pieces o n sum 0 frame))) (some_words o n sum frame) refl e
    (sealed_words o n sum u frame)
