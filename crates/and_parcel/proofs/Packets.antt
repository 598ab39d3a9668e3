-- What was wrapped is read again.
use Rattle.std.proofs.Common.{◌≡◌, ℕ, ◌+◌, ◌-◌, ◌/◌, ◌%◌, ◌<◌, ◌≤◌, Bool, true, false, ◌&&◌, inl, inr, eqb, ltb, List, [], ◌∷◌, length, take, Option, None, Ok, Err, refl, sym, ap, ◌∙◌, arith, eq-eqb}
use Rattle.std.specs.Prelude.{not, slice_index, Result}
use Rattle.std.specs.Int.{byte_at}
use Rattle.std.proofs.lemmas.Bool.{cases_Bool, le-ltb, ne_eqb}
use Rattle.byteorder.specs.Numbers.{big_number-reads_back}
use Rattle.and_policy.specs.Checks.{first_failing, unless}
use Rattle.and_policy.specs.Numbers.{number_from, bytes_of}
use Rattle.and_policy.specs.Outer.{Envelope, words_sum, ones_sum, ip_header, outer_packet, udp_covered}
use Rattle.and_parcel.specs.declared.outer.Outer.{Outer}
use Rattle.and_parcel.specs.declared.outer.WrapFault.{WrapFault}
use Rattle.and_parcel.specs.Parcels.{envelope, IsInRange}
use Rattle.and_parcel.specs.Reading.{checksum_field, covered, outer_checks, said, reading}
use Rattle.and_lanes.proofs.Sums.{with_checksum}
use Rattle.and_parcel.specs.Sealing.{sealed, checksummed, with_sum}
use Rattle.and_parcel.proofs.Covered.{sealed_sum}
use Rattle.and_parcel.proofs.Headers.{pieces, sent_over, open_is, sealed_is}

-- bytes that pass every check
record PassesChecks (bytes : List ℕ) : Type 0 where
  long : ltb (length bytes) 36 ≡ false
  version : eqb (slice_index bytes 0) 0x45 ≡ true
  header : eqb (ones_sum (take 20 bytes)) 0xffff ≡ true
  total_len : eqb (number_from 2 2 bytes) (length bytes) ≡ true
  udp_len : eqb (number_from 24 2 bytes) (length bytes - 20) ≡ true
  protocol : eqb (slice_index bytes 9) 17 ≡ true
  port : eqb (number_from 22 2 bytes) 4789 ≡ true
  checksum : not (eqb (checksum_field bytes) 0) && not (eqb (ones_sum (covered bytes)) 0xffff) ≡ false
  flag : eqb (slice_index bytes 28 / 8 % 2) 0 ≡ false

all_pass : (bytes : List ℕ) → PassesChecks bytes → first_failing (outer_checks bytes) ≡ None
all_pass bytes p = rw (p.long, p.version, p.header, p.total_len, p.udp_len, p.protocol, p.port, p.checksum, p.flag) refl

accepted : (bytes : List ℕ) (o : Outer) → PassesChecks bytes → said bytes ≡ o → reading bytes ≡ Ok o
unfolding reading
accepted bytes o p s = ap (λ (f : Option WrapFault). unless f (said bytes)) (all_pass bytes p) ∙ ap (λ (x : Outer). Ok x) s

-- the checksum of an IPv4 header is two of its bytes
header_sum : (a b c d e f g h i j k l m n o p q r sum : ℕ) → sum < 65536
    → words_sum (a ∷ b ∷ c ∷ d ∷ e ∷ f ∷ g ∷ h ∷ i ∷ j ∷ (sum / 256 % 256) ∷ (sum % 256) ∷ k ∷ l ∷ m ∷ n ∷ o ∷ p ∷ q ∷ r ∷ [])
    ≡ words_sum (a ∷ b ∷ c ∷ d ∷ e ∷ f ∷ g ∷ h ∷ i ∷ j ∷ 0 ∷ 0 ∷ k ∷ l ∷ m ∷ n ∷ o ∷ p ∷ q ∷ r ∷ []) + sum
header_sum a b c d e f g h i j k l m n o p q r sum lt = omega arith

good_words : (o : Envelope) (n sum : ℕ) → sum < 65536 → words_sum (ip_header o n sum) ≡ words_sum (ip_header o n 0) + sum
good_words o n sum lt =
    header_sum 0x45 0 (byte_at 1 (36 + n)) (byte_at 0 (36 + n)) 0 0 0x40 0 (byte_at 0 o.ttl) 17 (byte_at 3 o.source) (byte_at 2 o.source) (byte_at 1 o.source) (byte_at 0 o.source)
    (byte_at 3 o.destination) (byte_at 2 o.destination) (byte_at 1 o.destination) (byte_at 0 o.destination) sum lt

some_words : (rest : ℕ) → 0 < 17664 + rest
some_words rest = omega arith

good_header : (o : Envelope) (n sum : ℕ) → sum ≡ 65535 - ones_sum (ip_header o n 0) → ones_sum (ip_header o n sum) ≡ 65535
good_header o n sum checksum =
    let lt : sum < 65536 = below_65536 sum (ones_sum (ip_header o n 0)) checksum in
    with_checksum (words_sum (ip_header o n 0)) (words_sum (ip_header o n sum)) (some_words _) (good_words o n sum lt ∙ ap (λ (s : ℕ). words_sum (ip_header o n 0) + s) checksum)
  where
    below_65536 : (sum ones : ℕ) → sum ≡ 65535 - ones → sum < 65536
    below_65536 sum ones e = omega arith

number_2 : (x : ℕ) → x < 65536 → number_from 0 2 (bytes_of 2 x) ≡ x
number_2 x lt = big_number-reads_back 2 x [] lt

byte_again : (x : ℕ) → x < 256 → x % 256 ≡ x
byte_again x lt = omega arith

same_said : (bytes : List ℕ) (o : Outer) → number_from 12 4 bytes ≡ o.source → number_from 16 4 bytes ≡ o.destination → slice_index bytes 8 ≡ o.ttl → number_from 32 3 bytes ≡ o.vni
    → number_from 20 2 bytes ≡ o.source_port → not (eqb (checksum_field bytes) 0) ≡ o.sealed → said bytes ≡ o
same_said bytes o a b c d e f = rw (a, b, c, d, e, f) refl

pub reads : (o : Outer) (n sum u : ℕ) (frame : List ℕ) → IsInRange o → n ≡ length frame → length frame ≤ 65499 → sum ≡ 65535 - ones_sum (ip_header (envelope o) n 0)
    → not (eqb (checksum_field (pieces (envelope o) n sum u frame)) 0) && not (eqb (ones_sum (covered (pieces (envelope o) n sum u frame))) 0xffff) ≡ false
    → not (eqb (checksum_field (pieces (envelope o) n sum u frame)) 0) ≡ o.sealed
    → reading (pieces (envelope o) n sum u frame) ≡ Ok o
reads o n sum u frame range len short header right is =
    let bytes : List ℕ = pieces (envelope o) n sum u frame in
    let total : number_from 0 2 (bytes_of 2 (36 + n)) ≡ 36 + n = number_2 (36 + n) (omega arith) in
    let udp : number_from 0 2 (bytes_of 2 (16 + n)) ≡ 16 + n = number_2 (16 + n) (omega arith) in
    let whole : 36 + n ≡ length (pieces (envelope o) n sum u frame) = omega arith in
    let behind : 16 + n ≡ length (pieces (envelope o) n sum u frame) - 20 = omega arith in
    accepted bytes o (record {
      long = le-ltb _ _ (omega arith);
      version = refl;
      header = eq-eqb _ _ (good_header (envelope o) n sum header);
      total_len = eq-eqb _ _ (total ∙ whole);
      udp_len = eq-eqb _ _ (udp ∙ behind);
      protocol = refl;
      port = refl;
      checksum = right;
      flag = refl;
    }) (same_said bytes o (big_number-reads_back 4 o.source [] range.source) (big_number-reads_back 4 o.destination [] range.destination) (byte_again o.ttl range.ttl)
    (big_number-reads_back 3 o.vni [] range.vni) (big_number-reads_back 2 o.source_port [] range.source_port) is)

open_reads : (o : Outer) (frame : List ℕ) → IsInRange o → length frame ≤ 65499 → o.sealed ≡ false → reading (outer_packet (envelope o) frame) ≡ Ok o
open_reads o frame range short is =
    ap reading (sym (open_is (envelope o) frame is))
    ∙ reads o (length frame) (65535 - ones_sum (ip_header (envelope o) (length frame) 0)) 0 frame range refl short refl refl (sym is)

sealed_reads : (o : Outer) (frame : List ℕ) → IsInRange o → length frame ≤ 65499 → o.sealed ≡ true → reading (outer_packet (envelope o) frame) ≡ Ok o
sealed_reads o frame range short is =
    let n = length frame in
    let sum = 65535 - ones_sum (ip_header (envelope o) n 0) in
    let u = sent_over (udp_covered (envelope o) frame) in
    let good = sealed_sum (envelope o) n sum u frame refl in
    let field : checksum_field (pieces (envelope o) n sum u frame) ≡ u = number_2 u good.2 in
    let some : eqb (checksum_field (pieces (envelope o) n sum u frame)) 0 ≡ false = ne_eqb _ _ (λ e. nothing u (sym field ∙ e) good.1) in
    ap reading (sym (sealed_is (envelope o) frame is))
    ∙ reads o n sum u frame range refl short refl
    (rw (eq-eqb _ _ good.0) (and_false _))
    (rw some (sym is))
  where
    nothing : (u : ℕ) → u ≡ 0 → 0 < u → ⊥
    nothing u e lt = omega (arith, e)

    and_false : (b : Bool) → b && false ≡ false
    and_false true = refl
    and_false false = refl

pub wrapped_reads : (o : Outer) (frame : List ℕ) → IsInRange o → length frame ≤ 65499 → reading (outer_packet (envelope o) frame) ≡ Ok o
wrapped_reads o frame range short =
    elim (cases_Bool o.sealed) as (λ _. reading (outer_packet (envelope o) frame) ≡ Ok o) [
      | inl is ↦ sealed_reads o frame range short is
      | inr is ↦ open_reads o frame range short is
    ]

-- ---- sealing what is there

pub sealed_again : (o : Outer) (frame : List ℕ) → with_sum (sent_over (udp_covered (envelope o) frame)) (outer_packet (envelope o) frame) ≡ outer_packet (envelope (sealed o)) frame
sealed_again o frame = sealed_is (envelope (sealed o)) frame refl

-- the parcel's bytes after sealing
pub sealed_bytes : (o : Outer) (frame items : List ℕ) → items ≡ outer_packet (envelope o) frame → checksummed items ≡ outer_packet (envelope (sealed o)) frame
sealed_bytes o frame items e = ap checksummed e ∙ sealed_again o frame

pub sealed_range : (o : Outer) → IsInRange o → IsInRange (sealed o)
sealed_range o r = record { source = r.source; destination = r.destination; ttl = r.ttl; vni = r.vni; source_port = r.source_port }

value_or : Outer → Result Outer WrapFault → Outer
value_or o (Ok p) = p
value_or o (Err f) = o

same_value : (o p : Outer) → ◌≡◌ {A = Result Outer WrapFault} (Ok o) (Ok p) → o ≡ p
unfolding value_or
same_value o p e = ap (value_or o) e

pub sealed_unwraps : (o p : Outer) (frame old new : List ℕ) → IsInRange o → length frame ≤ 65499 → old ≡ outer_packet (envelope o) frame → new ≡ outer_packet (envelope (sealed o)) frame
    → reading old ≡ Ok p → reading new ≡ Ok (sealed p)
sealed_unwraps o p frame old new range short e f r =
    let same : o ≡ p = same_value o p (sym (ap reading e ∙ wrapped_reads o frame range short) ∙ r) in
    ap reading f ∙ wrapped_reads (sealed o) frame (sealed_range o range) short ∙ ap (λ (q : Outer). Ok (sealed q)) same
