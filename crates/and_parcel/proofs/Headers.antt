-- Headers that are written one after another.
use Rattle.std.proofs.Common.{◌≡◌, ℕ, ◌+◌, ◌-◌, true, false, List, [], ◌++◌, length, take, drop, refl, sym, ap, ◌∙◌, append_assoc, arith, length-drop}
use Rattle.std.proofs.lemmas.List.{take_at, drop_at, drop-drop, append-nil, nil_from_length}
use Rattle.std.proofs.lemmas.Slice.{between_to_end}
use borrow.Rule.Slice.PartMut.{put_mid}
use Rattle.and_policy.specs.Outer.{Envelope, ones_sum, ip_header, udp_header, vxlan_header, udp_covered, udp_checksum, outer_packet}
use Rattle.std.specs.Prelude.{◌==◌, if◌then◌else◌}
use Rattle.and_parcel.specs.Sealing.{open_packet, checksummed}

-- a write behind what was written so far
pub put_next : (n m k : ℕ) (front part old xs ys : List ℕ) → length front ≡ n → k ≡ length xs - n → xs ≡ front ++ drop n old → ys ≡ part ++ drop m (take k (drop n xs))
    → put_mid n k xs ys ≡ (front ++ part) ++ drop (n + m) old
put_next n m k front part old xs ys len size written put =
    let before : take n xs ≡ front = rw written (take_at front (drop n old) n len) in
    let behind : drop n xs ≡ drop n old = rw written (drop_at front (drop n old) n len) in
    let all : take k (drop n xs) ≡ drop n xs = rw size (between_to_end xs n (length xs) (omega arith)) in
    let ended : drop k (drop n xs) ≡ [] = nil_from_length (drop k (drop n xs)) (omega (arith, length-drop k (drop n xs), length-drop n xs)) in
    let now : ys ≡ part ++ drop (n + m) old = put ∙ ap (λ (t : List ℕ). part ++ drop m t) (all ∙ behind) ∙ ap (λ (t : List ℕ). part ++ t) (drop-drop m n old) in
    rw (before, now, ended) (ap (λ (t : List ℕ). front ++ t) (append-nil (part ++ drop (n + m) old)) ∙ sym (append_assoc front part (drop (n + m) old)))

-- an outer packet of its headers, by the numbers in them
abbrev pub pieces : Envelope → ℕ → ℕ → ℕ → List ℕ → List ℕ
pieces o n sum udp_sum frame = (ip_header o n sum ++ udp_header o n udp_sum ++ vxlan_header o) ++ frame

-- the checksum as it is sent
abbrev pub sent_over : List ℕ → ℕ
sent_over bytes = let sum = 65535 - ones_sum bytes in if sum == 0 then 65535 else sum

no_checksum : (o : Envelope) (frame : List ℕ) → o.sealed ≡ false → udp_checksum o frame ≡ 0
no_checksum o frame unsealed = rw unsealed refl

some_checksum : (o : Envelope) (frame : List ℕ) → o.sealed ≡ true → udp_checksum o frame ≡ sent_over (udp_covered o frame)
some_checksum o frame is = rw is refl

-- an outer packet that is open, and one that is sealed
pub open_is : (o : Envelope) (frame : List ℕ) → o.sealed ≡ false → pieces o (length frame) (65535 - ones_sum (ip_header o (length frame) 0)) 0 frame ≡ outer_packet o frame
open_is o frame unsealed = ap (λ (u : ℕ). pieces o (length frame) (65535 - ones_sum (ip_header o (length frame) 0)) u frame) (sym (no_checksum o frame unsealed))

pub sealed_is : (o : Envelope) (frame : List ℕ) → o.sealed ≡ true
    → pieces o (length frame) (65535 - ones_sum (ip_header o (length frame) 0)) (sent_over (udp_covered o frame)) frame ≡ outer_packet o frame
sealed_is o frame is = ap (λ (u : ℕ). pieces o (length frame) (65535 - ones_sum (ip_header o (length frame) 0)) u frame) (sym (some_checksum o frame is))

pub open_packet_is : (o : Envelope) (n sum : ℕ) (frame : List ℕ) → n ≡ length frame → sum ≡ 65535 - ones_sum (ip_header o n 0) → pieces o n sum 0 frame ≡ open_packet o frame
open_packet_is o n sum frame len checksum =
    ap (λ (s : ℕ). pieces o n s 0 frame) checksum
    ∙ ap (λ (k : ℕ). pieces o k (65535 - ones_sum (ip_header o k 0)) 0 frame) len

pub sealed_packet : (o : Envelope) (frame : List ℕ) → o.sealed ≡ true → checksummed (open_packet o frame) ≡ outer_packet o frame
sealed_packet o frame is = sealed_is o frame is

pub unsealed_packet : (o : Envelope) (frame : List ℕ) → o.sealed ≡ false → open_packet o frame ≡ outer_packet o frame
unsealed_packet o frame is = open_is o frame is
