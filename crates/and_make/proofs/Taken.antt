-- The switch takes each frame of a drill.
use Rattle.std.proofs.Common.{◌≡◌, ℕ, zero, ◌+◌, ◌-◌, ◌<◌, false, eqb, ltb, List, [], length, replicate, Option, None, Ok, refl, ap, ◌∙◌, arith}
use Rattle.std.specs.Prelude.{slice_index, Result}
use Rattle.std.proofs.lemmas.Bool.{le-ltb, ne_eqb}
use Rattle.std.proofs.lemmas.List.{length-replicate}
use Rattle.byteorder.specs.Numbers.{big_number-reads_back}
use Rattle.and_policy.specs.Checks.{first_failing, unless}
use Rattle.and_policy.specs.declared.packet.Skip.{Skip}
use Rattle.and_policy.specs.declared.packet.Fields.{Fields}
use Rattle.and_policy.specs.Frames.{fields, frame_checks, tuple_in}
use Rattle.and_policy.specs.Numbers.{number_from, bytes_of}
use Rattle.and_make.specs.Vms.{mac_of, address_of}
use Rattle.and_make.specs.Frames.{source, destination, payload, source_port, destination_port, frame, fields_of}

-- what is read of a frame without options and fragments, where it has f bytes
record IsPlain (xs : List ℕ) (n total : ℕ) : Type 0 where
  len : length xs ≡ n
  long : ltb 65499 n ≡ false
  short : ltb n 14 ≡ false
  kind : number_from 12 2 xs ≡ 0x0800
  room : ltb (n - 14) 20 ≡ false
  first : slice_index xs 14 ≡ 0x45
  total_len : number_from 16 2 xs ≡ total
  some : eqb total 0 ≡ false
  header : ltb total 20 ≡ false
  whole : ltb (n - 14) total ≡ false
  flags : number_from 20 2 xs ≡ 0
  kind_of_packet : slice_index xs 23 ≡ 6
  ports : ltb total 24 ≡ false

passes : (xs : List ℕ) (n total : ℕ) → IsPlain xs n total → first_failing (frame_checks xs) ≡ None
passes xs n total p =
    rw (p.len, p.long, p.short, p.kind, p.room, p.first, p.total_len, p.some, p.header, p.whole, p.flags, p.kind_of_packet, p.ports) refl

pub frame_length : (x y z : ℕ) → length (frame x y z) ≡ 54 + payload y
unfolding frame
frame_length x y z = let e : length (replicate (payload y) zero) ≡ payload y = length-replicate (payload y) zero in omega (arith, e)

plain : (x y z : ℕ) → IsPlain (frame x y z) (54 + payload y) (40 + payload y)
unfolding frame
plain x y z =
    record {
      len = frame_length x y z;
      long = le-ltb _ _ (omega arith);
      short = le-ltb _ _ (omega arith);
      kind = refl;
      room = le-ltb _ _ (omega arith);
      first = refl;
      total_len = big_number-reads_back 2 (40 + payload y) [] (omega arith);
      some = ne_eqb _ _ (λ e. omega arith);
      header = le-ltb _ _ (omega arith);
      whole = le-ltb _ _ (omega arith);
      flags = refl;
      kind_of_packet = refl;
      ports = le-ltb _ _ (omega arith);
    }

vm_source : (x : ℕ) → source x < 40
vm_source x = omega arith

vm_destination : (x : ℕ) → destination x < 40
vm_destination x = omega arith

mac_again : (vm : ℕ) → vm < 40 → number_from 0 6 (bytes_of 6 (mac_of vm)) ≡ mac_of vm
mac_again vm lt = big_number-reads_back 6 (mac_of vm) [] (omega arith)

address_again : (vm : ℕ) → vm < 40 → number_from 0 4 (bytes_of 4 (address_of vm)) ≡ address_of vm
address_again vm lt = big_number-reads_back 4 (address_of vm) [] (omega arith)

abbrev accepted : Fields → Result Fields Skip
accepted f = Ok f

-- what is read of a frame that passes, by its numbers
read_as : (xs : List ℕ) (mac from to out in' : ℕ) → slice_index xs 14 ≡ 0x45 → number_from 20 2 xs ≡ 0 → slice_index xs 23 ≡ 6 → number_from 6 6 xs ≡ mac
    → number_from 26 4 xs ≡ from → number_from 30 4 xs ≡ to → number_from 34 2 xs ≡ out → number_from 36 2 xs ≡ in'
    → accepted (record { source_mac = number_from 6 6 xs; tuple = tuple_in xs })
    ≡ accepted (record { source_mac = mac; tuple = record { protocol = 6; source = from; destination = to; source_port = out; destination_port = in' } })
read_as xs mac from to out in' first flags kind a b c d e = rw (first, flags, kind, a, b, c, d, e) refl

reads : (x y z : ℕ) → accepted (record { source_mac = number_from 6 6 (frame x y z); tuple = tuple_in (frame x y z) }) ≡ Ok (fields_of x y z)
unfolding frame
reads x y z =
    read_as (frame x y z) (mac_of (source x)) (address_of (source x)) (address_of (destination x)) (source_port z) (destination_port y) refl refl refl
    (mac_again (source x) (vm_source x)) (address_again (source x) (vm_source x)) (address_again (destination x) (vm_destination x))
    (big_number-reads_back 2 (source_port z) [] (omega arith)) (big_number-reads_back 2 (destination_port y) [] (omega arith))

pub frame_is_taken : (x y z : ℕ) → fields (frame x y z) ≡ Ok (fields_of x y z)
frame_is_taken x y z =
    let xs = frame x y z in
    ap (λ (f : Option Skip). unless f (record { source_mac = number_from 6 6 xs; tuple = tuple_in xs })) (passes xs (54 + payload y) (40 + payload y) (plain x y z)) ∙ reads x y z
