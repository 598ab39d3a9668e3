-- Sealed parcels: the UDP checksum of an outer packet (RFC 768), as it is written over one that has none.
use Rattle.std.specs.Prelude.{◌≡◌, ℕ, ◌==◌, true, false, if◌then◌else◌, List, ◌++◌, take, drop}
use Rattle.and_policy.specs.Numbers.{bytes_of}
use Rattle.and_policy.specs.Outer.{Envelope, checksum, outer_packet}
use Rattle.and_parcel.specs.declared.outer.Outer.{Outer}
use Rattle.and_parcel.specs.Parcels.{IsInRange, ParcelView, envelope, wire_of}
use Rattle.and_parcel.specs.Reading.{covered}

-- the packet with this UDP checksum
abbrev pub with_sum : ℕ → List ℕ → List ℕ
with_sum sum bytes = take 26 bytes ++ bytes_of 2 sum ++ drop 28 bytes

-- the packet with the UDP checksum of what it has; a computed 0 is sent as ffff
abbrev pub checksummed : List ℕ → List ℕ
checksummed bytes = let sum = checksum (covered (with_sum 0 bytes)) in with_sum (if sum == 0 then 65535 else sum) (with_sum 0 bytes)

-- the packet without a UDP checksum
abbrev pub open_packet : Envelope → List ℕ → List ℕ
open_packet o frame = outer_packet (record o { sealed = false }) frame

-- the same headers, sealed
abbrev pub sealed : Outer → Outer
sealed o = record o { sealed = true }

-- its headers are those that `wrap` writes for o; and for some o
abbrev pub IsWrapping : Outer → ParcelView → Type 0
IsWrapping o p = IsInRange o × (wire_of p ≡ outer_packet (envelope o) p.frame)

abbrev pub IsWrapped : ParcelView → Type 0
IsWrapped p = (o : Outer) × IsWrapping o p
