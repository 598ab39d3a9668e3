-- Parcels and queues as contracts see them.
use Rattle.std.specs.Prelude.{◌≡◌, ◌≤◌, ◌<◌, ◌^◌, ℕ, List, ◌++◌, length, Ok}
use Rattle.and_policy.specs.Outer.{Envelope, outer_packet}
use Rattle.and_parcel.specs.declared.outer.Outer.{Outer}
use Rattle.and_parcel.specs.Reading.{reading}

-- a parcel: the 36 bytes before the frame, the frame, the packet's number, and the VM that sent it
pub record ParcelView : Type 0 where
  pub header : List ℕ
  pub frame : List ℕ
  pub packet : ℕ
  pub vm : ℕ

-- the bytes that are handed on
abbrev pub wire_of : ParcelView → List ℕ
wire_of p = p.header ++ p.frame

-- what the headers say, in the words of the definition of outer packets
abbrev pub envelope : Outer → Envelope
envelope o =
    record { source = o.source; destination = o.destination; ttl = o.ttl; vni = o.vni; source_port = o.source_port; sealed = o.sealed }

-- the numbers fit their types, and the VNI its 24 bits
pub record IsInRange (o : Outer) : Type 0 where
  pub source : o.source < 2 ^ 32
  pub destination : o.destination < 2 ^ 32
  pub ttl : o.ttl < 2 ^ 8
  pub vni : o.vni < 2 ^ 24
  pub source_port : o.source_port < 2 ^ 16

-- what the headers of an outer packet say is read of it
abbrev pub ReadsBack : Type 0
ReadsBack = (o : Outer) (frame : List ℕ) → IsInRange o → length frame ≤ 65499 → reading (outer_packet (envelope o) frame) ≡ Ok o

-- a queue: how many parcels it may hold, and those that it holds, the oldest first
pub record QueueView : Type 0 where
  pub capacity : ℕ
  pub parcels : List ParcelView
