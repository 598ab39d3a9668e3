-- The outer headers that a parcel carries: those of the send that put it where it is.
use Rattle.std.specs.Prelude.{◌≡◌, ℕ, ◌<◌, List, Some, slice_get}
use Rattle.and_parcel.specs.Parcels.{ParcelView, wire_of}
use Rattle.and_events.specs.declared.event.Event.{Event}
use Rattle.and_events.specs.declared.plan.Plan.{Plan}
use Rattle.and_events.specs.OuterPackets.{Sent, sends_of, outer}

-- of these sends this one, at place t, is the newest of the packet
pub record IsNewest (sents : List Sent) (i t : ℕ) (sent : Sent) : Type 0 where
  pub there : slice_get sents t ≡ Some sent
  pub of : sent.packet ≡ i
  pub newest : (u : ℕ) (later : Sent) → t < u → slice_get sents u ≡ Some later → later.packet ≡ i → ⊥

-- the packet was sent, and the parcel's bytes are the underlay's packet of its newest send
pub record IsSentBy (plan : Plan) (h : List Event) (p : ParcelView) : Type 0 where
  pub t : ℕ
  pub sent : Sent
  pub newest : IsNewest (sends_of plan h) p.packet t sent
  pub bytes : outer plan h t ≡ Some (wire_of p)
