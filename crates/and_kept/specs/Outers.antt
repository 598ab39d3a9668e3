-- The outer headers that a send gives a parcel.
use Rattle.std.specs.Prelude.{ℕ, ◌<◌, ◌^◌, List}
use Rattle.and_policy.specs.declared.packet.Tuple.{Tuple}
use Rattle.and_policy.specs.FlowHash.{flow_hash}
use Rattle.and_policy.specs.Outer.{outer_header, entropy_port}
use Rattle.and_parcel.specs.Parcels.{ParcelView}
use Rattle.and_events.specs.declared.event.Carried.{Carried}
use Rattle.and_events.specs.declared.event.Node.{Node}
use Rattle.and_events.specs.declared.event.Node.TheVariants.{Host, Gate}
use Rattle.and_events.specs.declared.event.Endpoint.{Endpoint}
use Rattle.and_events.specs.Flow.{Move, Send, SealLater}
use Rattle.and_events.specs.OuterPackets.{source_address, endpoint_address}
use Rattle.and_kept.specs.Lanes.{with_parcel}

-- the node's number fits its underlay address
abbrev pub HasAddress : Node → Type 0
HasAddress (Host h) = h < 2 ^ 16
HasAddress (Gate g) = g < 2 ^ 16

-- the parcel with the outer headers of a send: from which node, the tuple, what is known of the packet before it, the network,
-- and whereto
abbrev pub wrapped : Node → Tuple → Carried → ParcelView → ℕ → Endpoint → ParcelView
wrapped here x c p net target =
    record p {
      header = outer_header (record {
        source = source_address here;
        destination = endpoint_address target;
        ttl = c.hops;
        vni = net;
        source_port = entropy_port (flow_hash x);
        sealed = c.sealed;
      }) p.frame;
    }

-- the parcels in the queues after its move: a send puts it into its queue with outer headers, and what is to be sealed waits as
-- it is
abbrev pub parcels_moved : Node → Tuple → Carried → List (List ParcelView) → ParcelView → Move → List (List ParcelView)
parcels_moved here x c parcels p (Send a q i net target) = with_parcel parcels q (wrapped here x c p net target)
parcels_moved here x c parcels p (SealLater a q i net target) = with_parcel parcels q p
parcels_moved here x c parcels p _ = parcels
