-- What an event does with a packet, as the pass over the lines has it.
use Rattle.std.specs.Prelude.{ℕ, List, slice_set, Option, Some, None}
use Rattle.and_policy.specs.FlowHash.{flow_hash}
use Rattle.and_policy.specs.Outer.{entropy_port}
use Rattle.and_events.specs.declared.event.Carried.{Carried}
use Rattle.and_events.specs.declared.event.Node.{Node}
use Rattle.and_events.specs.declared.plan.Plan.{Plan}
use Rattle.and_events.specs.Flow.{Move, Send, SealLater, carried_in, sent, to_be_sealed}
use Rattle.and_events.specs.OuterPackets.{Sent, source_address, endpoint_address}
use Rattle.and_events.specs.State.{tuple_at}
use Rattle.and_outputs.specs.declared.moved.Trip.{Trip}
use Rattle.and_outputs.specs.declared.moved.Moved.{Moved}
use Rattle.and_outputs.specs.declared.moved.Moved.TheVariants as moveds

-- the part of a move that says what becomes of the packet
abbrev pub moved_by : Move → Moved
moved_by (Send a q i net target) = moveds.Sent (record { packet = i; net = net; target = target })
moved_by (SealLater a q i net target) = moveds.Waits (record { packet = i; net = net; target = target })
moved_by _ = moveds.Not

-- the packet that enters the underlay
abbrev pub sent_packet : Moved → Option ℕ
sent_packet (moveds.Sent t) = Some t.packet
sent_packet _ = None

-- what is known of the packets afterwards
abbrev pub noted_sent : List Carried → Trip → List Carried
noted_sent carried t = slice_set carried t.packet (sent (carried_in carried t.packet) t.net t.target)

abbrev pub noted_waiting : List Carried → Trip → List Carried
noted_waiting carried t = slice_set carried t.packet (to_be_sealed (carried_in carried t.packet) t.net t.target)

abbrev pub noted : List Carried → Moved → List Carried
noted carried moveds.Not = carried
noted carried (moveds.Waits t) = noted_waiting carried t
noted carried (moveds.Sent t) = noted_sent carried t

-- the send of a packet by a node, with what is known of the packet just before: the TTL is the hops that are left
abbrev pub sent_with : Plan → Node → Carried → Trip → Sent
sent_with plan here c t =
    record {
      packet = t.packet;
      outer = record {
        source = source_address here;
        destination = endpoint_address t.target;
        ttl = c.hops;
        vni = t.net;
        source_port = entropy_port (flow_hash (tuple_at plan t.packet));
        sealed = c.sealed;
      };
    }

abbrev pub sent_by : Plan → Node → List Carried → Moved → Option Sent
sent_by plan here carried (moveds.Sent t) = Some (sent_with plan here (carried_in carried t.packet) t)
sent_by plan here carried _ = None
