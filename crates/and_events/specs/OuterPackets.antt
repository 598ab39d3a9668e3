-- The packets of the underlay: one for each send.
use Rattle.std.specs.Prelude.{ℕ, ◌-◌, List, [], ◌∷◌, ◌++◌, length, Option, Some, None, slice_get, option_map}
use Rattle.and_policy.specs.Outer.{Envelope, outer_packet, host_address, route_address, redirect_address, entropy_port}
use Rattle.and_policy.specs.FlowHash.{flow_hash}
use Rattle.and_events.specs.declared.event.Node.{Node}
use Rattle.and_events.specs.declared.event.Node.TheVariants as nodes
use Rattle.and_events.specs.declared.event.Endpoint.{Endpoint}
use Rattle.and_events.specs.declared.event.Endpoint.TheVariants.{Host, Route, Redirect}
use Rattle.and_events.specs.declared.event.Event.{Event}
use Rattle.and_events.specs.declared.plan.Plan.{Plan}
use Rattle.and_events.specs.Places.{node_of, actor_of}
use Rattle.and_events.specs.Flow.{Move, Send}
use Rattle.and_events.specs.State.{State, state, tuple_at, frame_at, carried_at, move_of}
use Rattle.and_events.specs.Run.{sends}

-- a host sends from its address, a gateway from its route address
abbrev pub source_address : Node → ℕ
source_address (nodes.Host h) = host_address h
source_address (nodes.Gate g) = route_address g

abbrev pub endpoint_address : Endpoint → ℕ
endpoint_address (Host h) = host_address h
endpoint_address (Route g) = route_address g
endpoint_address (Redirect g) = redirect_address g

-- a send: the packet, and its outer headers
pub record Sent : Type 0 where
  pub packet : ℕ
  pub outer : Envelope

-- the TTL is the number of hops left before the send: the limit less the earlier sends of the packet
abbrev pub sent_by_move : Plan → List Event → Node → Move → Option Sent
sent_by_move plan h here (Send a q i net target) =
    Some (record {
      packet = i;
      outer = record {
        source = source_address here;
        destination = endpoint_address target;
        ttl = plan.settings.hop_limit - sends plan h i;
        vni = net;
        source_port = entropy_port (flow_hash (tuple_at plan i));
        sealed = (carried_at (state plan h) i).sealed;
      };
    })
sent_by_move plan h here _ = None

-- the send that an event is, after the history h
abbrev pub sent_by : Plan → List Event → Event → Option Sent
sent_by plan h e = sent_by_move plan h (node_of (actor_of e)) (move_of plan (state plan h) e)

abbrev pub with_sent : List Sent → Option Sent → List Sent
with_sent sents None = sents
with_sent sents (Some sent) = sents ++ sent ∷ []

-- the sends of a history, the oldest first
unfoldable pub sends_of : Plan → List Event → List Sent
sends_of plan [] = []
sends_of plan (e ∷ h) = with_sent (sends_of plan h) (sent_by plan h e)

-- the bytes of a send
abbrev pub sent_bytes : Plan → Sent → List ℕ
sent_bytes plan sent = outer_packet sent.outer (frame_at plan sent.packet)

-- the bytes of the t-th send, from 0
abbrev pub outer : Plan → List Event → ℕ → Option (List ℕ)
outer plan h t = option_map (sent_bytes plan) (slice_get (sends_of plan h) t)
