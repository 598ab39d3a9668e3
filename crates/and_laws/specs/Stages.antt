-- Where a packet is says which decisions led it there.
use Rattle.std.specs.Prelude.{◌≡◌, ℕ, ◌<◌, ◌==◌, List, [], Some, length}
use Rattle.std.specs.List.{count_by}
use Rattle.and_policy.specs.declared.decision.Dest.TheVariants.{Hover}
use Rattle.and_events.specs.declared.event.Actor.{Actor}
use Rattle.and_events.specs.declared.event.Actor.TheVariants.{Worker, Coproc, Gateway}
use Rattle.and_events.specs.declared.event.Event.{Event}
use Rattle.and_events.specs.declared.event.Held.{Held}
use Rattle.and_events.specs.declared.event.Carried.{Carried}
use Rattle.and_events.specs.declared.event.Node.{Node}
use Rattle.and_events.specs.declared.event.Endpoint.{Endpoint}
use Rattle.and_events.specs.declared.event.Endpoint.TheVariants as endpoints
use Rattle.and_events.specs.declared.event.Queue.{Queue}
use Rattle.and_events.specs.declared.event.Queue.TheVariants.{Out, Wire, Seal}
use Rattle.and_events.specs.declared.plan.Plan.{Plan}
use Rattle.and_events.specs.Places.{queue_place, hand_place, node_of, IsActor, IsNode, HasQueue}
use Rattle.and_events.specs.Flow.{queue_at, hand_at}
use Rattle.and_events.specs.State.{state, source_net, carried_at, node_at}
use Rattle.and_events.specs.Run.{injections}
use Rattle.and_events.specs.Just.{egresses, passages_of, LeftBy, LedTo}

-- the actor takes packets
abbrev pub Takes : Actor → Type 0
Takes (Worker h w) = Unit {0}
Takes (Coproc h) = Unit {0}
Takes (Gateway g) = Unit {0}
Takes _ = ⊥

-- the actor takes packets from such a queue
abbrev pub MayTake : Actor → Queue → Type 0
MayTake (Worker h w) Out = Unit {0}
MayTake (Worker h w) Wire = Unit {0}
MayTake (Coproc h) Seal = Unit {0}
MayTake (Gateway g) Wire = Unit {0}
MayTake _ _ = ⊥

-- what an actor has in hand it took from a queue of its kind
abbrev pub HaveRightHands : Plan → List Event → Type 0
HaveRightHands plan h =
    (a : Actor) (g : Held) → IsActor plan.settings a → Takes a → hand_at (state plan h).flow.hands (hand_place plan.settings a) ≡ Some g → MayTake a g.queue

-- how often the packet is in one queue
abbrev pub count_in : ℕ → List ℕ → ℕ
count_in i xs = count_by (λ x. x == i) xs

-- no decision about the packet so far
pub record IsUndecided (plan : Plan) (h : List Event) (i : ℕ) : Type 0 where
  pub unleft : egresses plan h i ≡ []
  pub unrouted : passages_of plan h i ≡ []

-- it left for a gateway, with its own network, and was not routed yet
pub record IsForRoute (plan : Plan) (h : List Event) (i net : ℕ) : Type 0 where
  pub own : net ≡ source_net plan i
  pub gateway : ℕ
  pub left : LeftBy plan h i (Hover gateway)
  pub unrouted : passages_of plan h i ≡ []

-- what led to a send of the packet to this endpoint, with this network
abbrev pub LedAs : Plan → List Event → ℕ → ℕ → Endpoint → Type 0
LedAs plan h i net (endpoints.Route g) = IsForRoute plan h i net
LedAs plan h i net (endpoints.Host host) = LedTo plan h i net
LedAs plan h i net (endpoints.Redirect g) = LedTo plan h i net

-- what the decisions say of a packet in a queue of a node, or in hand from it. Until it is on the underlay it has all its hops
abbrev pub StageOf : Plan → List Event → ℕ → Carried → Queue → Node → Type 0
StageOf plan h i c Out node = IsUndecided plan h i × (c.hops ≡ plan.settings.hop_limit)
StageOf plan h i c Wire node = LedAs plan h i c.net c.target × (node_at c.target ≡ node)
StageOf plan h i c Seal node = LedAs plan h i c.net c.target × (c.hops ≡ plan.settings.hop_limit)

abbrev pub StageAt : Plan → List Event → ℕ → Queue → Node → Type 0
StageAt plan h i q node = StageOf plan h i (carried_at (state plan h) i) q node

-- of each packet in a queue or in hand, and of those not yet injected
pub record Stages (plan : Plan) (h : List Event) : Type 0 where
  pub queues : (i : ℕ) (q : Queue) (node : Node) → IsNode plan.settings node → HasQueue node q
      → 0 < count_in i (queue_at (state plan h).flow.queues (queue_place plan.settings node q)) → StageAt plan h i q node
  pub hands : (a : Actor) (g : Held) → IsActor plan.settings a → Takes a
      → hand_at (state plan h).flow.hands (hand_place plan.settings a) ≡ Some g → StageAt plan h g.packet g.queue (node_of a)
  pub unborn : (i : ℕ) → injections h i ≡ 0 → IsUndecided plan h i
  pub whole : (i : ℕ) → i < length plan.packets → injections h i ≡ 0 → (carried_at (state plan h) i).hops ≡ plan.settings.hop_limit
