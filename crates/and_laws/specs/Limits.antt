-- The limits of a run: how much a queue holds, and how often a packet is sent.
use Rattle.std.specs.Prelude.{◌≡◌, ℕ, ◌+◌, ◌<◌, ◌≤◌, true, false, List, [], ◌∷◌, length}
use Rattle.and_events.specs.declared.event.Node.TheVariants as nodes
use Rattle.and_events.specs.declared.event.Node.{Node}
use Rattle.and_events.specs.declared.event.Endpoint.{Endpoint}
use Rattle.and_events.specs.declared.event.Endpoint.TheVariants as endpoints
use Rattle.and_events.specs.declared.event.Queue.TheVariants.{Out, Wire, Seal}
use Rattle.and_events.specs.declared.event.End.{End}
use Rattle.and_events.specs.declared.event.End.TheVariants.{Queued, Full, Hops}
use Rattle.and_events.specs.declared.event.Departure.{Departure}
use Rattle.and_events.specs.declared.event.Departure.TheVariants.{Allowed}
use Rattle.and_events.specs.declared.event.Passage.{Passage}
use Rattle.and_events.specs.declared.event.Passage.TheVariants as passages
use Rattle.and_events.specs.declared.event.Return.{Return}
use Rattle.and_events.specs.declared.event.Return.TheVariants as returns
use Rattle.and_events.specs.declared.event.Arrival.{Arrival}
use Rattle.and_events.specs.declared.event.Arrival.TheVariants as arrivals
use Rattle.and_events.specs.declared.event.Event.{Event}
use Rattle.and_events.specs.declared.event.Event.TheVariants.{Inject, Egress, Sealed, Route, Redirect, Ingress}
use Rattle.and_events.specs.declared.plan.Plan.{Plan}
use Rattle.and_events.specs.Places.{queue_place, capacity_at, node_of}
use Rattle.and_events.specs.Flow.{queue_at}
use Rattle.and_events.specs.State.{State, state, carried_at, home, node_at, dest_endpoint}
use Rattle.and_events.specs.Run.{sends}
use Rattle.and_events.specs.Just.{IsFull, IsSpent}

-- no queue holds more than its capacity
abbrev pub IsWithinCapacity : Plan → List Event → Type 0
IsWithinCapacity plan h = (q : ℕ) → length (queue_at (state plan h).flow.queues q) ≤ capacity_at plan.settings q

-- the sends of each packet and the hops that it has left add up to the hop limit
abbrev pub HasAllHops : Plan → List Event → Type 0
HasAllHops plan h = (i : ℕ) → i < length plan.packets → sends plan h i + (carried_at (state plan h) i).hops ≡ plan.settings.hop_limit

-- ---- losses

-- why a packet is lost, where it is: at a full queue, by the queue's place, or for want of hops
pub data Loss : Type 0 where
  NoLoss : Loss
  AtQueue : (queue : ℕ) → Loss
  AtHops : (packet : ℕ) → Loss

abbrev pub loss_by : ℕ → ℕ → End → Loss
loss_by q i Queued = NoLoss
loss_by q i Full = AtQueue q
loss_by q i Hops = AtHops i

-- the loss of a packet that is sent to an endpoint
abbrev pub send_loss : Plan → ℕ → Endpoint → End → Loss
send_loss plan i target end = loss_by (queue_place plan.settings (node_at target) Wire) i end

abbrev pub departure_loss : Plan → Node → ℕ → Departure → Loss
departure_loss plan here i (Allowed by true dest end) = loss_by (queue_place plan.settings here Seal) i end
departure_loss plan here i (Allowed by false dest end) = send_loss plan i (dest_endpoint dest) end
departure_loss plan here i _ = NoLoss

abbrev pub passage_loss : Plan → ℕ → Passage → Loss
passage_loss plan i (passages.Send by net host end) = send_loss plan i (endpoints.Host host) end
passage_loss plan i (passages.Hops by) = AtHops i
passage_loss plan i _ = NoLoss

abbrev pub return_loss : Plan → ℕ → Return → Loss
return_loss plan i (returns.Send host end) = send_loss plan i (endpoints.Host host) end
return_loss plan i returns.Hops = AtHops i
return_loss plan i returns.NoOwner = NoLoss

abbrev pub arrival_loss : Plan → ℕ → Arrival → Loss
arrival_loss plan i (arrivals.Hairpin vm host end) = send_loss plan i (endpoints.Host host) end
arrival_loss plan i (arrivals.Absent vm gateway end) = send_loss plan i (endpoints.Redirect gateway) end
arrival_loss plan i _ = NoLoss

-- the loss that an event is
unfoldable pub loss_of : Plan → State → Event → Loss
loss_of plan s (Inject step i true) = AtQueue (queue_place plan.settings (nodes.Host (home plan s i)) Out)
loss_of plan s (Egress a i at way d) = departure_loss plan (node_of a) i d
loss_of plan s (Sealed a i end) = send_loss plan i (carried_at s i).target end
loss_of plan s (Route a i at p) = passage_loss plan i p
loss_of plan s (Redirect a i at back) = return_loss plan i back
loss_of plan s (Ingress a i at way arrival) = arrival_loss plan i arrival
loss_of plan s _ = NoLoss

-- after the history the queue stands exactly at its capacity, or the packet was sent as often as the hop limit says
abbrev pub IsDue : Plan → List Event → Loss → Type 0
IsDue plan h NoLoss = Unit {0}
IsDue plan h (AtQueue q) = IsFull plan (state plan h) q
IsDue plan h (AtHops i) = IsSpent plan h i

-- each loss at a full queue or for want of hops was due in the history just before
unfoldable pub HasDueLosses : Plan → List Event → Type 0
HasDueLosses plan [] = Unit {0}
HasDueLosses plan (e ∷ h) = HasDueLosses plan h × IsDue plan h (loss_of plan (state plan h) e)
