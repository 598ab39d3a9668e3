-- A packet that is sent from a hand.
use Rattle.std.proofs.Common.{◌≡◌, ℕ, List, set, refl, arith, Option, None}
use Rattle.and_parcel.specs.Parcels.{ParcelView}
use Rattle.and_events.specs.declared.event.Carried.{Carried}
use Rattle.and_events.specs.declared.event.Held.{Held}
use Rattle.and_events.specs.declared.event.Endpoint.{Endpoint}
use Rattle.and_events.specs.Flow.{Send, flow_after, carried_in, pushed, sent}
use Rattle.and_events.specs.declared.event.Actor.{Actor}
use Rattle.and_events.specs.declared.event.Actor.TheVariants.{HostInstall, GateInstall, Worker, Coproc, Gateway, Controller, Driver}
use Rattle.and_events.specs.declared.event.Node.{Node}
use Rattle.and_events.specs.declared.event.Node.TheVariants.{Host, Gate}
use Rattle.and_events.specs.declared.plan.Settings.{Settings}
use Rattle.and_events.specs.Places.{node_of, IsActor, IsNode, IsSmall, Handles}
use Rattle.and_kept.specs.Lanes.{with_parcel}
use Rattle.and_kept.specs.Outers.{HasAddress, wrapped}
use Rattle.and_kept.specs.Settling.{queue_to}
use Rattle.and_kept.specs.declared.traffic.Holder.{Holder}
use Rattle.and_kept.specs.Lanes.{Roads}
use Rattle.and_kept.specs.Moves.{hand_of, moved}

pub actor_node : (v : Settings) (a : Actor) → IsActor v a → Handles a → IsNode v (node_of a)
actor_node v (Worker h w) is t = is.0
actor_node v (Coproc h) is t = is
actor_node v (Gateway g) is t = is
actor_node v (HostInstall h) is t = absurd t
actor_node v (GateInstall g) is t = absurd t
actor_node v Controller is t = absurd t
actor_node v Driver is t = absurd t

pub addressed : (v : Settings) (node : Node) → IsSmall v → IsNode v node → HasAddress node
addressed v (Host h) small is = omega (arith, small.hosts, is)
addressed v (Gate g) small is = omega (arith, small.gateways, is)

-- what is kept of a send is the send, by the parts
pub sent_on : (t : Roads) (from : Holder) (p w : ParcelView) (hand queue i : ℕ) (known : Carried) (net : ℕ) (target : Endpoint) (numbers : List (List ℕ)) (hands : List (Option Held)) (carried : List Carried) (parcels : List (List ParcelView))
    → i ≡ p.packet → hand ≡ hand_of t from → queue ≡ queue_to t.settings target → known ≡ carried_in t.flow.carried i → w ≡ wrapped (node_of from.actor) from.tuple known p net target
    → numbers ≡ pushed t.flow.queues queue w.packet → hands ≡ set t.flow.hands hand None → carried ≡ set t.flow.carried i (sent (carried_in t.flow.carried i) net target) → parcels ≡ with_parcel t.parcels queue w
    → record t { flow = record { queues = numbers; hands = hands; carried = carried }; parcels = parcels } ≡ moved t from p (Send (hand_of t from) (queue_to t.settings target) p.packet net target)
unfolding flow_after
sent_on t from p w hand queue i known net target numbers hands carried parcels packet hand_is queue_is left wrapped_is numbers_are hands_are carried_are parcels_are =
    rw (numbers_are, hands_are, carried_are, parcels_are, wrapped_is, left, hand_is, queue_is, packet) refl
