-- What the calls of the traffic ask for, and what they make of it.
use Rattle.std.specs.Prelude.{◌≡◌, ℕ, ◌<◌, ◌⊎◌, nat_le, nat_lt, if◌then◌else◌, Bool, false, List, [], length, Some, slice_index_or}
use Rattle.and_parcel.specs.Parcels.{ParcelView}
use Rattle.and_events.specs.declared.event.End.{End}
use Rattle.and_events.specs.declared.event.Actor.{Actor}
use Rattle.and_events.specs.declared.event.Actor.TheVariants.{Worker, Coproc}
use Rattle.and_events.specs.declared.event.Held.{Held}
use Rattle.and_events.specs.declared.event.Node.TheVariants.{Host}
use Rattle.and_events.specs.declared.event.Queue.{Queue}
use Rattle.and_events.specs.declared.event.Queue.TheVariants.{Out, Wire, Seal}
use Rattle.and_events.specs.declared.plan.Settings.{Settings}
use Rattle.and_events.specs.Flow.{Flow, Move, Grab, flow_after, carried_in, end_at, enter_by, queue_at, hand_at}
use Rattle.and_events.specs.Places.{hand_place, node_place, queue_place, capacity_at, node_of, IsActor, Handles}
use Rattle.and_kept.specs.Outers.{parcels_moved}
use Rattle.and_kept.specs.declared.traffic.Holder.{Holder}
use Rattle.and_kept.specs.Lanes.{Roads, with_parcel, without_first}

-- it is an actor that takes packets, and the parcel is of one that is known
pub record MayMove (t : Roads) (from : Holder) (p : ParcelView) : Type 0 where
  pub actor : IsActor t.settings from.actor
  pub handles : Handles from.actor
  pub packet : p.packet < length t.flow.carried

abbrev pub hand_of : Roads → Holder → ℕ
hand_of t from = hand_place t.settings from.actor

-- the place of the queue at the holder's node from which packets are sealed, and how a try at it ends
abbrev pub seal_of : Roads → Holder → ℕ
seal_of t from = queue_place t.settings (node_of from.actor) Seal

abbrev pub end_here : Roads → Holder → End
end_here t from = end_at (capacity_at t.settings (seal_of t from)) t.flow.queues (seal_of t from)

-- after the move of a parcel from its holder
abbrev pub moved : Roads → Holder → ParcelView → Move → Roads
moved t from p m =
    record t {
      flow = flow_after t.flow m;
      parcels = parcels_moved (node_of from.actor) from.tuple (carried_in t.flow.carried p.packet) t.parcels p m;
    }

-- the queue from which an actor takes next: a worker from `out` only where `wire` is empty
abbrev pub source_in : Settings → Flow → Actor → Queue
source_in s f (Worker h w) = if nat_lt 0 (length (queue_at f.queues (queue_place s (Host h) Wire))) then Wire else Out
source_in s f (Coproc h) = Seal
source_in s f _ = Wire

-- the actor has a packet in hand, or finds one in the queue from which it takes next, where forwarding is not held at its node
abbrev pub IsBusy : Settings → Flow → List Bool → Actor → Type 0
IsBusy s f held a =
    ((h : Held) × (hand_at f.hands (hand_place s a) ≡ Some h))
    ⊎ ((slice_index_or held (node_place s (node_of a)) false ≡ false) × (queue_at f.queues (queue_place s (node_of a) (source_in s f a)) ≡ [] → ⊥))

abbrev pub source_place : Roads → Actor → ℕ
source_place t a = queue_place t.settings (node_of a) (source_in t.settings t.flow a)

-- after the actor has taken this
abbrev pub taken : Roads → Actor → Held → Roads
taken t a held =
    let from = queue_place t.settings (node_of a) held.queue in
    record t { flow = flow_after t.flow (Grab (hand_place t.settings a) from held); parcels = without_first t.parcels from }

-- a parcel that comes finds the host's `out` queue full
abbrev pub finds_full_at : Roads → ℕ → Bool
finds_full_at t host =
    let q = queue_place t.settings (Host host) Out in
    nat_le (capacity_at t.settings q) (length (queue_at t.flow.queues q))

-- after it came there, or was lost
abbrev pub entered : Roads → ℕ → ParcelView → Bool → Roads
entered t host p full =
    let q = queue_place t.settings (Host host) Out in
    record t { flow = flow_after t.flow (enter_by q p.packet full); parcels = if full then t.parcels else with_parcel t.parcels q p }
