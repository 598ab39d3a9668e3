-- A book as contracts see it, and what its calls ask for.
use Rattle.std.specs.Prelude.{◌≡◌, ℕ, ◌-◌, ◌<◌, nat_le, Bool, false, List, [], ◌∷◌, ◌++◌, length, Option, Some, None}
use Rattle.std.specs.List.{All, Contains}
use Rattle.and_parcel.specs.Parcels.{ParcelView}
use Rattle.and_events.specs.declared.event.Node.TheVariants.{Host}
use Rattle.and_events.specs.declared.event.Actor.{Actor}
use Rattle.and_events.specs.declared.event.Queue.TheVariants.{Out}
use Rattle.and_events.specs.declared.event.Event.{Event}
use Rattle.and_events.specs.declared.event.Line.{Line}
use Rattle.and_events.specs.declared.plan.Step.{Step}
use Rattle.and_events.specs.declared.plan.Step.TheVariants as steps
use Rattle.and_events.specs.declared.plan.Settings.{Settings}
use Rattle.and_events.specs.declared.plan.Plan.{Plan}
use Rattle.and_events.specs.Places.{queue_place, hand_place, node_of, actor_number, capacity_at, seat_of, IsActor, Handles}
use Rattle.and_events.specs.Flow.{queue_at, hand_at}
use Rattle.and_events.specs.State.{State, state, packet_at, frame_at, home}
use Rattle.and_events.specs.Legal.{Enabled, forward_held}
use Rattle.and_events.specs.Run.{past}
use Rattle.and_laws.specs.Fates.{in_hand_count}
use Rattle.and_kept.specs.Moves.{source_in}

-- the plan, the number of threads, the lines from the oldest on, how many more take no memory, and whether the orders of a review
-- of the usage so far are found and have room
pub record BookView : Type 0 where
  pub plan : Plan
  pub threads : ℕ
  pub lines : List Line
  pub spare : ℕ
  pub prepared : Bool

-- the state after the lines
abbrev pub now : BookView → State
now b = state b.plan (past b.lines)

-- how many packets are in hand
abbrev pub held : BookView → ℕ
held b = in_hand_count (now b).flow

-- the seat is the actor's
abbrev pub IsSeat : BookView → ℕ → Actor → Type 0
IsSeat b seat a = seat ≡ seat_of b.threads b.plan.settings a

-- the book with one line more, which is no longer prepared for a review
abbrev pub with_line : BookView → ℕ → Event → BookView
with_line b seat e = record b { lines = b.lines ++ record { seat = seat; event = e } ∷ []; spare = b.spare - 1; prepared = false }

-- the actor may take a packet: its hand is empty, forwarding at its node is not held, and its queue has one
pub record MayTake (plan : Plan) (s : State) (a : Actor) : Type 0 where
  pub actor : IsActor plan.settings a
  pub handles : Handles a
  pub free : hand_at s.flow.hands (hand_place plan.settings a) ≡ None
  pub running : forward_held plan s (node_of a) ≡ false
  pub some : 0 < length (queue_at s.flow.queues (queue_place plan.settings (node_of a) (source_in plan.settings s.flow a)))

-- no actor is enabled
abbrev pub NoneEnabled : Plan → State → Type 0
NoneEnabled plan s = (a : Actor) → IsActor plan.settings a → Enabled plan s a → ⊥

-- each has a smaller number than those that come after it
unfoldable pub Ascend : Settings → List Actor → Type 0
Ascend s [] = Unit {0}
Ascend s (a ∷ later) = All (λ b. actor_number s a < actor_number s b) later × Ascend s later

-- these are the enabled actors, in the order of their numbers
pub record AreEnabled (plan : Plan) (s : State) (actors : List Actor) : Type 0 where
  pub each : All (λ a. IsActor plan.settings a × Enabled plan s a) actors
  pub every : (a : Actor) → IsActor plan.settings a → Enabled plan s a → Contains actors a
  pub ascend : Ascend plan.settings actors

-- the parcel has its packet's frame and source VM
pub record IsPacket (plan : Plan) (p : ParcelView) : Type 0 where
  pub frame : p.frame ≡ frame_at plan p.packet
  pub vm : p.vm ≡ (packet_at plan p.packet).vm

-- the step appends an entry
abbrev pub IsAppend : Option Step → Type 0
IsAppend (Some (steps.Append e)) = Unit {0}
IsAppend _ = ⊥

-- the step holds something at a node; the step frees it
abbrev pub IsHold : Option Step → Type 0
IsHold (Some (steps.Hold node what)) = Unit {0}
IsHold _ = ⊥

abbrev pub IsFree : Option Step → Type 0
IsFree (Some (steps.Free node what)) = Unit {0}
IsFree _ = ⊥

-- the step stops a VM at its host; the step lets it go on at another
abbrev pub IsBlackout : Option Step → Type 0
IsBlackout (Some (steps.Blackout vm host)) = Unit {0}
IsBlackout _ = ⊥

abbrev pub IsResume : Option Step → Type 0
IsResume (Some (steps.Resume vm)) = Unit {0}
IsResume _ = ⊥

-- the packet finds the `out` queue of its VM's host full
abbrev pub finds_full : Plan → State → ℕ → Bool
finds_full plan s i =
    let q = queue_place plan.settings (Host (home plan s i)) Out in
    nat_le (capacity_at plan.settings q) (length (queue_at s.flow.queues q))
