-- Which hands have work: by the place of the hand.
use Rattle.std.specs.Prelude.{◌≡◌, ℕ, ◌+◌, ◌-◌, ◌*◌, ◌/◌, ◌<◌, Bool, false, not, ◌&&◌, ◌||◌, nat_lt, if◌then◌else◌, is_some, List, length, Option, slice_index, slice_index_or}
use Rattle.and_parcel.specs.Parcels.{ParcelView}
use Rattle.and_events.specs.declared.event.Held.{Held}
use Rattle.and_events.specs.declared.plan.Settings.{Settings}
use Rattle.and_events.specs.Flow.{queue_at, hand_at}
use Rattle.and_events.specs.Places.{node_count, queue_count, hand_count, capacity_at, IsSmall}
use Rattle.and_kept.specs.Lanes.{Lanes}
use Rattle.and_kept.specs.Numbers.{Numbers, has}

-- the place of the queue from which a hand is filled first: `wire`, or `seal` for a coprocessor
abbrev pub first_queue : Settings → ℕ → ℕ
first_queue s k =
    if nat_lt k (s.hosts * s.workers) then 2 * s.hosts + k / s.workers
    else (if nat_lt k (s.hosts * s.workers + s.hosts) then s.hosts + (k - s.hosts * s.workers) else 2 * s.hosts + (k - s.hosts * s.workers))

-- and the other one: a host's worker takes from `out` too
abbrev pub other_queue : Settings → ℕ → ℕ
other_queue s k = if nat_lt k (s.hosts * s.workers) then k / s.workers else first_queue s k

abbrev pub has_some : List (List ℕ) → ℕ → Bool
has_some queues q = nat_lt 0 (length (queue_at queues q))

-- the place of the node at which the hand's actor works
abbrev pub hand_node : Settings → ℕ → ℕ
hand_node s k = if nat_lt k (s.hosts * s.workers) then k / s.workers else k - s.hosts * s.workers

-- there is something in the hand, or in a queue from which it is filled where forwarding is not held at its node
unfoldable pub is_busy : Settings → List (List ℕ) → List (Option Held) → List Bool → ℕ → Bool
is_busy s queues hands held k =
    is_some (hand_at hands k) || (not (slice_index_or held (hand_node s k) false) && (has_some queues (first_queue s k) || has_some queues (other_queue s k)))

-- the set tells which hands have work
abbrev pub Tells : Settings → List (List ℕ) → List (Option Held) → List Bool → Numbers → ℕ → Type 0
Tells s queues hands held busy k = has busy k ≡ is_busy s queues hands held k

abbrev pub TellsAll : Settings → List (List ℕ) → List (Option Held) → List Bool → Numbers → Type 0
TellsAll s queues hands held busy = (k : ℕ) → k < hand_count s → Tells s queues hands held busy k

-- queues and hands with their settings, and at which nodes forwarding is held
pub record HallView : Type 0 where
  pub settings : Settings
  pub queues : List (List ℕ)
  pub parcels : List (List ParcelView)
  pub hands : List (Option Held)
  pub held : List Bool

-- the settings are in their ranges, each queue, with its capacity, each hand and each node has its place, and the set tells
-- which hands have work
pub record IsHall (s : Settings) (lanes : Lanes) (inhand : List (Option Held)) (marks : List Bool) (busy : Numbers) : Type 0 where
  pub small : IsSmall s
  pub queues : length lanes.numbers ≡ queue_count s
  pub capacities : (q : ℕ) → q < queue_count s → slice_index lanes.capacities q ≡ capacity_at s q
  pub hands : length inhand ≡ hand_count s
  pub held : length marks ≡ node_count s
  pub size : busy.size ≡ hand_count s
  pub told : TellsAll s lanes.numbers inhand marks busy
