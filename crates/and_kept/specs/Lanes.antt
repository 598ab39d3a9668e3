-- Queues of parcels, and packets on their way, as contracts see them.
use Rattle.std.specs.Prelude.{◌≡◌, ℕ, ◌<◌, ◌≤◌, ◌^◌, Bool, false, nat_lt, List, [], ◌∷◌, ◌++◌, length, map, drop, slice_set, slice_index_or}
use Rattle.std.specs.List.{All, count_by}
use Rattle.and_parcel.specs.Parcels.{ParcelView, QueueView}
use Rattle.and_events.specs.declared.event.Carried.{Carried}
use Rattle.and_events.specs.declared.event.Endpoint.TheVariants.{Host}
use Rattle.and_events.specs.declared.plan.Settings.{Settings}
use Rattle.and_events.specs.Places.{capacity_at, IsSmall}
use Rattle.and_events.specs.Flow.{Flow}

-- ---- queues

-- the numbers of a queue's packets
abbrev pub numbers_in : QueueView → List ℕ
numbers_in q = map (λ p. p.packet) q.parcels

-- queues by place: the packets' numbers, the parcels, and how many parcels each may hold
pub record Lanes : Type 0 where
  pub numbers : List (List ℕ)
  pub parcels : List (List ParcelView)
  pub capacities : List ℕ

abbrev pub lanes_of : List QueueView → Lanes
lanes_of qs = record { numbers = map numbers_in qs; parcels = map (λ q. q.parcels) qs; capacities = map (λ q. q.capacity) qs }

abbrev pub no_queue : QueueView
no_queue = record { capacity = 0; parcels = [] }

abbrev pub queue_of : List QueueView → ℕ → QueueView
queue_of qs i = slice_index_or qs i no_queue

-- the queue with a parcel more at its end; without its first one
abbrev pub grown : QueueView → ParcelView → QueueView
grown q p = record q { parcels = q.parcels ++ p ∷ [] }

abbrev pub shrunk : QueueView → QueueView
shrunk q = record q { parcels = drop 1 q.parcels }

abbrev pub parcels_at : List (List ParcelView) → ℕ → List ParcelView
parcels_at parcels q = slice_index_or parcels q []

-- a parcel more at the end of a queue; the first one of a queue gone
abbrev pub with_parcel : List (List ParcelView) → ℕ → ParcelView → List (List ParcelView)
with_parcel parcels q p = slice_set parcels q (parcels_at parcels q ++ p ∷ [])

abbrev pub without_first : List (List ParcelView) → ℕ → List (List ParcelView)
without_first parcels q = slice_set parcels q (drop 1 (parcels_at parcels q))

abbrev pub has_parcels : QueueView → Bool
has_parcels q = nat_lt 0 (length q.parcels)

-- so many queues have parcels, and none has more than its capacity
pub record IsCounted (qs : List QueueView) (count : ℕ) : Type 0 where
  pub occupied : count ≡ count_by has_parcels qs
  pub within : All (λ q. length q.parcels ≤ q.capacity) qs

-- so many queues, each of them empty and with its capacity
pub record AreEmpty (s : Settings) (n : ℕ) (qs : List QueueView) : Type 0 where
  pub length : length qs ≡ n
  pub parcels : All (λ q. q.parcels ≡ []) qs
  pub capacities : (i : ℕ) → i < n → (queue_of qs i).capacity ≡ capacity_at s i

-- ---- packets on their way

-- the settings, where the packets are, the parcels in the queues, and at which nodes forwarding is held
pub record Roads : Type 0 where
  pub settings : Settings
  pub flow : Flow
  pub parcels : List (List ParcelView)
  pub held : List Bool

-- the hops are a TTL, and the network is a VNI
pub record CarriedFits (c : Carried) : Type 0 where
  pub hops : c.hops < 2 ^ 8
  pub net : c.net < 2 ^ 24

-- the settings are in their ranges, and so is what is known of each packet
pub record IsShaped (s : Settings) (known : List Carried) : Type 0 where
  pub small : IsSmall s
  pub gateways : 0 < s.gateways
  pub fits : All CarriedFits known

-- a packet before its first send
abbrev pub unsent : Settings → Carried
unsent s = record { hops = s.hop_limit; sealed = false; net = 0; target = Host 0 }
