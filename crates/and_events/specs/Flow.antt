-- Where packets are: the queues, and what each actor has in hand. Seven moves change it.
use Rattle.std.specs.Prelude.{◌≡◌, ℕ, ◌+◌, ◌-◌, ◌<◌, Bool, true, false, ◌==◌, List, [], ◌∷◌, ◌++◌, length, slice_set, slice_index_or, drop, Option, Some, None, nat_le, nat_lt, if◌then◌else◌}
use Rattle.std.specs.List.{sum_by, count_by}
use Rattle.and_events.specs.declared.event.Held.{Held}
use Rattle.and_events.specs.declared.event.Endpoint.{Endpoint}
use Rattle.and_events.specs.declared.event.Endpoint.TheVariants.{Host}
use Rattle.and_events.specs.declared.event.End.{End}
use Rattle.and_events.specs.declared.event.End.TheVariants.{Queued, Full, Hops}
use Rattle.and_events.specs.declared.event.Carried.{Carried}

pub record Flow : Type 0 where
  pub queues : List (List ℕ)  -- packet numbers, by the queue's place
  pub hands : List (Option Held)  -- by the hand's place
  pub carried : List Carried  -- by packet

-- what an event does to the packets. Queues and hands go by their places
pub data Move : Type 0 where
  Stay : Move
  Enter : (queue packet : ℕ) → Move  -- a packet comes from outside
  Lose : (packet : ℕ) → Move  -- it comes and is lost at once
  Grab : (hand queue : ℕ) (held : Held) → Move  -- an actor takes the front
  Send : (hand queue packet net : ℕ) (target : Endpoint) → Move  -- it sends what it has in hand
  SealLater : (hand queue packet net : ℕ) (target : Endpoint) → Move  -- it gives it to be sealed, and sent then
  Stop : (hand packet : ℕ) → Move  -- the packet ends in its hand

abbrev pub queue_at : List (List ℕ) → ℕ → List ℕ
queue_at queues q = slice_index_or queues q []

abbrev pub hand_at : List (Option Held) → ℕ → Option Held
hand_at hands a = slice_index_or hands a None

abbrev pub pushed : List (List ℕ) → ℕ → ℕ → List (List ℕ)
pushed queues q i = slice_set queues q (queue_at queues q ++ i ∷ [])

abbrev pub popped : List (List ℕ) → ℕ → List (List ℕ)
popped queues q = slice_set queues q (drop 1 (queue_at queues q))

-- a packet that is not there has no hops
abbrev pub nothing_carried : Carried
nothing_carried = record { hops = 0; sealed = false; net = 0; target = Host 0 }

abbrev pub carried_in : List Carried → ℕ → Carried
carried_in carried i = slice_index_or carried i nothing_carried

-- the packet after a send, and while it waits to be sealed
abbrev pub sent : Carried → ℕ → Endpoint → Carried
sent c net target = record c { hops = c.hops - 1; net = net; target = target }

abbrev pub to_be_sealed : Carried → ℕ → Endpoint → Carried
to_be_sealed c net target = record c { sealed = true; net = net; target = target }

unfoldable pub flow_after : Flow → Move → Flow
flow_after f Stay = f
flow_after f (Enter q i) = record f { queues = pushed f.queues q i }
flow_after f (Lose i) = f
flow_after f (Grab a q h) = record f { queues = popped f.queues q; hands = slice_set f.hands a (Some h) }
flow_after f (Send a q i net target) =
    record { queues = pushed f.queues q i; hands = slice_set f.hands a None; carried = slice_set f.carried i (sent (carried_in f.carried i) net target) }
flow_after f (SealLater a q i net target) =
    record { queues = pushed f.queues q i; hands = slice_set f.hands a None; carried = slice_set f.carried i (to_be_sealed (carried_in f.carried i) net target) }
flow_after f (Stop a i) = record f { hands = slice_set f.hands a None }

-- the actor has the packet in hand
abbrev pub Holds : Flow → ℕ → ℕ → Type 0
Holds f a i = (h : Held) × (hand_at f.hands a ≡ Some h) × (h.packet ≡ i)

abbrev pub HasFront : Flow → ℕ → ℕ → Type 0
HasFront f q i = (rest : List ℕ) × (queue_at f.queues q ≡ i ∷ rest)

abbrev pub HasRoom : (ℕ → ℕ) → Flow → ℕ → Type 0
HasRoom capacity f q = (q < length f.queues) × (length (queue_at f.queues q) < capacity q)

-- the move is possible
unfoldable pub CanMove : (ℕ → ℕ) → Flow → Move → Type 0
CanMove capacity f Stay = Unit {0}
CanMove capacity f (Enter q i) = HasRoom capacity f q
CanMove capacity f (Lose i) = Unit {0}
CanMove capacity f (Grab a q h) = (a < length f.hands) × (hand_at f.hands a ≡ None) × HasFront f q h.packet
CanMove capacity f (Send a q i net target) = Holds f a i × HasRoom capacity f q × (0 < (carried_in f.carried i).hops)
CanMove capacity f (SealLater a q i net target) = Holds f a i × HasRoom capacity f q
CanMove capacity f (Stop a i) = Holds f a i

-- how often the packet is queued, and in hand
abbrev pub queued : ℕ → List (List ℕ) → ℕ
queued i queues = sum_by (λ xs. count_by (λ x. x == i) xs) queues

abbrev pub has_packet : ℕ → Option Held → Bool
has_packet i None = false
has_packet i (Some h) = h.packet == i

abbrev pub in_hand : ℕ → List (Option Held) → ℕ
in_hand i hands = count_by (has_packet i) hands

-- how many places the packet has
abbrev pub placed : ℕ → Flow → ℕ
placed i f = queued i f.queues + in_hand i f.hands

-- the move of a packet that comes from outside; of a send; of a packet to be sealed: by how the try ends
abbrev pub enter_by : ℕ → ℕ → Bool → Move
enter_by q i true = Lose i
enter_by q i false = Enter q i

abbrev pub send_by : ℕ → ℕ → ℕ → End → ℕ → Endpoint → Move
send_by a q i Queued net target = Send a q i net target
send_by a q i Full net target = Stop a i
send_by a q i Hops net target = Stop a i

abbrev pub seal_by : ℕ → ℕ → ℕ → End → ℕ → Endpoint → Move
seal_by a q i Queued net target = SealLater a q i net target
seal_by a q i Full net target = Stop a i
seal_by a q i Hops net target = Stop a i

-- how a try at a queue ends, by its capacity; and a send, whose hops are looked at first
abbrev pub end_at : ℕ → List (List ℕ) → ℕ → End
end_at capacity queues q = if nat_le capacity (length (queue_at queues q)) then Full else Queued

abbrev pub end_of_send : ℕ → Flow → ℕ → ℕ → End
end_of_send capacity f q i = if nat_lt 0 (carried_in f.carried i).hops then end_at capacity f.queues q else Hops
