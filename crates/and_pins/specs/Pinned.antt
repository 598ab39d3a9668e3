-- Hairpins in the order of their hosts and VMs: how they answer for the ports, and which of them is the first to end.
use Rattle.std.specs.Prelude.{◌≡◌, ◌<◌, ◌≤◌, ℕ, Bool, true, false, nat_lt, ◌==◌, ◌&&◌, ◌||◌, ◌↔◌, if◌then◌else◌, List, [], ◌∷◌, length, slice_index_or, Option, Some, None}
use Rattle.and_policy.specs.declared.port.Port.{Port}
use Rattle.and_policy.specs.declared.port.Port.TheVariants.{Hairpin}
use Rattle.and_policy.specs.Sorting.{Ascends}
use Rattle.and_events.specs.declared.plan.Plan.{Plan}
use Rattle.and_events.specs.Places.{node_count}
use Rattle.and_events.specs.Legal.{Before}
use Rattle.and_events.specs.Ports.{port_at, ports_of}
use Rattle.and_events.specs.Programming.{Programmes, HasInstalled}
use Rattle.and_events.specs.State.{State}
use Rattle.and_pins.specs.declared.pin.Pin.{Pin}

-- the hairpins that stand, how many log entries every node has installed, and for how many hairpins there is room in all
pub record PinsView : Type 0 where
  pub pins : List Pin
  pub least : ℕ
  pub room : ℕ

-- ---- the order

-- the smaller host comes first, and at one host the smaller VM
abbrev pub place_before : ℕ → ℕ → ℕ → ℕ → Bool
place_before host vm host' vm' = nat_lt host host' || ((host == host') && nat_lt vm vm')

abbrev pub pin_before : Pin → Pin → Bool
pin_before a b = place_before a.host a.vm b.host b.vm

-- ---- what the hairpins say of the ports

-- the hairpin is that of the VM at the host
abbrev pub is_of : ℕ → ℕ → Pin → Bool
is_of host vm pin = (pin.host == host) && (pin.vm == vm)

-- the entry that made the hairpin of the VM at the host
abbrev pub entry_at : List Pin → ℕ → ℕ → Option ℕ
entry_at [] host vm = None
entry_at (pin ∷ pins) host vm = if is_of host vm pin then Some pin.entry else entry_at pins host vm

-- the entry that made the port, where it is a hairpin
abbrev pub hairpin_entry : Port → Option ℕ
hairpin_entry (Hairpin to entry) = Some entry
hairpin_entry _ = None

-- these are the hairpins of the ports, each once and in order
pub record ArePins (pins : List Pin) (ports : List (List Port)) : Type 0 where
  pub ascend : Ascends pin_before pins
  pub entries : (host vm : ℕ) → entry_at pins host vm ≡ hairpin_entry (port_at ports host vm)

-- the hairpins after a change at one place: there the entry is this, elsewhere as it was
pub record ChangesAt (old new : List Pin) (host vm : ℕ) (entry : Option ℕ) : Type 0 where
  pub ascend : Ascends pin_before new
  pub here : entry_at new host vm ≡ entry
  pub elsewhere : (h v : ℕ) → (h ≡ host → v ≡ vm → ⊥) → entry_at new h v ≡ entry_at old h v

-- ---- the first to end

-- every node has installed the entry, and no hairpin whose entry every node has installed stands before this one
pub record IsFirst (pins : List Pin) (least host vm : ℕ) : Type 0 where
  pub entry : ℕ
  pub stands : entry_at pins host vm ≡ Some entry
  pub ripe : entry ≤ least
  pub first : (h v e : ℕ) → entry_at pins h v ≡ Some e → e ≤ least → Before h v host vm → ⊥

-- of no hairpin every node has installed the entry
abbrev pub NoneIsRipe : List Pin → ℕ → Type 0
NoneIsRipe pins least = (host vm entry : ℕ) → entry_at pins host vm ≡ Some entry → entry ≤ least → ⊥

-- ---- how the code finds it

-- the place up to which all hairpins come before that of the VM at the host
pub record IsPlace (host vm : ℕ) (pins : List Pin) (at : ℕ) : Type 0 where
  pub within : at ≤ length pins
  pub before : (j : ℕ) (d : Pin) → j < at → place_before (slice_index_or pins j d).host (slice_index_or pins j d).vm host vm ≡ true
  pub not_before : (d : Pin) → at < length pins → place_before (slice_index_or pins at d).host (slice_index_or pins at d).vm host vm ≡ false

-- the place of the first hairpin whose entry is among the least, or the end
pub record IsFirstPlace (pins : List Pin) (least at : ℕ) : Type 0 where
  pub within : at ≤ length pins
  pub unripe : (j : ℕ) (d : Pin) → j < at → least < (slice_index_or pins j d).entry
  pub ripe : (d : Pin) → at < length pins → (slice_index_or pins at d).entry ≤ least

-- what is kept: the order, and the place of the first to end
pub record AreKept (pins : List Pin) (least at : ℕ) : Type 0 where
  pub ascend : Ascends pin_before pins
  pub first : IsFirstPlace pins least at

-- ---- a state's hairpins

-- so many entries has every node installed, and no more
abbrev pub IsLeast : Programmes → ℕ → Type 0
IsLeast p least = (q : ℕ) → (q ≤ least) ↔ ((n : ℕ) → n < length p.ops → HasInstalled p n q)

-- the hairpins are those of a state with a programme for each node and ports at each host, and so many entries has every node installed
pub record AreOf (pins : List Pin) (least : ℕ) (plan : Plan) (s : State) : Type 0 where
  pub standing : ArePins pins s.ports
  pub installed : IsLeast s.programmes least
  pub nodes : length s.programmes.ops ≡ node_count plan.settings
  pub hosts : (vm : ℕ) → vm < length s.ports → length (ports_of s.ports vm) ≡ plan.settings.hosts
