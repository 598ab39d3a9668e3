-- Who may act, by what is kept.
use Rattle.std.specs.Prelude.{◌≡◌, ℕ, ◌+◌, ◌-◌, ◌<◌, ◌==◌, ◌&&◌, nat_lt, if◌then◌else◌, Bool, true, false, List, [], length, slice_index_or, Option, Some, None, unwrap_or}
use Rattle.and_policy.specs.Owners.{place}
use Rattle.and_events.specs.declared.event.Actor.{Actor}
use Rattle.and_events.specs.declared.event.Actor.TheVariants.{HostInstall, GateInstall, Controller, Driver}
use Rattle.and_events.specs.declared.plan.Packet.{Packet}
use Rattle.and_events.specs.declared.plan.Step.{Step}
use Rattle.and_events.specs.declared.plan.Step.TheVariants.{Append, Review, Hold, Free, Inject, Blackout, Resume, Wait, Finish}
use Rattle.and_events.specs.declared.plan.What.{What}
use Rattle.and_events.specs.declared.plan.What.TheVariants.{Install, Forward}
use Rattle.and_events.specs.declared.plan.Settings.{Settings}
use Rattle.and_events.specs.Places.{node_count, node_place, hand_count, IsActor, IsNode}
use Rattle.and_events.specs.Flow.{Flow}
use Rattle.and_events.specs.Programming.{Programmes, HasInstalled, programme_at, announced_at, installed_at}
use Rattle.and_events.specs.State.{NodeHolds, no_packet}
use Rattle.and_policy.specs.Programmes.{added_at}
use Rattle.and_kept.specs.Busy.{is_busy}
use Rattle.and_kept.specs.Moves.{IsBusy}
use Rattle.and_kept.specs.Lanes.{Roads}
use Rattle.and_kept.specs.Nodes.{Progressed, is_ready}
use Rattle.and_book.specs.declared.enabling.Parts.{Parts}
use Rattle.and_pins.specs.declared.pin.Pin.{Pin}
use Rattle.and_pins.specs.Pinned.{entry_at}

-- no installer may act, and no hand has work
pub record IsStill (v : Settings) (p : Programmes) (m : NodeHolds) (f : Flow) : Type 0 where
  pub ready : (n : ℕ) → n < length p.ops → is_ready p m.install n ≡ false
  pub busy : (k : ℕ) → k < hand_count v → is_busy v f.queues f.hands m.forward k ≡ false

-- the node at this place may be held: forwarding always, and installs where all is announced and installed
abbrev pub MayHold : Programmes → ℕ → What → Type 0
MayHold p n Forward = Unit {0}
MayHold p n Install = (announced_at p n ≡ length (programme_at p n)) × (installed_at p n ≡ length (programme_at p n))

-- the host, one of so many, has installed the entry that added the VM
abbrev pub IsKnownAt : Programmes → ℕ → ℕ → ℕ → Type 0
IsKnownAt p hosts host vm = (q : ℕ) × (added_at p.log vm ≡ Some q) × (host < hosts) × HasInstalled p host q

-- the host where the VM is
abbrev pub home_of : Programmes → ℕ → ℕ
home_of p vm = unwrap_or (place p.log vm) 0

-- there is a hairpin whose entry every node has installed
abbrev pub HasRipe : Programmes → List Pin → Type 0
HasRipe p pins =
    (host vm entry : ℕ) × (entry_at pins host vm ≡ Some entry) × ((n : ℕ) → n < length p.ops → HasInstalled p n entry)

abbrev pub vm_in : List Packet → ℕ → ℕ
vm_in packets i = (slice_index_or packets i no_packet).vm

-- the step's condition
abbrev pub CanDo : Settings → List Packet → Programmes → NodeHolds → List Pin → Flow → Option Step → Type 0
CanDo v packets p m pins f (Some (Append e)) = Unit {0}
CanDo v packets p m pins f (Some Review) = Unit {0}
CanDo v packets p m pins f (Some (Hold node what)) = MayHold p (node_place v node) what
CanDo v packets p m pins f (Some (Free node what)) = Unit {0}
CanDo v packets p m pins f (Some (Inject i)) = IsKnownAt p v.hosts (home_of p (vm_in packets i)) (vm_in packets i)
CanDo v packets p m pins f (Some (Blackout vm host)) = IsKnownAt p v.hosts host vm
CanDo v packets p m pins f (Some (Resume vm)) = Unit {0}
CanDo v packets p m pins f (Some Wait) = IsStill v p m f
CanDo v packets p m pins f (Some Finish) = IsStill v p m f × (pins ≡ [])
CanDo v packets p m pins f None = ⊥

-- what a step injects is one of the packets, and what it holds is at one of the nodes
abbrev pub IsThere : Settings → List Packet → Option Step → Type 0
IsThere v packets (Some (Inject i)) = i < length packets
IsThere v packets (Some (Hold node what)) = IsNode v node
IsThere v packets _ = Unit {0}

-- the actor may act
abbrev pub Acts : Settings → List Packet → Programmes → NodeHolds → List Pin → Flow → Option Step → Actor → Type 0
Acts v packets p m pins f due (HostInstall h) = is_ready p m.install h ≡ true
Acts v packets p m pins f due (GateInstall g) = is_ready p m.install (v.hosts + g) ≡ true
Acts v packets p m pins f due Controller = HasRipe p pins
Acts v packets p m pins f due Driver = CanDo v packets p m pins f due
Acts v packets p m pins f due a = IsBusy v f m.forward a

abbrev pub CanAct : Settings → List Packet → Programmes → NodeHolds → List Pin → Flow → Option Step → Actor → Type 0
CanAct v packets p m pins f due a = IsActor v a × Acts v packets p m pins f due a

-- ---- by what is kept

-- there is a node, each has its programme, and the hairpins go by the entries that every node has installed
pub record AreParts (x : Parts) : Type 0 where
  pub some : 0 < node_count x.traffic.now.settings
  pub nodes : length x.progress.now.programmes.ops ≡ node_count x.traffic.now.settings
  pub least : x.pins.now.least ≡ x.progress.now.least

abbrev pub holds_in : Parts → NodeHolds
holds_in x = record { install = x.progress.now.held; forward = x.traffic.now.held }

-- what is there, what may be done, and who may act, by the parts
abbrev pub IsThereBy : Parts → Option Step → Type 0
IsThereBy x due = IsThere x.traffic.now.settings x.packets.now due

abbrev pub CanDoBy : Parts → Option Step → Type 0
CanDoBy x due = CanDo x.traffic.now.settings x.packets.now x.progress.now.programmes (holds_in x) x.pins.now.pins x.traffic.now.flow due

abbrev pub ActsBy : Parts → Option Step → Actor → Type 0
ActsBy x due a = Acts x.traffic.now.settings x.packets.now x.progress.now.programmes (holds_in x) x.pins.now.pins x.traffic.now.flow due a

abbrev pub CanActBy : Parts → Option Step → Actor → Type 0
CanActBy x due a = CanAct x.traffic.now.settings x.packets.now x.progress.now.programmes (holds_in x) x.pins.now.pins x.traffic.now.flow due a

-- ---- by number

-- the actor of this number may act: installers by node, then those that take packets by hand, then controller and driver
unfoldable pub acts_at : Settings → Programmes → NodeHolds → Flow → Bool → Bool → ℕ → Bool
acts_at v p m f controller driver n =
    if nat_lt n (node_count v) then is_ready p m.install n
    else (if nat_lt n (node_count v + hand_count v) then is_busy v f.queues f.hands m.forward (n - node_count v)
    else (if n == node_count v + hand_count v then controller else (driver && (n == node_count v + hand_count v + 1))))

-- that, by what is kept
abbrev pub acts_by : Progressed → Roads → Bool → Bool → ℕ → Bool
acts_by p t controller driver = acts_at t.settings p.programmes (record { install = p.held; forward = t.held }) t.flow controller driver
