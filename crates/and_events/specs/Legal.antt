-- When an event is legal, and when an actor is enabled. A step's event is legal only for the plan's next step.
use Rattle.std.specs.Prelude.{◌≡◌, ◌≢◌, ℕ, ◌+◌, ◌<◌, ◌≤◌, ◌⊎◌, Bool, true, false, List, [], ◌∷◌, length, slice_get, slice_index_or, Some, None}
use Rattle.std.specs.List.{All}
use Rattle.and_policy.specs.declared.entry.Entry.{Entry}
use Rattle.and_policy.specs.declared.decision.Name.{Name}
use Rattle.and_policy.specs.declared.decision.Leaving.{Leaving}
use Rattle.and_policy.specs.declared.decision.Leaving.TheVariants as leavings
use Rattle.and_policy.specs.declared.decision.Routed.{Routed}
use Rattle.and_policy.specs.declared.decision.Routed.TheVariants as routeds
use Rattle.and_policy.specs.declared.decision.Located.{Located}
use Rattle.and_policy.specs.declared.decision.Located.TheVariants as locateds
use Rattle.and_policy.specs.declared.decision.Landing.{Landing}
use Rattle.and_policy.specs.declared.decision.Landing.TheVariants as landings
use Rattle.and_policy.specs.declared.port.Port.{Port}
use Rattle.and_policy.specs.declared.port.Port.TheVariants as port_states
use Rattle.and_policy.specs.Owners.{place, routed, located}
use Rattle.and_policy.specs.Ingress.{landing}
use Rattle.and_policy.specs.FlowHash.{gateway_of}
use Rattle.and_policy.specs.Programmes.{prefix, leaving, added_at}
use Rattle.and_events.specs.declared.event.Node.{Node}
use Rattle.and_events.specs.declared.event.Node.TheVariants.{Host, Gate}
use Rattle.and_events.specs.declared.event.Endpoint.{Endpoint}
use Rattle.and_events.specs.declared.event.Endpoint.TheVariants as endpoints
use Rattle.and_events.specs.declared.event.Actor.{Actor}
use Rattle.and_events.specs.declared.event.Actor.TheVariants.{HostInstall, GateInstall, Worker, Coproc, Gateway, Controller, Driver}
use Rattle.and_events.specs.declared.event.Queue.{Queue}
use Rattle.and_events.specs.declared.event.Queue.TheVariants.{Out, Wire, Seal}
use Rattle.and_events.specs.declared.event.End.{End}
use Rattle.and_events.specs.declared.event.End.TheVariants.{Queued, Full, Hops}
use Rattle.and_events.specs.declared.event.Held.{Held}
use Rattle.and_events.specs.declared.event.Departure.{Departure}
use Rattle.and_events.specs.declared.event.Departure.TheVariants.{NoVm, Spoofed, Denied, Allowed}
use Rattle.and_events.specs.declared.event.Passage.{Passage}
use Rattle.and_events.specs.declared.event.Passage.TheVariants as passages
use Rattle.and_events.specs.declared.event.Return.{Return}
use Rattle.and_events.specs.declared.event.Return.TheVariants as returns
use Rattle.and_events.specs.declared.event.Arrival.{Arrival}
use Rattle.and_events.specs.declared.event.Arrival.TheVariants as arrivals
use Rattle.and_events.specs.declared.event.Event.{Event}
use Rattle.and_events.specs.declared.event.Event.TheVariants.{Append, Review, Hold, Free, Wait, Inject, Blackout, Resume, Finish, Announce, Installed, Take, Egress, Sealed, Route, Redirect, Ingress, Unpin}
use Rattle.and_events.specs.declared.plan.What.{What}
use Rattle.and_events.specs.declared.plan.What.TheVariants.{Install, Forward}
use Rattle.and_events.specs.declared.plan.Step.{Step}
use Rattle.and_events.specs.declared.plan.Step.TheVariants as steps
use Rattle.and_events.specs.declared.plan.Settings.{Settings}
use Rattle.and_events.specs.declared.plan.Plan.{Plan}
use Rattle.and_events.specs.Places.{node_place, queue_place, capacity_at, hand_place, node_of, IsNode, IsActor, HasQueue, IsWorker, IsGatewayWorker, IsCoprocessor}
use Rattle.and_events.specs.Flow.{HasFront, HasRoom, queue_at, hand_at}
use Rattle.and_events.specs.Programming.{HasInstalled}
use Rattle.and_events.specs.Ports.{port_at, IsHairpin}
use Rattle.and_events.specs.State.{State, packet_at, tuple_at, programme_of, announced_of, installed_of, carried_at, home, node_at, dest_endpoint, host_of}

-- ---- queues and sends

-- a try at the queue of this place ends so: it has room, or it is full
abbrev pub EndsAt : Plan → State → ℕ → End → Type 0
EndsAt plan s q Queued = HasRoom (capacity_at plan.settings) s.flow q
EndsAt plan s q Full = (q < length s.flow.queues) × (length (queue_at s.flow.queues q) ≡ capacity_at plan.settings q)
EndsAt plan s q Hops = ⊥

-- a send of the packet to this endpoint ends so. The hops are looked at first. In a run of a sound plan the policy's target is always a node
abbrev pub Sends : Plan → State → ℕ → Endpoint → End → Type 0
Sends plan s i target Hops = (carried_at s i).hops ≡ 0
Sends plan s i target end =
    (0 < (carried_at s i).hops) × EndsAt plan s (queue_place plan.settings (node_at target) Wire) end × IsNode plan.settings (node_at target)

-- ---- holds and installs

abbrev pub install_held : Plan → State → Node → Bool
install_held plan s node = slice_index_or s.node_holds.install (node_place plan.settings node) false

abbrev pub forward_held : Plan → State → Node → Bool
forward_held plan s node = slice_index_or s.node_holds.forward (node_place plan.settings node) false

-- the host has installed the VM's AddVm entry
abbrev pub KnowsVm : Plan → State → ℕ → ℕ → Type 0
KnowsVm plan s host vm =
    (q : ℕ) × (added_at s.programmes.log vm ≡ Some q) × (host < plan.settings.hosts) × HasInstalled s.programmes (node_place plan.settings (Host host)) q

-- the node's installer may announce
abbrev pub CanAnnounce : Plan → State → Node → Type 0
CanAnnounce plan s node =
    IsNode plan.settings node × (install_held plan s node ≡ false) × (announced_of plan s node ≡ installed_of plan s node)
    × (announced_of plan s node < length (programme_of plan s node))

-- it has announced something that is not installed
abbrev pub CanInstall : Plan → State → Node → Type 0
CanInstall plan s node = IsNode plan.settings node × (installed_of plan s node < announced_of plan s node)

-- all of the node's programme is announced and installed
abbrev pub IsUpToDate : Plan → State → Node → Type 0
IsUpToDate plan s node =
    (announced_of plan s node ≡ length (programme_of plan s node)) × (installed_of plan s node ≡ length (programme_of plan s node))

-- ---- the conditions of the steps

-- the condition of `wait`
pub record IsAtRest (plan : Plan) (s : State) : Type 0 where
  pub installed : (node : Node) → IsNode plan.settings node → install_held plan s node ≡ false → installed_of plan s node ≡ length (programme_of plan s node)
  pub hands : All (λ h. h ≡ None) s.flow.hands
  pub queues : (node : Node) (q : Queue) → IsNode plan.settings node → HasQueue node q → forward_held plan s node ≡ false
      → queue_at s.flow.queues (queue_place plan.settings node q) ≡ []

-- the condition of Finish
pub record IsOver (plan : Plan) (s : State) : Type 0 where
  pub queues : All (λ q. q ≡ []) s.flow.queues
  pub hands : All (λ h. h ≡ None) s.flow.hands
  pub installed : (node : Node) → IsNode plan.settings node → installed_of plan s node ≡ length (programme_of plan s node)
  pub hairpins : (host vm : ℕ) → IsHairpin (port_at s.ports host vm) → ⊥

-- installs may be held where all is announced and installed
abbrev pub CanHold : Plan → State → Node → What → Type 0
CanHold plan s node Forward = Unit {0}
CanHold plan s node Install = IsUpToDate plan s node

-- the condition of a step
abbrev pub CanStep : Plan → State → Step → Type 0
CanStep plan s (steps.Append e) = Unit {0}
CanStep plan s steps.Review = Unit {0}
CanStep plan s (steps.Hold node what) = CanHold plan s node what
CanStep plan s (steps.Free node what) = Unit {0}
CanStep plan s steps.Wait = IsAtRest plan s
CanStep plan s (steps.Inject i) = KnowsVm plan s (home plan s i) (packet_at plan i).vm
CanStep plan s (steps.Blackout vm host) = KnowsVm plan s host vm
CanStep plan s (steps.Resume vm) = Unit {0}
CanStep plan s steps.Finish = IsOver plan s

-- the step is the plan's next, and its condition holds
abbrev pub Steps : Plan → State → ℕ → Step → Type 0
Steps plan s n step = (n ≡ s.next) × (slice_get plan.steps n ≡ Some step) × CanStep plan s step

abbrev pub inject_end : Bool → End
inject_end true = Full
inject_end false = Queued

-- ---- hairpins

-- the VM's hairpin at the host is ripe: every node has installed the Place entry that made it
abbrev pub IsRipe : Plan → State → ℕ → ℕ → Type 0
IsRipe plan s host vm =
    (to entry : ℕ) × (host < plan.settings.hosts) × (port_at s.ports host vm ≡ port_states.Hairpin to entry)
    × ((node : Node) → IsNode plan.settings node → HasInstalled s.programmes (node_place plan.settings node) entry)

-- the smaller host comes first, and at one host the smaller VM
abbrev pub Before : ℕ → ℕ → ℕ → ℕ → Type 0
Before host vm host' vm' = (host < host') ⊎ ((host ≡ host') × (vm < vm'))

abbrev pub CanUnpin : Plan → State → ℕ → ℕ → Type 0
CanUnpin plan s host vm = IsRipe plan s host vm × ((h v : ℕ) → IsRipe plan s h v → Before h v host vm → ⊥)

-- ---- takes

-- the actor may take from this queue now: a host worker from `out` only where `wire` is empty
abbrev pub TakesFrom : Plan → State → Actor → Queue → Type 0
TakesFrom plan s (Worker h w) Wire = Unit {0}
TakesFrom plan s (Worker h w) Out = queue_at s.flow.queues (queue_place plan.settings (Host h) Wire) ≡ []
TakesFrom plan s (Coproc h) Seal = Unit {0}
TakesFrom plan s (Gateway g) Wire = Unit {0}
TakesFrom plan s _ _ = ⊥

pub record CanTake (plan : Plan) (s : State) (a : Actor) (q : Queue) (i : ℕ) : Type 0 where
  pub actor : IsActor plan.settings a
  pub free : hand_at s.flow.hands (hand_place plan.settings a) ≡ None
  pub running : forward_held plan s (node_of a) ≡ false
  pub queue : TakesFrom plan s a q
  pub front : HasFront s.flow (queue_place plan.settings (node_of a) q) i

-- ---- decisions

-- the actor has the packet in hand and took it from this queue; the number lies between what was installed then
-- and what is announced
pub record Decides (plan : Plan) (s : State) (a : Actor) (i : ℕ) (q : Queue) (at : ℕ) : Type 0 where
  pub actor : IsActor plan.settings a
  pub need : ℕ
  pub holds : hand_at s.flow.hands (hand_place plan.settings a) ≡ Some (record { packet = i; need = need; queue = q })
  pub least : need ≤ at
  pub most : at ≤ announced_of plan s (node_of a)

-- the log entries behind a decision
abbrev pub entries_at : Plan → State → Actor → ℕ → List Entry
entries_at plan s a at = prefix (programme_of plan s (node_of a)) at

-- the departure is what the policy said, and ends as the queues have it
abbrev pub Departs : Plan → State → Node → ℕ → Leaving → Departure → Type 0
Departs plan s here i said NoVm = said ≡ leavings.NoVm
Departs plan s here i said Spoofed = said ≡ leavings.Spoofed
Departs plan s here i said (Denied n) = said ≡ leavings.Denied n
Departs plan s here i said (Allowed by true dest end) = (said ≡ leavings.Allowed by true dest) × EndsAt plan s (queue_place plan.settings here Seal) end
Departs plan s here i said (Allowed by false dest end) =
    (said ≡ leavings.Allowed by false dest) × (end ≢ Hops) × Sends plan s i (dest_endpoint dest) end

abbrev pub Passes : Plan → State → ℕ → Routed → Passage → Type 0
Passes plan s i said (passages.Dropped by) = said ≡ routeds.Dropped by
Passes plan s i said (passages.NoOwner by) = said ≡ routeds.NoOwner by
Passes plan s i said (passages.Send by net host end) = (said ≡ routeds.To by net host) × (end ≢ Hops) × Sends plan s i (endpoints.Host host) end
Passes plan s i said (passages.Hops by) = (net host : ℕ) × (said ≡ routeds.To by net host) × Sends plan s i (endpoints.Host host) Hops

abbrev pub GoesBack : Plan → State → ℕ → Located → Return → Type 0
GoesBack plan s i said returns.NoOwner = said ≡ locateds.NoOwner
GoesBack plan s i said (returns.Send host end) = (said ≡ locateds.To host) × (end ≢ Hops) × Sends plan s i (endpoints.Host host) end
GoesBack plan s i said returns.Hops = (host : ℕ) × (said ≡ locateds.To host) × Sends plan s i (endpoints.Host host) Hops

-- the policy's word names this owner
abbrev pub Owns : Landing → ℕ → Type 0
Owns said vm = (by : Name) × (pass : Bool) × (said ≡ landings.Owned vm by pass)

-- the port of the owner at this host decides; the verdict of the rules counts at `Running` alone
abbrev pub Arrives : Plan → State → ℕ → ℕ → Landing → Arrival → Type 0
Arrives plan s here i said arrivals.NoOwner = said ≡ landings.NoOwner
Arrives plan s here i said (arrivals.Running vm by pass) = (said ≡ landings.Owned vm by pass) × (port_at s.ports here vm ≡ port_states.Running)
Arrives plan s here i said (arrivals.Blackout vm) =
    Owns said vm × ((port_at s.ports here vm ≡ port_states.Paused) ⊎ (port_at s.ports here vm ≡ port_states.Arriving))
Arrives plan s here i said (arrivals.Hairpin vm host end) =
    Owns said vm × ((entry : ℕ) × (port_at s.ports here vm ≡ port_states.Hairpin host entry)) × Sends plan s i (endpoints.Host host) end
Arrives plan s here i said (arrivals.Absent vm gateway end) =
    Owns said vm × (port_at s.ports here vm ≡ port_states.Absent) × (gateway ≡ gateway_of plan.settings.gateways (tuple_at plan i))
    × Sends plan s i (endpoints.Redirect gateway) end

-- the packet came for the gateway's route address, or for its redirect address
abbrev pub IsRouteTarget : Endpoint → Type 0
IsRouteTarget (endpoints.Route g) = Unit {0}
IsRouteTarget _ = ⊥

abbrev pub IsRedirectTarget : Endpoint → Type 0
IsRedirectTarget (endpoints.Redirect g) = Unit {0}
IsRedirectTarget _ = ⊥

-- ---- the table

-- the event may happen in the state
unfoldable pub Legal : Plan → State → Event → Type 0
Legal plan s (Append n) = (e : Entry) × Steps plan s n (steps.Append e)
Legal plan s (Review n) = Steps plan s n steps.Review
Legal plan s (Hold n) = (node : Node) × (what : What) × Steps plan s n (steps.Hold node what)
Legal plan s (Free n) = (node : Node) × (what : What) × Steps plan s n (steps.Free node what)
Legal plan s (Wait n) = Steps plan s n steps.Wait
Legal plan s (Inject n i full) =
    Steps plan s n (steps.Inject i) × EndsAt plan s (queue_place plan.settings (Host (home plan s i)) Out) (inject_end full)
Legal plan s (Blackout n) = (vm host : ℕ) × Steps plan s n (steps.Blackout vm host)
Legal plan s (Resume n) = (vm : ℕ) × Steps plan s n (steps.Resume vm)
Legal plan s (Finish n) = Steps plan s n steps.Finish
Legal plan s (Announce node upto) = CanAnnounce plan s node × (upto ≡ length (programme_of plan s node))
Legal plan s (Installed node upto) = CanInstall plan s node × (upto ≡ announced_of plan s node)
Legal plan s (Take a q i) = CanTake plan s a q i
Legal plan s (Egress a i at way d) =
    Decides plan s a i Out at × IsWorker a
    × Departs plan s (node_of a) i (leaving plan.settings.gateways (programme_of plan s (node_of a)) at (packet_at plan i).vm (tuple_at plan i)) d
Legal plan s (Sealed a i end) =
    IsActor plan.settings a × IsCoprocessor a
    × ((need : ℕ) × (hand_at s.flow.hands (hand_place plan.settings a) ≡ Some (record { packet = i; need = need; queue = Seal })))
    × (end ≢ Hops) × Sends plan s i (carried_at s i).target end
Legal plan s (Route a i at p) =
    Decides plan s a i Wire at × IsGatewayWorker a × IsRouteTarget (carried_at s i).target
    × Passes plan s i (routed (entries_at plan s a at) (carried_at s i).net (tuple_at plan i).destination) p
Legal plan s (Redirect a i at back) =
    Decides plan s a i Wire at × IsGatewayWorker a × IsRedirectTarget (carried_at s i).target
    × GoesBack plan s i (located (entries_at plan s a at) (carried_at s i).net (tuple_at plan i).destination) back
Legal plan s (Ingress a i at way arrival) =
    Decides plan s a i Wire at × IsWorker a
    × Arrives plan s (host_of (node_of a)) i (landing (entries_at plan s a at) (carried_at s i).net (tuple_at plan i)) arrival
Legal plan s (Unpin host vm) = CanUnpin plan s host vm

-- ---- who may act

-- the actor has a packet in hand
abbrev pub HasHand : Plan → State → Actor → Type 0
HasHand plan s a = (h : Held) × (hand_at s.flow.hands (hand_place plan.settings a) ≡ Some h)

-- the actor is enabled: a condition of its events holds, or it has a packet in hand
abbrev pub Enabled : Plan → State → Actor → Type 0
Enabled plan s (HostInstall h) = CanAnnounce plan s (Host h) ⊎ CanInstall plan s (Host h)
Enabled plan s (GateInstall g) = CanAnnounce plan s (Gate g) ⊎ CanInstall plan s (Gate g)
Enabled plan s Controller = (host vm : ℕ) × IsRipe plan s host vm
Enabled plan s Driver = (step : Step) × (slice_get plan.steps s.next ≡ Some step) × CanStep plan s step
Enabled plan s a = (IsActor plan.settings a × HasHand plan s a) ⊎ ((q : Queue) × (i : ℕ) × CanTake plan s a q i)
