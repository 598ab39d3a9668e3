-- Why each fate came: read off the history and the policy.
use Rattle.std.specs.Prelude.{◌≡◌, ℕ, ◌⊎◌, Bool, true, false, ◌==◌, if◌then◌else◌, IsTrue, List, [], ◌∷◌, length, unwrap_or, Option, Some, None}
use Rattle.and_policy.specs.declared.entry.Entry.{Entry}
use Rattle.and_policy.specs.declared.decision.Name.{Name}
use Rattle.and_policy.specs.declared.decision.Dest.{Dest}
use Rattle.and_policy.specs.declared.decision.Dest.TheVariants.{Offload, Hover}
use Rattle.and_policy.specs.declared.decision.Exit.{Exit}
use Rattle.and_policy.specs.declared.decision.Exit.TheVariants as exits
use Rattle.and_policy.specs.declared.decision.Routed.{Routed}
use Rattle.and_policy.specs.declared.decision.Routed.TheVariants as routeds
use Rattle.and_policy.specs.declared.decision.Located.TheVariants as locateds
use Rattle.and_policy.specs.declared.decision.Landing.{Landing}
use Rattle.and_policy.specs.declared.decision.Landing.TheVariants as landings
use Rattle.and_policy.specs.declared.port.Port.{Port}
use Rattle.and_policy.specs.declared.port.Port.TheVariants as port_states
use Rattle.and_policy.specs.Egress.{egress}
use Rattle.and_policy.specs.Owners.{routed, located}
use Rattle.and_policy.specs.Ingress.{landing}
use Rattle.and_policy.specs.FlowHash.{gateway_of}
use Rattle.and_events.specs.declared.event.Node.{Node}
use Rattle.and_events.specs.declared.event.Node.TheVariants.{Host}
use Rattle.and_events.specs.declared.event.Endpoint.{Endpoint}
use Rattle.and_events.specs.declared.event.Endpoint.TheVariants as endpoints
use Rattle.and_events.specs.declared.event.Actor.{Actor}
use Rattle.and_events.specs.declared.event.Queue.TheVariants.{Out, Wire, Seal}
use Rattle.and_events.specs.declared.event.End.{End}
use Rattle.and_events.specs.declared.event.End.TheVariants.{Queued, Full, Hops}
use Rattle.and_events.specs.declared.event.Departure.{Departure}
use Rattle.and_events.specs.declared.event.Departure.TheVariants.{NoVm, Spoofed, Denied, Allowed}
use Rattle.and_events.specs.declared.event.Passage.{Passage}
use Rattle.and_events.specs.declared.event.Passage.TheVariants as passages
use Rattle.and_events.specs.declared.event.Return.{Return}
use Rattle.and_events.specs.declared.event.Return.TheVariants as returns
use Rattle.and_events.specs.declared.event.Arrival.{Arrival}
use Rattle.and_events.specs.declared.event.Arrival.TheVariants as arrivals
use Rattle.and_events.specs.declared.event.Event.{Event}
use Rattle.and_events.specs.declared.event.Event.TheVariants.{Append, Review, Hold, Free, Wait, Inject, Blackout, Resume, Finish, Announce, Installed, Take, Egress, Sealed, Route, Redirect, Ingress, Unpin}
use Rattle.and_events.specs.declared.plan.Plan.{Plan}
use Rattle.and_events.specs.Places.{queue_place, capacity_at, node_of}
use Rattle.and_events.specs.Flow.{queue_at}
use Rattle.and_events.specs.Ports.{port_at}
use Rattle.and_events.specs.State.{State, state, packet_at, tuple_at, source_net, home, node_at, dest_endpoint, host_of, carried_at}
use Rattle.and_events.specs.Legal.{entries_at, Owns}
use Rattle.and_events.specs.Run.{fate_of, is_it, sends}

-- ---- the decisions about a packet so far, the newest first

-- an Egress: the log entries behind it, and what it says
pub record Left : Type 0 where
  pub behind : List Entry
  pub said : Departure

unfoldable pub egresses : Plan → List Event → ℕ → List Left
egresses plan [] i = []
egresses plan (Egress a j at way d ∷ h) i =
    if j == i then record { behind = entries_at plan (state plan h) a at; said = d } ∷ egresses plan h i else egresses plan h i
egresses plan (e ∷ h) i = egresses plan h i

-- a Route
pub record Led : Type 0 where
  pub behind : List Entry
  pub said : Passage

unfoldable pub passages_of : Plan → List Event → ℕ → List Led
passages_of plan [] i = []
passages_of plan (Route a j at p ∷ h) i =
    if j == i then record { behind = entries_at plan (state plan h) a at; said = p } ∷ passages_of plan h i else passages_of plan h i
passages_of plan (e ∷ h) i = passages_of plan h i

-- ---- the network in which a packet arrives

-- the packet's destination address
abbrev pub address : Plan → ℕ → ℕ
address plan i = (tuple_at plan i).destination

-- there is one Egress of the packet, and under the entries behind it the policy allows by the written name
pub record LeftBy (plan : Plan) (h : List Event) (i : ℕ) (dest : Dest) : Type 0 where
  pub behind : List Entry
  pub by : Name
  pub sealed : Bool
  pub end : End
  pub once : egresses plan h i ≡ record { behind = behind; said = Allowed by sealed dest end } ∷ []
  pub allows : egress behind (packet_at plan i).vm (tuple_at plan i) ≡ exits.Allowed by sealed

-- by an offload: the route of the source network gives this host and network under the Egress's own entries
pub record OffloadedTo (plan : Plan) (h : List Event) (i net : ℕ) : Type 0 where
  pub host : ℕ
  pub by : Name
  pub left : LeftBy plan h i (Offload host net)
  pub routes : routed left.behind (source_net plan i) (address plan i) ≡ routeds.To by net host

-- by a gateway: there is one Route of the packet, and the route of the source network gives this network by the written name
pub record RoutedTo (plan : Plan) (h : List Event) (i net : ℕ) : Type 0 where
  pub gateway : ℕ
  pub left : LeftBy plan h i (Hover gateway)
  pub behind : List Entry
  pub by : Name
  pub host : ℕ
  pub end : End
  pub once : passages_of plan h i ≡ record { behind = behind; said = passages.Send by net host end } ∷ []
  pub routes : routed behind (source_net plan i) (address plan i) ≡ routeds.To by net host

abbrev pub LedTo : Plan → List Event → ℕ → ℕ → Type 0
LedTo plan h i net = OffloadedTo plan h i net ⊎ RoutedTo plan h i net

-- in the network in which the packet arrives, under these entries, the policy says this of it
abbrev pub Lands : Plan → List Event → ℕ → List Entry → Landing → Type 0
Lands plan h i k said = (net : ℕ) × LedTo plan h i net × (landing k net (tuple_at plan i) ≡ said)

-- the same, of an owner whatever the rules say
abbrev pub LandsFor : Plan → List Event → ℕ → List Entry → ℕ → Type 0
LandsFor plan h i k vm = (net : ℕ) × LedTo plan h i net × Owns (landing k net (tuple_at plan i)) vm

-- ---- losses

-- the queue at this place has as many packets as the settings say
abbrev pub IsFull : Plan → State → ℕ → Type 0
IsFull plan s q = length (queue_at s.flow.queues q) ≡ capacity_at plan.settings q

-- the `wire` queue of an endpoint is full
abbrev pub IsFullAt : Plan → State → Endpoint → Type 0
IsFullAt plan s target = IsFull plan s (queue_place plan.settings (node_at target) Wire)

-- the packet was sent as often as the hop limit says
abbrev pub IsSpent : Plan → List Event → ℕ → Type 0
IsSpent plan h i = sends plan h i ≡ plan.settings.hop_limit

-- the packet, due to go to this endpoint, ended so
abbrev pub LostAt : Plan → List Event → ℕ → Endpoint → End → Type 0
LostAt plan h i target Queued = Unit {0}
LostAt plan h i target Full = IsFullAt plan (state plan h) target
LostAt plan h i target Hops = IsSpent plan h i

-- ---- reasons, fate by fate. Each is read in the history before the event that is the fate, decided by this actor at this number

-- dropped at egress: the policy says so of the packet's VM and tuple
abbrev pub DroppedAtEgress : Plan → List Event → Actor → ℕ → ℕ → Exit → Type 0
DroppedAtEgress plan h a i at said = egress (entries_at plan (state plan h) a at) (packet_at plan i).vm (tuple_at plan i) ≡ said

-- dropped at a gateway: the route of the source network drops it, or leads to a network where nobody owns the address
abbrev pub DroppedByRoute : Plan → List Event → Actor → ℕ → ℕ → Routed → Type 0
DroppedByRoute plan h a i at said = routed (entries_at plan (state plan h) a at) (source_net plan i) (address plan i) ≡ said

-- sent back to a gateway, and there nobody owns the address in the network in which the packet arrives
abbrev pub OwnerlessAtReturn : Plan → List Event → Actor → ℕ → ℕ → Type 0
OwnerlessAtReturn plan h a i at = (net : ℕ) × LedTo plan h i net × (located (entries_at plan (state plan h) a at) net (address plan i) ≡ locateds.NoOwner)

-- at a host nobody owns the address in the network in which the packet arrives
abbrev pub OwnerlessAtHost : Plan → List Event → Actor → ℕ → ℕ → Type 0
OwnerlessAtHost plan h a i at = Lands plan h i (entries_at plan (state plan h) a at) landings.NoOwner

-- the VM's port at the actor's host
abbrev pub port_here : Plan → List Event → Actor → ℕ → Port
port_here plan h a vm = port_at (state plan h).ports (host_of (node_of a)) vm

-- delivered, where `pass`, or dropped at ingress: the VM owns the address in the network in which the packet arrives, runs at this host, and the ingress
-- rules let the packet in, or do not, by this name
abbrev pub ArrivedAt : Plan → List Event → Actor → ℕ → ℕ → ℕ → Name → Bool → Type 0
ArrivedAt plan h a i at vm by pass = Lands plan h i (entries_at plan (state plan h) a at) (landings.Owned vm by pass) × (port_here plan h a vm ≡ port_states.Running)

-- the VM owns the address, whatever the rules say
abbrev pub CameFor : Plan → List Event → Actor → ℕ → ℕ → ℕ → Type 0
CameFor plan h a i at vm = LandsFor plan h i (entries_at plan (state plan h) a at) vm

-- lost in a blackout: the owner is on its way from this host, or to it
abbrev pub LostInBlackout : Plan → List Event → Actor → ℕ → ℕ → ℕ → Type 0
LostInBlackout plan h a i at vm = CameFor plan h a i at vm × ((port_here plan h a vm ≡ port_states.Paused) ⊎ (port_here plan h a vm ≡ port_states.Arriving))

-- lost at a full queue or at the hop limit, when it was to be sent on: to the host to which the owner has gone, or back to a gateway
abbrev pub LostToNewHost : Plan → List Event → Actor → ℕ → ℕ → ℕ → ℕ → End → Type 0
LostToNewHost plan h a i at vm host end =
    CameFor plan h a i at vm × ((entry : ℕ) × (port_here plan h a vm ≡ port_states.Hairpin host entry)) × LostAt plan h i (endpoints.Host host) end

abbrev pub LostOnReturn : Plan → List Event → Actor → ℕ → ℕ → ℕ → ℕ → End → Type 0
LostOnReturn plan h a i at vm gateway end =
    CameFor plan h a i at vm × (port_here plan h a vm ≡ port_states.Absent) × (gateway ≡ gateway_of plan.settings.gateways (tuple_at plan i))
    × LostAt plan h i (endpoints.Redirect gateway) end

-- lost at the hop limit in a gateway, which would have sent it to a host
abbrev pub SpentAtRoute : Plan → List Event → Actor → ℕ → ℕ → Name → Type 0
SpentAtRoute plan h a i at by =
    ((net host : ℕ) × (routed (entries_at plan (state plan h) a at) (source_net plan i) (address plan i) ≡ routeds.To by net host)) × IsSpent plan h i

abbrev pub SpentAtReturn : Plan → List Event → Actor → ℕ → ℕ → Type 0
SpentAtReturn plan h a i at =
    ((net host : ℕ) × LedTo plan h i net × (located (entries_at plan (state plan h) a at) net (address plan i) ≡ locateds.To host)) × IsSpent plan h i

-- ---- which event asks for which reason

unfoldable pub JustBy : Plan → List Event → Event → Type 0
JustBy plan h (Inject step i full) = IsFull plan (state plan h) (queue_place plan.settings (Host (home plan (state plan h) i)) Out)
JustBy plan h (Egress a i at way NoVm) = DroppedAtEgress plan h a i at exits.NoVm
JustBy plan h (Egress a i at way Spoofed) = DroppedAtEgress plan h a i at exits.Spoofed
JustBy plan h (Egress a i at way (Denied n)) = DroppedAtEgress plan h a i at (exits.Denied n)
JustBy plan h (Egress a i at way (Allowed by true dest Queued)) = Unit {0}
JustBy plan h (Egress a i at way (Allowed by true dest Full)) = IsFull plan (state plan h) (queue_place plan.settings (node_of a) Seal)
JustBy plan h (Egress a i at way (Allowed by true dest Hops)) = ⊥
JustBy plan h (Egress a i at way (Allowed by false dest end)) = LostAt plan h i (dest_endpoint dest) end
JustBy plan h (Sealed a i end) = LostAt plan h i (carried_at (state plan h) i).target end
JustBy plan h (Route a i at (passages.Dropped by)) = DroppedByRoute plan h a i at (routeds.Dropped by)
JustBy plan h (Route a i at (passages.NoOwner by)) = DroppedByRoute plan h a i at (routeds.NoOwner by)
JustBy plan h (Route a i at (passages.Send by net host end)) = LostAt plan h i (endpoints.Host host) end
JustBy plan h (Route a i at (passages.Hops by)) = SpentAtRoute plan h a i at by
JustBy plan h (Redirect a i at returns.NoOwner) = OwnerlessAtReturn plan h a i at
JustBy plan h (Redirect a i at (returns.Send host end)) = LostAt plan h i (endpoints.Host host) end
JustBy plan h (Redirect a i at returns.Hops) = SpentAtReturn plan h a i at
JustBy plan h (Ingress a i at way arrivals.NoOwner) = OwnerlessAtHost plan h a i at
JustBy plan h (Ingress a i at way (arrivals.Running vm by pass)) = ArrivedAt plan h a i at vm by pass
JustBy plan h (Ingress a i at way (arrivals.Blackout vm)) = LostInBlackout plan h a i at vm
JustBy plan h (Ingress a i at way (arrivals.Hairpin vm host end)) = LostToNewHost plan h a i at vm host end
JustBy plan h (Ingress a i at way (arrivals.Absent vm gateway end)) = LostOnReturn plan h a i at vm gateway end
JustBy plan h _ = Unit {0}

-- every fate of the packet has its reason
unfoldable pub Just : Plan → List Event → ℕ → Type 0
Just plan [] i = Unit {0}
Just plan (e ∷ h) i = Just plan h i × (IsTrue (is_it i (fate_of e)) → JustBy plan h e)
