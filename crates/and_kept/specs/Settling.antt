-- What becomes of a packet in hand, by what is decided of it.
use Rattle.std.specs.Prelude.{ℕ, ◌<◌, ◌^◌, Bool, true, false, List}
use Rattle.and_policy.specs.declared.decision.Dest.{Dest}
use Rattle.and_policy.specs.declared.decision.Leaving.{Leaving}
use Rattle.and_policy.specs.declared.decision.Leaving.TheVariants as leavings
use Rattle.and_policy.specs.declared.decision.Name.{Name}
use Rattle.and_policy.specs.declared.decision.Routed.{Routed}
use Rattle.and_policy.specs.declared.decision.Routed.TheVariants as routeds
use Rattle.and_policy.specs.declared.decision.Located.{Located}
use Rattle.and_policy.specs.declared.decision.Located.TheVariants as locateds
use Rattle.and_policy.specs.declared.decision.GateDecision.{GateDecision}
use Rattle.and_policy.specs.declared.decision.GateDecision.TheVariants as decisions
use Rattle.and_policy.specs.declared.decision.Landing.{Landing}
use Rattle.and_policy.specs.declared.decision.Landing.TheVariants as landings
use Rattle.and_policy.specs.declared.packet.Tuple.{Tuple}
use Rattle.and_policy.specs.declared.port.Port.{Port}
use Rattle.and_policy.specs.declared.port.Port.TheVariants as port_states
use Rattle.and_policy.specs.FlowHash.{gateway_of}
use Rattle.and_events.specs.declared.event.Actor.{Actor}
use Rattle.and_events.specs.declared.event.Arrival.{Arrival}
use Rattle.and_events.specs.declared.event.Arrival.TheVariants as arrivals
use Rattle.and_events.specs.declared.event.Departure.{Departure}
use Rattle.and_events.specs.declared.event.Departure.TheVariants as departures
use Rattle.and_events.specs.declared.event.End.{End}
use Rattle.and_events.specs.declared.event.End.TheVariants as ends
use Rattle.and_events.specs.declared.event.Endpoint.{Endpoint}
use Rattle.and_events.specs.declared.event.Endpoint.TheVariants as endpoints
use Rattle.and_events.specs.declared.event.Event.{Event}
use Rattle.and_events.specs.declared.event.Event.TheVariants.{Route, Redirect}
use Rattle.and_events.specs.declared.event.Node.{Node}
use Rattle.and_events.specs.declared.event.Passage.{Passage}
use Rattle.and_events.specs.declared.event.Passage.TheVariants as passages
use Rattle.and_events.specs.declared.event.Queue.TheVariants.{Wire, Seal}
use Rattle.and_events.specs.declared.event.Return.{Return}
use Rattle.and_events.specs.declared.event.Return.TheVariants as returns
use Rattle.and_events.specs.declared.plan.Settings.{Settings}
use Rattle.and_events.specs.Places.{queue_place, capacity_at, IsNode}
use Rattle.and_events.specs.Flow.{Flow, Move, carried_in, end_at, end_of_send}
use Rattle.and_events.specs.State.{node_at, dest_endpoint, dest_net, passes, goes_back}
use Rattle.and_events.specs.Ports.{port_at}

-- ---- sends

-- the place of the queue at which a send ends, and how it ends there
abbrev pub queue_to : Settings → Endpoint → ℕ
queue_to s target = queue_place s (node_at target) Wire

abbrev pub end_to : Settings → Flow → ℕ → Endpoint → End
end_to s f i target = end_of_send (capacity_at s (queue_to s target)) f (queue_to s target) i

-- ---- at a gateway

abbrev pub passage_by : Name → ℕ → ℕ → End → Passage
passage_by by net host ends.Queued = passages.Send by net host ends.Queued
passage_by by net host ends.Full = passages.Send by net host ends.Full
passage_by by net host ends.Hops = passages.Hops by

abbrev pub passage_of : Settings → Flow → ℕ → Routed → Passage
passage_of s f i (routeds.Dropped by) = passages.Dropped by
passage_of s f i (routeds.NoOwner by) = passages.NoOwner by
passage_of s f i (routeds.To by net host) = passage_by by net host (end_to s f i (endpoints.Host host))

abbrev pub return_by : ℕ → End → Return
return_by host ends.Queued = returns.Send host ends.Queued
return_by host ends.Full = returns.Send host ends.Full
return_by host ends.Hops = returns.Hops

abbrev pub return_of : Settings → Flow → ℕ → Located → Return
return_of s f i locateds.NoOwner = returns.NoOwner
return_of s f i (locateds.To host) = return_by host (end_to s f i (endpoints.Host host))

-- where it leads is there, and the network is a VNI of 24 bits
abbrev pub LeadsRouted : Settings → Routed → Type 0
LeadsRouted s (routeds.To by net host) = (host < s.hosts) × (net < 2 ^ 24)
LeadsRouted s _ = Unit {0}

abbrev pub LeadsLocated : Settings → Located → Type 0
LeadsLocated s (locateds.To host) = host < s.hosts
LeadsLocated s _ = Unit {0}

abbrev pub LeadsGate : Settings → GateDecision → Type 0
LeadsGate s (decisions.Routed at said) = LeadsRouted s said
LeadsGate s (decisions.Located at said) = LeadsLocated s said

-- what a gateway's decision does
abbrev pub gate_event : Settings → Flow → Actor → ℕ → GateDecision → Event
gate_event s f a i (decisions.Routed at said) = Route a i at (passage_of s f i said)
gate_event s f a i (decisions.Located at said) = Redirect a i at (return_of s f i said)

abbrev pub gate_move : Settings → Flow → ℕ → ℕ → GateDecision → Move
gate_move s f hand i (decisions.Routed at said) = passes s hand i (passage_of s f i said)
gate_move s f hand i (decisions.Located at said) = goes_back s (carried_in f.carried i) hand i (return_of s f i said)

-- ---- at a host, where a packet comes for a VM

abbrev pub arrival_at : Settings → Flow → Tuple → ℕ → ℕ → Name → Bool → Port → Arrival
arrival_at s f x i vm by pass port_states.Running = arrivals.Running vm by pass
arrival_at s f x i vm by pass port_states.Paused = arrivals.Blackout vm
arrival_at s f x i vm by pass port_states.Arriving = arrivals.Blackout vm
arrival_at s f x i vm by pass (port_states.Hairpin host entry) = arrivals.Hairpin vm host (end_to s f i (endpoints.Host host))
arrival_at s f x i vm by pass port_states.Absent =
    arrivals.Absent vm (gateway_of s.gateways x) (end_to s f i (endpoints.Redirect (gateway_of s.gateways x)))

-- by the owner's port at this host
abbrev pub arrival_of : Settings → Flow → List (List Port) → ℕ → Tuple → ℕ → Landing → Arrival
arrival_of s f ports here x i landings.NoOwner = arrivals.NoOwner
arrival_of s f ports here x i (landings.Owned vm by pass) = arrival_at s f x i vm by pass (port_at ports here vm)

-- where a hairpin leads is there
abbrev pub LeadsPort : Settings → Port → Type 0
LeadsPort s (port_states.Hairpin host entry) = host < s.hosts
LeadsPort s _ = Unit {0}

abbrev pub LeadsLanding : Settings → List (List Port) → ℕ → Landing → Type 0
LeadsLanding s ports here (landings.Owned vm by pass) = LeadsPort s (port_at ports here vm)
LeadsLanding s ports here landings.NoOwner = Unit {0}

-- ---- at a host, where a packet leaves a VM

-- how a packet that is allowed to leave ends: at its host's `seal` queue where it is to be sealed, by a send where it is not
abbrev pub departs_end : Settings → Flow → Node → ℕ → Bool → Dest → End
departs_end s f here i true dest = end_at (capacity_at s (queue_place s here Seal)) f.queues (queue_place s here Seal)
departs_end s f here i false dest = end_to s f i (dest_endpoint dest)

abbrev pub departure_of : Settings → Flow → Node → ℕ → Leaving → Departure
departure_of s f here i leavings.NoVm = departures.NoVm
departure_of s f here i leavings.Spoofed = departures.Spoofed
departure_of s f here i (leavings.Denied number) = departures.Denied number
departure_of s f here i (leavings.Allowed by sealed dest) = departures.Allowed by sealed dest (departs_end s f here i sealed dest)

-- where it leads from a VM of this network is there, and the network of the send is a VNI of 24 bits
abbrev pub LeadsLeaving : Settings → ℕ → Leaving → Type 0
LeadsLeaving s own (leavings.Allowed by sealed dest) = IsNode s (node_at (dest_endpoint dest)) × (dest_net own dest < 2 ^ 24)
LeadsLeaving s own _ = Unit {0}
