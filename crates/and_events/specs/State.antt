-- The state after a history, and what each event changes.
use Rattle.std.specs.Prelude.{◌≡◌, ℕ, suc, ◌+◌, ◌*◌, ◌-◌, Bool, true, false, if◌then◌else◌, List, [], ◌∷◌, ◌++◌, length, slice_set, slice_index_or, slice_get, replicate, Option, Some, None, unwrap_or}
use Rattle.and_capture.specs.declared.capture.Taken.{Taken}
use Rattle.and_policy.specs.declared.packet.Tuple.{Tuple}
use Rattle.and_policy.specs.declared.port.Port.{Port}
use Rattle.and_policy.specs.declared.port.Port.TheVariants as port_states
use Rattle.and_policy.specs.declared.entry.Op.{Op}
use Rattle.and_policy.specs.declared.entry.Entry.{Entry}
use Rattle.and_policy.specs.declared.entry.Entry.TheVariants as entries
use Rattle.and_policy.specs.declared.decision.Dest.{Dest}
use Rattle.and_policy.specs.declared.decision.Dest.TheVariants.{Offload, Hover}
use Rattle.and_policy.specs.Owners.{place}
use Rattle.and_policy.specs.Programmes.{net_of_vm}
use Rattle.and_events.specs.declared.event.Node.{Node}
use Rattle.and_events.specs.declared.event.Node.TheVariants as nodes
use Rattle.and_events.specs.declared.event.Endpoint.{Endpoint}
use Rattle.and_events.specs.declared.event.Endpoint.TheVariants as endpoints
use Rattle.and_events.specs.declared.event.Actor.{Actor}
use Rattle.and_events.specs.declared.event.Queue.TheVariants.{Out, Wire, Seal}
use Rattle.and_events.specs.declared.event.End.{End}
use Rattle.and_events.specs.declared.event.Carried.{Carried}
use Rattle.and_events.specs.declared.event.Departure.{Departure}
use Rattle.and_events.specs.declared.event.Departure.TheVariants.{NoVm, Spoofed, Denied, Allowed}
use Rattle.and_events.specs.declared.event.Passage.{Passage}
use Rattle.and_events.specs.declared.event.Passage.TheVariants as passages
use Rattle.and_events.specs.declared.event.Return.{Return}
use Rattle.and_events.specs.declared.event.Return.TheVariants as returns
use Rattle.and_events.specs.declared.event.Arrival.{Arrival}
use Rattle.and_events.specs.declared.event.Arrival.TheVariants as arrivals
use Rattle.and_events.specs.declared.event.Event.{Event}
use Rattle.and_events.specs.declared.event.Event.TheVariants.{Append, Review, Hold, Free, Wait, Inject, Blackout, Resume, Finish, Announce, Installed, Take, Egress, Sealed, Route, Redirect, Ingress, Unpin}
use Rattle.and_events.specs.declared.plan.What.{What}
use Rattle.and_events.specs.declared.plan.What.TheVariants.{Install, Forward}
use Rattle.and_events.specs.declared.plan.Step.{Step}
use Rattle.and_events.specs.declared.plan.Step.TheVariants as steps
use Rattle.and_events.specs.declared.plan.Packet.{Packet}
use Rattle.and_events.specs.declared.plan.Settings.{Settings}
use Rattle.and_events.specs.declared.plan.Plan.{Plan}
use Rattle.and_events.specs.Places.{node_count, node_place, queue_place, queue_count, hand_count, hand_place, node_of}
use Rattle.and_events.specs.Flow.{Flow, Move, Stay, Enter, Lose, Grab, Send, SealLater, Stop, flow_after, carried_in, enter_by, send_by, seal_by}
use Rattle.and_events.specs.Programming.{Programmes, Word, Quiet, Logs, Orders, Announces, Installs, programmes_after, programme_at, announced_at, installed_at}
use Rattle.and_events.specs.Ports.{PortMove, Unmoved, Boot, Halt, Pause, Arrive, Unpinned, ports_after, ports_of, leaves_host, comes_to}
use Rattle.and_events.specs.Usage.{Used, UsageMove, Unused, Uses, Cleared, usage_after, orders_of}

-- what is held at the nodes, by place
pub record NodeHolds : Type 0 where
  pub install : List Bool
  pub forward : List Bool

pub record State : Type 0 where
  pub next : ℕ  -- the step that is due
  pub programmes : Programmes
  pub node_holds : NodeHolds
  pub ports : List (List Port)
  pub flow : Flow
  pub usage : List Used  -- since the last review

-- ---- the plan

abbrev pub no_tuple : Tuple
no_tuple = record { protocol = 0; source = 0; destination = 0; source_port = 0; destination_port = 0 }

abbrev pub no_packet : Packet
no_packet = record { vm = 0; tuple = no_tuple; taken = record { seconds = 0; fraction = 0; original = 0; frame = [] } }

abbrev pub packet_at : Plan → ℕ → Packet
packet_at plan i = slice_index_or plan.packets i no_packet

abbrev pub tuple_at : Plan → ℕ → Tuple
tuple_at plan i = (packet_at plan i).tuple

abbrev pub frame_at : Plan → ℕ → List ℕ
frame_at plan i = (packet_at plan i).taken.frame

-- the network of the packet's source VM
abbrev pub source_net : Plan → ℕ → ℕ
source_net plan i = unwrap_or (net_of_vm plan.log (packet_at plan i).vm) 0

-- ---- the state, by node and packet

abbrev pub programme_of : Plan → State → Node → List Op
programme_of plan s node = programme_at s.programmes (node_place plan.settings node)

abbrev pub announced_of : Plan → State → Node → ℕ
announced_of plan s node = announced_at s.programmes (node_place plan.settings node)

abbrev pub installed_of : Plan → State → Node → ℕ
installed_of plan s node = installed_at s.programmes (node_place plan.settings node)

abbrev pub carried_at : State → ℕ → Carried
carried_at s i = carried_in s.flow.carried i

-- the host where the packet's VM is under the log as it stands
abbrev pub home : Plan → State → ℕ → ℕ
home plan s i = unwrap_or (place s.programmes.log (packet_at plan i).vm) 0

-- ---- the packets

-- where a send for an endpoint goes
abbrev pub node_at : Endpoint → Node
node_at (endpoints.Host h) = nodes.Host h
node_at (endpoints.Route g) = nodes.Gate g
node_at (endpoints.Redirect g) = nodes.Gate g

-- a send by the hand to an endpoint, by how it ends
abbrev pub send : Settings → ℕ → ℕ → End → Endpoint → ℕ → Move
send s a i end target net = send_by a (queue_place s (node_at target) Wire) i end net target

-- an offload goes straight to the host with the order's network, all else to a gateway with the packet's own
abbrev pub dest_endpoint : Dest → Endpoint
dest_endpoint (Offload host net) = endpoints.Host host
dest_endpoint (Hover g) = endpoints.Route g

abbrev pub dest_net : ℕ → Dest → ℕ
dest_net own (Offload host net) = net
dest_net own (Hover g) = own

abbrev pub departs : Settings → ℕ → ℕ → ℕ → Node → Departure → Move
departs s own a i here (Allowed by true dest end) = seal_by a (queue_place s here Seal) i end (dest_net own dest) (dest_endpoint dest)
departs s own a i here (Allowed by false dest end) = send s a i end (dest_endpoint dest) (dest_net own dest)
departs s own a i here _ = Stop a i

abbrev pub passes : Settings → ℕ → ℕ → Passage → Move
passes s a i (passages.Send by net host end) = send s a i end (endpoints.Host host) net
passes s a i _ = Stop a i

abbrev pub goes_back : Settings → Carried → ℕ → ℕ → Return → Move
goes_back s c a i (returns.Send host end) = send s a i end (endpoints.Host host) c.net
goes_back s c a i _ = Stop a i

abbrev pub arrives : Settings → Carried → ℕ → ℕ → Arrival → Move
arrives s c a i (arrivals.Hairpin vm host end) = send s a i end (endpoints.Host host) c.net
arrives s c a i (arrivals.Absent vm gateway end) = send s a i end (endpoints.Redirect gateway) c.net
arrives s c a i _ = Stop a i

-- what an event does to the packets
unfoldable pub move_of : Plan → State → Event → Move
move_of plan s (Inject step i full) = enter_by (queue_place plan.settings (nodes.Host (home plan s i)) Out) i full
move_of plan s (Take a q i) =
    Grab (hand_place plan.settings a) (queue_place plan.settings (node_of a) q)
    (record { packet = i; need = installed_of plan s (node_of a); queue = q })
move_of plan s (Egress a i at way d) = departs plan.settings (source_net plan i) (hand_place plan.settings a) i (node_of a) d
move_of plan s (Sealed a i end) = send plan.settings (hand_place plan.settings a) i end (carried_at s i).target (carried_at s i).net
move_of plan s (Route a i at p) = passes plan.settings (hand_place plan.settings a) i p
move_of plan s (Redirect a i at back) = goes_back plan.settings (carried_at s i) (hand_place plan.settings a) i back
move_of plan s (Ingress a i at way arrival) = arrives plan.settings (carried_at s i) (hand_place plan.settings a) i arrival
move_of plan s _ = Stay

-- ---- the programmes

abbrev pub word_of_step : Plan → State → Option Step → Word
word_of_step plan s (Some (steps.Append e)) = Logs e
word_of_step plan s (Some steps.Review) = Orders (orders_of plan.settings s.programmes.log s.usage)
word_of_step plan s (Some (steps.Resume vm)) = Logs (entries.Place vm (comes_to (ports_of s.ports vm)))
word_of_step plan s _ = Quiet

-- what an event does to the programmes
unfoldable pub word_of : Plan → State → Event → Word
word_of plan s (Append step) = word_of_step plan s (slice_get plan.steps step)
word_of plan s (Review step) = word_of_step plan s (slice_get plan.steps step)
word_of plan s (Resume step) = word_of_step plan s (slice_get plan.steps step)
word_of plan s (Announce node upto) = Announces (node_place plan.settings node) upto
word_of plan s (Installed node upto) = Installs (node_place plan.settings node) upto
word_of plan s _ = Quiet

-- ---- the ports

abbrev pub ports_move_of_entry : Entry → PortMove
ports_move_of_entry (entries.AddVm vm net mac ip host) = Boot host vm
ports_move_of_entry (entries.RemoveVm vm) = Halt vm
ports_move_of_entry _ = Unmoved

abbrev pub ports_move_of_step : State → Option Step → PortMove
ports_move_of_step s (Some (steps.Append e)) = ports_move_of_entry e
ports_move_of_step s (Some (steps.Blackout vm host)) = Pause vm (unwrap_or (place s.programmes.log vm) 0) host
ports_move_of_step s (Some (steps.Resume vm)) =
    Arrive vm (leaves_host (ports_of s.ports vm)) (comes_to (ports_of s.ports vm)) (length s.programmes.log + 1)
ports_move_of_step s _ = Unmoved

-- what an event does to the ports
unfoldable pub ports_move_of : Plan → State → Event → PortMove
ports_move_of plan s (Append step) = ports_move_of_step s (slice_get plan.steps step)
ports_move_of plan s (Blackout step) = ports_move_of_step s (slice_get plan.steps step)
ports_move_of plan s (Resume step) = ports_move_of_step s (slice_get plan.steps step)
ports_move_of plan s (Unpin host vm) = Unpinned host vm
ports_move_of plan s _ = Unmoved

-- ---- the usage

abbrev pub host_of : Node → ℕ
host_of (nodes.Host h) = h
host_of (nodes.Gate g) = 0

abbrev pub usage_by : Plan → Node → ℕ → Departure → UsageMove
usage_by plan here i (Allowed by sealed dest end) =
    Uses (record { host = host_of here; net = source_net plan i; ip = (tuple_at plan i).destination }) (length (frame_at plan i))
usage_by plan here i _ = Unused

-- what an event does to the usage: each Egress that allows a packet counts its frame
unfoldable pub usage_move_of : Plan → Event → UsageMove
usage_move_of plan (Egress a i at way d) = usage_by plan (node_of a) i d
usage_move_of plan (Review step) = Cleared
usage_move_of plan _ = Unused

-- ---- what is held at the nodes

abbrev pub with_hold : NodeHolds → ℕ → What → Bool → NodeHolds
with_hold holds n Install held = record holds { install = slice_set holds.install n held }
with_hold holds n Forward held = record holds { forward = slice_set holds.forward n held }

abbrev pub holds_by : Settings → NodeHolds → Option Step → NodeHolds
holds_by s holds (Some (steps.Hold node what)) = with_hold holds (node_place s node) what true
holds_by s holds (Some (steps.Free node what)) = with_hold holds (node_place s node) what false
holds_by s holds _ = holds

unfoldable pub holds_after : Plan → NodeHolds → Event → NodeHolds
holds_after plan holds (Hold step) = holds_by plan.settings holds (slice_get plan.steps step)
holds_after plan holds (Free step) = holds_by plan.settings holds (slice_get plan.steps step)
holds_after plan holds _ = holds

-- ---- the whole

-- the step that an event is
unfoldable pub step_of : Event → Option ℕ
step_of (Append step) = Some step
step_of (Review step) = Some step
step_of (Hold step) = Some step
step_of (Free step) = Some step
step_of (Wait step) = Some step
step_of (Inject step i full) = Some step
step_of (Blackout step) = Some step
step_of (Resume step) = Some step
step_of (Finish step) = Some step
step_of _ = None

abbrev pub next_after : ℕ → Option ℕ → ℕ
next_after n None = n
next_after n (Some step) = n + 1

-- no events: an empty log, empty programmes and queues, all ports absent, nothing held, all hops left
unfoldable pub start : Plan → State
start plan =
    let s = plan.settings in
    record {
      next = 0;
      programmes = record { log = []; ops = replicate (node_count s) []; announced = replicate (node_count s) 0; installed = replicate (node_count s) 0 };
      node_holds = record { install = replicate (node_count s) false; forward = replicate (node_count s) false };
      ports = replicate (length plan.names) (replicate s.hosts port_states.Absent);
      flow = record {
        queues = replicate (queue_count s) [];
        hands = replicate (hand_count s) None;
        carried = replicate (length plan.packets) (record { hops = s.hop_limit; sealed = false; net = 0; target = endpoints.Host 0 });
      };
      usage = [];
    }

unfoldable pub after : Plan → State → Event → State
after plan s e =
    record {
      next = next_after s.next (step_of e);
      programmes = programmes_after s.programmes (word_of plan s e);
      node_holds = holds_after plan s.node_holds e;
      ports = ports_after s.ports (ports_move_of plan s e);
      flow = flow_after s.flow (move_of plan s e);
      usage = usage_after s.usage (usage_move_of plan e);
    }

-- the state after a history, whose newest event is first
unfoldable pub state : Plan → List Event → State
state plan [] = start plan
state plan (e ∷ h) = after plan (state plan h) e
