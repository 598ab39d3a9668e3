-- Nodes, queues, hands and actors by number.
use Rattle.std.specs.Prelude.{◌≡◌, ℕ, ◌+◌, ◌*◌, ◌%◌, ◌<◌, ◌≤◌, ◌==◌, nat_lt, if◌then◌else◌}
use Rattle.and_events.specs.declared.event.Node.{Node}
use Rattle.and_events.specs.declared.event.Node.TheVariants.{Host, Gate}
use Rattle.and_events.specs.declared.event.Actor.{Actor}
use Rattle.and_events.specs.declared.event.Actor.TheVariants.{HostInstall, GateInstall, Worker, Coproc, Gateway, Controller, Driver}
use Rattle.and_events.specs.declared.event.Queue.{Queue}
use Rattle.and_events.specs.declared.event.Queue.TheVariants.{Out, Wire, Seal}
use Rattle.and_events.specs.declared.event.Event.{Event}
use Rattle.and_events.specs.declared.event.Event.TheVariants.{Append, Review, Hold, Free, Wait, Inject, Blackout, Resume, Finish, Announce, Installed, Take, Egress, Sealed, Route, Redirect, Ingress, Unpin}
use Rattle.and_events.specs.declared.plan.Settings.{Settings}

-- the settings are in their ranges
pub record IsSmall (s : Settings) : Type 0 where
  pub hosts : s.hosts ≤ 64
  pub gateways : s.gateways ≤ 8
  pub workers : s.workers ≤ 4

abbrev pub node_count : Settings → ℕ
node_count s = s.hosts + s.gateways

-- hosts come first, then gateways
abbrev pub node_place : Settings → Node → ℕ
node_place s (Host h) = h
node_place s (Gate g) = s.hosts + g

abbrev pub IsNode : Settings → Node → Type 0
IsNode s (Host h) = h < s.hosts
IsNode s (Gate g) = g < s.gateways

-- the node has such a queue: a gateway has one from the underlay alone
abbrev pub HasQueue : Node → Queue → Type 0
HasQueue (Gate g) Out = ⊥
HasQueue (Gate g) Seal = ⊥
HasQueue _ _ = Unit {0}

-- `out` queues by host, then `seal` queues by host, then `wire` queues by node
abbrev pub queue_place : Settings → Node → Queue → ℕ
queue_place s (Host h) Out = h
queue_place s (Host h) Seal = s.hosts + h
queue_place s (Gate g) Out = 3 * s.hosts + s.gateways
queue_place s (Gate g) Seal = 3 * s.hosts + s.gateways
queue_place s node Wire = 2 * s.hosts + node_place s node

abbrev pub queue_count : Settings → ℕ
queue_count s = 3 * s.hosts + s.gateways

-- how many packets the queue at a place may hold
abbrev pub capacity_at : Settings → ℕ → ℕ
capacity_at s q = if nat_lt q s.hosts then s.out_queue else (if nat_lt q (2 * s.hosts) then s.seal_queue else s.wire_queue)

-- workers host by host, then coprocessors, then gateway workers
abbrev pub hand_count : Settings → ℕ
hand_count s = s.hosts * s.workers + s.hosts + s.gateways

-- the place of the actor's hand. Actors that take no packets have none
abbrev pub hand_place : Settings → Actor → ℕ
hand_place s (Worker h w) = h * s.workers + w
hand_place s (Coproc h) = s.hosts * s.workers + h
hand_place s (Gateway g) = s.hosts * s.workers + s.hosts + g
hand_place s (HostInstall h) = hand_count s
hand_place s (GateInstall g) = hand_count s
hand_place s Controller = hand_count s
hand_place s Driver = hand_count s

-- the order of the actors: installers of hosts, installers of gateways, workers host by host, coprocessors,
-- gateway workers, the controller, the driver
abbrev pub actor_number : Settings → Actor → ℕ
actor_number s (HostInstall h) = h
actor_number s (GateInstall g) = s.hosts + g
actor_number s (Worker h w) = node_count s + hand_place s (Worker h w)
actor_number s (Coproc h) = node_count s + hand_place s (Coproc h)
actor_number s (Gateway g) = node_count s + hand_place s (Gateway g)
actor_number s Controller = node_count s + hand_count s
actor_number s Driver = node_count s + hand_count s + 1

abbrev pub actor_count : Settings → ℕ
actor_count s = node_count s + hand_count s + 2

abbrev pub IsActor : Settings → Actor → Type 0
IsActor s (HostInstall h) = h < s.hosts
IsActor s (GateInstall g) = g < s.gateways
IsActor s (Worker h w) = (h < s.hosts) × (w < s.workers)
IsActor s (Coproc h) = h < s.hosts
IsActor s (Gateway g) = g < s.gateways
IsActor s Controller = Unit {0}
IsActor s Driver = Unit {0}

-- the node at which an actor works. Controller and driver work at none; host 0 stands in for it, and no definition asks
abbrev pub node_of : Actor → Node
node_of (HostInstall h) = Host h
node_of (GateInstall g) = Gate g
node_of (Worker h w) = Host h
node_of (Coproc h) = Host h
node_of (Gateway g) = Gate g
node_of Controller = Host 0
node_of Driver = Host 0

-- the actors that take packets
abbrev pub Handles : Actor → Type 0
Handles (Worker h w) = Unit {0}
Handles (Coproc h) = Unit {0}
Handles (Gateway g) = Unit {0}
Handles _ = ⊥

-- the actors that decide at hosts, at gateways, and that seal
abbrev pub IsWorker : Actor → Type 0
IsWorker (Worker h w) = Unit {0}
IsWorker _ = ⊥

abbrev pub IsGatewayWorker : Actor → Type 0
IsGatewayWorker (Gateway g) = Unit {0}
IsGatewayWorker _ = ⊥

abbrev pub IsCoprocessor : Actor → Type 0
IsCoprocessor (Coproc h) = Unit {0}
IsCoprocessor _ = ⊥

abbrev pub installer_of : Node → Actor
installer_of (Host h) = HostInstall h
installer_of (Gate g) = GateInstall g

-- whose event it is
abbrev pub actor_of : Event → Actor
actor_of (Announce node upto) = installer_of node
actor_of (Installed node upto) = installer_of node
actor_of (Take a q i) = a
actor_of (Egress a i at way d) = a
actor_of (Sealed a i end) = a
actor_of (Route a i at p) = a
actor_of (Redirect a i at b) = a
actor_of (Ingress a i at way r) = a
actor_of (Unpin host vm) = Controller
actor_of _ = Driver

-- the seat of an actor: 1 + its number modulo the threads; with 0 threads, as a replay has it, all have seat 0
abbrev pub seat_of : ℕ → Settings → Actor → ℕ
seat_of threads s a = if threads == 0 then 0 else 1 + actor_number s a % threads
