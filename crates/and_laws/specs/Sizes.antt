-- How many queues, hands, packets, nodes and ports a state has.
use Rattle.std.specs.Prelude.{◌≡◌, ℕ, ◌<◌, List, length}
use Rattle.and_policy.specs.declared.port.Port.{Port}
use Rattle.and_events.specs.declared.plan.Plan.{Plan}
use Rattle.and_events.specs.Places.{node_count, queue_count, hand_count}
use Rattle.and_events.specs.Flow.{Flow}
use Rattle.and_events.specs.Programming.{Programmes}
use Rattle.and_events.specs.Ports.{ports_of}
use Rattle.and_events.specs.State.{NodeHolds}

-- each queue and each hand has its place, and each packet of the plan is known
pub record HasSizes (plan : Plan) (f : Flow) : Type 0 where
  pub queues : length f.queues ≡ queue_count plan.settings
  pub hands : length f.hands ≡ hand_count plan.settings
  pub carried : length f.carried ≡ length plan.packets

-- each node has a programme, a number that is announced and one that is installed
pub record HasNodes (plan : Plan) (p : Programmes) : Type 0 where
  pub ops : length p.ops ≡ node_count plan.settings
  pub announced : length p.announced ≡ node_count plan.settings
  pub installed : length p.installed ≡ node_count plan.settings

-- each VM has a port at each host
pub record HasPorts (plan : Plan) (ports : List (List Port)) : Type 0 where
  pub vms : length ports ≡ length plan.names
  pub hosts : (vm : ℕ) → vm < length plan.names → length (ports_of ports vm) ≡ plan.settings.hosts

-- each node has its two marks
pub record HasNodeHolds (plan : Plan) (holds : NodeHolds) : Type 0 where
  pub install : length holds.install ≡ node_count plan.settings
  pub forward : length holds.forward ≡ node_count plan.settings
