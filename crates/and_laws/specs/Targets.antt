-- Where packets are sent: what the policy and the ports name is always a node of the plan.
use Rattle.std.specs.Prelude.{◌≡◌, ℕ, ◌<◌, List, Some}
use Rattle.and_policy.specs.declared.entry.Order.{Order}
use Rattle.and_policy.specs.declared.packet.Tuple.{Tuple}
use Rattle.and_policy.specs.declared.port.Port.TheVariants as port_states
use Rattle.and_policy.specs.declared.decision.Name.{Name}
use Rattle.and_policy.specs.declared.decision.Routed.TheVariants as routeds
use Rattle.and_policy.specs.declared.decision.Located.TheVariants as locateds
use Rattle.and_policy.specs.Owners.{routed, located}
use Rattle.and_policy.specs.FlowHash.{gateway_of}
use Rattle.and_policy.specs.Programmes.{prefix, live}
use Rattle.and_events.specs.declared.event.Event.{Event}
use Rattle.and_events.specs.declared.event.Node.{Node}
use Rattle.and_events.specs.declared.plan.Plan.{Plan}
use Rattle.and_events.specs.Places.{IsNode}
use Rattle.and_events.specs.Ports.{port_at}
use Rattle.and_events.specs.State.{state, programme_of, carried_at, node_at}

-- what the first j operations of a node's programme say leads to hosts of the plan
pub record LeadsToHosts (plan : Plan) (h : List Event) (node : Node) (j : ℕ) : Type 0 where
  pub routes : (net ip : ℕ) (by : Name) (to host : ℕ) → routed (prefix (programme_of plan (state plan h) node) j) net ip ≡ routeds.To by to host
      → host < plan.settings.hosts
  pub places : (net ip host : ℕ) → located (prefix (programme_of plan (state plan h) node) j) net ip ≡ locateds.To host → host < plan.settings.hosts
  pub orders : (net ip : ℕ) (order : Order) → live (programme_of plan (state plan h) node) j net ip ≡ Some order → order.to_host < plan.settings.hosts

-- wherever a packet is due to go, that is a node of the plan
pub record LeadsToNodes (plan : Plan) (h : List Event) : Type 0 where
  pub programmes : (node : Node) → IsNode plan.settings node → (j : ℕ) → LeadsToHosts plan h node j
  pub gateways : (x : Tuple) → gateway_of plan.settings.gateways x < plan.settings.gateways
  pub hairpins : (host vm to entry : ℕ) → port_at (state plan h).ports host vm ≡ port_states.Hairpin to entry → to < plan.settings.hosts
  pub carried : (i : ℕ) → IsNode plan.settings (node_at (carried_at (state plan h) i).target)
