-- A packet that has come for a VM and is settled: the event is legal, and what is kept after it.
use Rattle.std.proofs.Common.{◌≡◌, ℕ, ◌<◌, Bool, List, length, refl, arith, inl, inr}
use Rattle.and_policy.specs.declared.decision.Name.{Name}
use Rattle.and_policy.specs.declared.decision.Landing.{Landing}
use Rattle.and_policy.specs.declared.decision.Landing.TheVariants as landings
use Rattle.and_policy.specs.declared.decision.Way.{Way}
use Rattle.and_policy.specs.declared.port.Port.{Port}
use Rattle.and_policy.specs.declared.port.Port.TheVariants as port_states
use Rattle.and_policy.specs.FlowHash.{gateway_of}
use Rattle.and_events.specs.declared.event.Actor.{Actor}
use Rattle.and_events.specs.declared.event.Endpoint.TheVariants as endpoints
use Rattle.and_events.specs.declared.event.Event.{Event}
use Rattle.and_events.specs.declared.event.Queue.TheVariants.{Wire}
use Rattle.and_events.specs.declared.plan.Plan.{Plan}
use Rattle.and_events.specs.Places.{queue_count, node_of, IsWorker}
use Rattle.and_events.specs.Ports.{port_at}
use Rattle.and_events.specs.Run.{Run}
use Rattle.and_events.specs.Sound.{IsSound}
use Rattle.and_events.specs.State.{State, state, host_of, tuple_at}
use Rattle.and_events.specs.Legal.{Legal, Decides, Arrives}
use Rattle.and_laws.proofs.Leads.{to_nodes}
use Rattle.and_kept.specs.Settling.{arrival_at, arrival_of, LeadsPort, LeadsLanding}
use Rattle.and_book.specs.Settling.{landing_said, ingress_event}
use Rattle.and_book.proofs.Ends.{Within, sends_end}

arrives_at : (plan : Plan) (s : State) (here i vm : ℕ) (by : Name) (pass : Bool) (port : Port) → 0 < plan.settings.gateways → port_at s.ports here vm ≡ port → LeadsPort plan.settings port → length s.flow.queues ≡ queue_count plan.settings → Within plan s
    → Arrives plan s here i (landings.Owned vm by pass) (arrival_at plan.settings s.flow (tuple_at plan i) i vm by pass port)
arrives_at plan s here i vm by pass port_states.Running some e leads sized w = (refl, e)
arrives_at plan s here i vm by pass port_states.Paused some e leads sized w = ((by, pass, refl), inl e)
arrives_at plan s here i vm by pass port_states.Arriving some e leads sized w = ((by, pass, refl), inr e)
arrives_at plan s here i vm by pass (port_states.Hairpin host entry) some e leads sized w =
    ((by, pass, refl), (entry, e), sends_end plan s i (endpoints.Host host) leads sized w)
arrives_at plan s here i vm by pass port_states.Absent some e leads sized w =
    let g = gateway_of plan.settings.gateways (tuple_at plan i) in
    let there : g < plan.settings.gateways = omega (arith, some) in
    ((by, pass, refl), e, refl, sends_end plan s i (endpoints.Redirect g) there sized w)

arrives_end : (plan : Plan) (s : State) (here i : ℕ) (said : Landing) → 0 < plan.settings.gateways → LeadsLanding plan.settings s.ports here said → length s.flow.queues ≡ queue_count plan.settings → Within plan s
    → Arrives plan s here i said (arrival_of plan.settings s.flow s.ports here (tuple_at plan i) i said)
arrives_end plan s here i landings.NoOwner some leads sized w = refl
arrives_end plan s here i (landings.Owned vm by pass) some leads sized w = arrives_at plan s here i vm by pass (port_at s.ports here vm) some refl leads sized w

pub legal_ingress : (plan : Plan) (s : State) (a : Actor) (i at : ℕ) (way : Way) → Decides plan s a i Wire at → IsWorker a → 0 < plan.settings.gateways → LeadsLanding plan.settings s.ports (host_of (node_of a)) (landing_said plan s a i at) → length s.flow.queues ≡ queue_count plan.settings → Within plan s
    → Legal plan s (ingress_event plan s a i at way)
unfolding Legal
legal_ingress plan s a i at way decides worker some leads sized w =
    (decides, worker, arrives_end plan s (host_of (node_of a)) i (landing_said plan s a i at) some leads sized w)

-- ---- in a run a hairpin leads to a host of the plan

leads_port : (plan : Plan) (h : List Event) (here vm : ℕ) (port : Port) → IsSound plan → Run plan h → port_at (state plan h).ports here vm ≡ port → LeadsPort plan.settings port
leads_port plan h here vm (port_states.Hairpin to entry) sound r is = (to_nodes plan h sound r).hairpins here vm to entry is
leads_port plan h here vm port_states.Absent sound r is = tt
leads_port plan h here vm port_states.Running sound r is = tt
leads_port plan h here vm port_states.Paused sound r is = tt
leads_port plan h here vm port_states.Arriving sound r is = tt

pub leads_landing : (plan : Plan) (h : List Event) (here : ℕ) (said : Landing) → IsSound plan → Run plan h → LeadsLanding plan.settings (state plan h).ports here said
leads_landing plan h here landings.NoOwner sound r = tt
leads_landing plan h here (landings.Owned vm by pass) sound r = leads_port plan h here vm (port_at (state plan h).ports here vm) sound r refl
