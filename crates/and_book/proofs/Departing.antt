-- A packet that leaves a VM and is settled: the event is legal, and what is kept after it.
use Rattle.std.proofs.Common.{◌≡◌, ℕ, ◌<◌, ◌^◌, Bool, true, false, List, length, refl, subst, arith, Option, Some, None}
use Rattle.and_policy.specs.declared.decision.Dest.{Dest}
use Rattle.and_policy.specs.declared.decision.Exit.{Exit}
use Rattle.and_policy.specs.declared.decision.Exit.TheVariants as exits
use Rattle.and_policy.specs.declared.decision.Leaving.{Leaving}
use Rattle.and_policy.specs.declared.decision.Leaving.TheVariants as leavings
use Rattle.and_policy.specs.declared.decision.Name.{Name}
use Rattle.and_policy.specs.declared.decision.Way.{Way}
use Rattle.and_policy.specs.declared.entry.Order.{Order}
use Rattle.and_policy.specs.declared.packet.Tuple.{Tuple}
use Rattle.and_policy.specs.Egress.{egress}
use Rattle.and_policy.specs.Logs.{vm_of}
use Rattle.and_policy.specs.Programmes.{prefix, live, own_net, dest_by, leaving_by}
use Rattle.and_policy.specs.Routes.{route}
use Rattle.and_events.specs.declared.event.Actor.{Actor}
use Rattle.and_events.specs.declared.event.Actor.TheVariants.{HostInstall, GateInstall, Worker, Coproc, Gateway, Controller, Driver}
use Rattle.and_events.specs.declared.event.Departure.TheVariants as departures
use Rattle.and_events.specs.declared.event.Event.{Event}
use Rattle.and_events.specs.declared.event.Node.{Node}
use Rattle.and_events.specs.declared.event.Node.TheVariants.{Host, Gate}
use Rattle.and_events.specs.declared.event.Queue.TheVariants.{Out, Seal}
use Rattle.and_events.specs.declared.plan.Plan.{Plan}
use Rattle.and_events.specs.declared.plan.Settings.{Settings}
use Rattle.and_events.specs.Places.{queue_place, queue_count, node_of, IsNode, IsActor, IsWorker, HasQueue}
use Rattle.and_events.specs.State.{State, state, dest_endpoint, dest_net, node_at, source_net, packet_at, tuple_at, carried_at, programme_of}
use Rattle.and_events.specs.Legal.{Legal, Decides, Departs, Sends}
use Rattle.and_events.specs.Run.{Run}
use Rattle.and_events.specs.Sound.{IsSound}
use Rattle.and_laws.proofs.Offloading.{right_orders}
use Rattle.and_kept.specs.Settling.{departs_end, departure_of, LeadsRouted, LeadsLeaving}
use Rattle.and_book.specs.Settling.{leaving_said, egress_event}
use Rattle.and_book.proofs.Ends.{Within, ends_at, sends_end}
use Rattle.and_book.proofs.Known.{own_fits}
use Rattle.and_book.proofs.Leading.{known_entries, leads_by}
use Rattle.and_book.proofs.Settled.{worker_node}

-- ---- where it leads

pub seals_at : (a : Actor) → IsWorker a → HasQueue (node_of a) Seal
seals_at (Worker h w) worker = tt
seals_at (Gateway g) worker = absurd worker
seals_at (HostInstall h) worker = absurd worker
seals_at (GateInstall g) worker = absurd worker
seals_at (Coproc h) worker = absurd worker
seals_at Controller worker = absurd worker
seals_at Driver worker = absurd worker

leads_dest : (v : Settings) (x : Tuple) (o : Option Order) → 0 < v.gateways → ((order : Order) → o ≡ Some order → order.to_host < v.hosts) → IsNode v (node_at (dest_endpoint (dest_by v.gateways x o)))
leads_dest v x None some known = omega (arith, some)
leads_dest v x (Some order) some known = known order refl

leads_exit : (v : Settings) (own : ℕ) (x : Exit) (dest : Dest) → IsNode v (node_at (dest_endpoint dest)) → dest_net own dest < 2 ^ 24 → LeadsLeaving v own (leaving_by x dest)
leads_exit v own exits.NoVm dest there fits = tt
leads_exit v own exits.Spoofed dest there fits = tt
leads_exit v own (exits.Denied n) dest there fits = tt
leads_exit v own (exits.Allowed by sealed) dest there fits = (there, fits)

fits_dest : (gateways own : ℕ) (x : Tuple) (o : Option Order) → own < 2 ^ 24 → ((order : Order) → o ≡ Some order → order.to_net < 2 ^ 24) → dest_net own (dest_by gateways x o) < 2 ^ 24
fits_dest gateways own x None fits known = fits
fits_dest gateways own x (Some order) fits known = known order refl

-- a live order leads to a host that is there, as the route leads there, and so does the flow hash to a gateway
pub leads_leaving : (plan : Plan) (h : List Event) (a : Actor) (i at : ℕ) → IsSound plan → Run plan h → IsActor plan.settings a → IsWorker a → LeadsLeaving plan.settings (source_net plan i) (leaving_said plan (state plan h) a i at)
leads_leaving plan h a i at sound r actor worker =
    let p = programme_of plan (state plan h) (node_of a) in
    let k = prefix p at in
    let vm = (packet_at plan i).vm in
    let x = tuple_at plan i in
    let net = own_net (vm_of k vm) in
    let node = worker_node plan.settings a worker actor in
    let known = known_entries plan h a at sound r node in
    let leads : (order : Order) → live p at net x.destination ≡ Some order → (order.to_host < plan.settings.hosts) × (order.to_net < 2 ^ 24) =
    λ order is.
    let right = right_orders plan h sound r (node_of a) node at net x.destination order is in
    subst (LeadsRouted plan.settings) right.1 (leads_by plan k x.destination (route k net x.destination) known) in
    leads_exit plan.settings (source_net plan i) (egress k vm x) (dest_by plan.settings.gateways x (live p at net x.destination))
    (leads_dest plan.settings x (live p at net x.destination) sound.settings.gateways.0 (λ order is. (leads order is).0))
    (fits_dest plan.settings.gateways (source_net plan i) x (live p at net x.destination) (own_fits plan i sound) (λ order is. (leads order is).1))

-- ---- legal

seal_within : (v : Settings) (node : Node) → IsNode v node → HasQueue node Seal → queue_place v node Seal < queue_count v
seal_within v (Host h) is has = omega (arith, is)
seal_within v (Gate g) is has = absurd has

departs_by : (plan : Plan) (s : State) (here : Node) (i : ℕ) (by : Name) (sealed : Bool) (dest : Dest) → IsNode plan.settings here → HasQueue here Seal → 0 < (carried_at s i).hops → IsNode plan.settings (node_at (dest_endpoint dest)) → length s.flow.queues ≡ queue_count plan.settings → Within plan s
    → Departs plan s here i (leavings.Allowed by sealed dest) (departures.Allowed by sealed dest (departs_end plan.settings s.flow here i sealed dest))
departs_by plan s here i by true dest node seals hops leads sized w =
    let there : queue_place plan.settings here Seal < length s.flow.queues = omega (arith, seal_within plan.settings here node seals, sized) in
    (refl, ends_at plan s (queue_place plan.settings here Seal) there w)
departs_by plan s here i by false dest node seals hops leads sized w =
    let target = dest_endpoint dest in
    let sends = sends_end plan s i target leads sized w in
    (refl, (λ e. let none : (carried_at s i).hops ≡ 0 = subst (Sends plan s i target) e sends in omega (arith, none, hops)), sends)

departs_so : (plan : Plan) (s : State) (here : Node) (i own : ℕ) (said : Leaving) → IsNode plan.settings here → HasQueue here Seal → 0 < (carried_at s i).hops → LeadsLeaving plan.settings own said → length s.flow.queues ≡ queue_count plan.settings → Within plan s
    → Departs plan s here i said (departure_of plan.settings s.flow here i said)
departs_so plan s here i own leavings.NoVm node seals hops leads sized w = refl
departs_so plan s here i own leavings.Spoofed node seals hops leads sized w = refl
departs_so plan s here i own (leavings.Denied n) node seals hops leads sized w = refl
departs_so plan s here i own (leavings.Allowed by sealed dest) node seals hops leads sized w = departs_by plan s here i by sealed dest node seals hops leads.0 sized w

pub legal_egress : (plan : Plan) (s : State) (a : Actor) (i at : ℕ) (way : Way) → Decides plan s a i Out at → IsWorker a → 0 < (carried_at s i).hops → LeadsLeaving plan.settings (source_net plan i) (leaving_said plan s a i at) → length s.flow.queues ≡ queue_count plan.settings → Within plan s
    → Legal plan s (egress_event plan s a i at way)
unfolding Legal
legal_egress plan s a i at way decides worker hops leads sized w = (
  decides,
  worker,
  departs_so plan s (node_of a) i (source_net plan i) (leaving_said plan s a i at) (worker_node plan.settings a worker decides.actor) (seals_at a worker) hops leads sized w,
)
