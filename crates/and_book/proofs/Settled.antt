-- A packet that a gateway's decision or a coprocessor settles: the event is legal.
use Rattle.std.proofs.Common.{◌≡◌, ℕ, ◌<◌, length, refl, subst, arith}
use Rattle.and_policy.specs.declared.decision.GateDecision.{GateDecision}
use Rattle.and_policy.specs.declared.decision.GateDecision.TheVariants as decisions
use Rattle.and_policy.specs.declared.decision.Name.{Name}
use Rattle.and_policy.specs.declared.decision.Routed.{Routed}
use Rattle.and_policy.specs.declared.decision.Routed.TheVariants as routeds
use Rattle.and_policy.specs.declared.decision.Located.{Located}
use Rattle.and_policy.specs.declared.decision.Located.TheVariants as locateds
use Rattle.and_events.specs.declared.event.Actor.{Actor}
use Rattle.and_events.specs.declared.event.Actor.TheVariants.{HostInstall, GateInstall, Worker, Coproc, Gateway, Controller, Driver}
use Rattle.and_events.specs.declared.event.End.{End}
use Rattle.and_events.specs.declared.event.End.TheVariants.{Queued, Full, Hops}
use Rattle.and_events.specs.declared.event.Endpoint.TheVariants as endpoints
use Rattle.and_events.specs.declared.plan.Plan.{Plan}
use Rattle.and_events.specs.declared.plan.Settings.{Settings}
use Rattle.and_events.specs.Places.{queue_count, node_of, actor_of, IsNode, IsActor, IsWorker, IsGatewayWorker, IsCoprocessor, Handles}
use Rattle.and_events.specs.State.{State, node_at, carried_at}
use Rattle.and_events.specs.Legal.{Legal, Sends, Passes, GoesBack}
use Rattle.and_kept.specs.Settling.{end_to, passage_by, passage_of, return_by, return_of, LeadsRouted, LeadsLocated, LeadsGate, gate_event}
use Rattle.and_book.specs.Settling.{MaySettleGateway, MaySeal, sealed_event}
use Rattle.and_book.proofs.Ends.{Within, sends_end}

-- ---- legal at a gateway

passes_by : (plan : Plan) (s : State) (i : ℕ) (by : Name) (net host : ℕ) (end : End) → Sends plan s i (endpoints.Host host) end → Passes plan s i (routeds.To by net host) (passage_by by net host end)
passes_by plan s i by net host Queued sends = (refl, (λ e. cc), sends)
passes_by plan s i by net host Full sends = (refl, (λ e. cc), sends)
passes_by plan s i by net host Hops sends = (net, host, refl, sends)

passes_end : (plan : Plan) (s : State) (i : ℕ) (said : Routed) → LeadsRouted plan.settings said → length s.flow.queues ≡ queue_count plan.settings → Within plan s → Passes plan s i said (passage_of plan.settings s.flow i said)
passes_end plan s i (routeds.Dropped by) leads sized w = refl
passes_end plan s i (routeds.NoOwner by) leads sized w = refl
passes_end plan s i (routeds.To by net host) leads sized w =
    passes_by plan s i by net host (end_to plan.settings s.flow i (endpoints.Host host)) (sends_end plan s i (endpoints.Host host) leads.0 sized w)

returns_by : (plan : Plan) (s : State) (i host : ℕ) (end : End) → Sends plan s i (endpoints.Host host) end → GoesBack plan s i (locateds.To host) (return_by host end)
returns_by plan s i host Queued sends = (refl, (λ e. cc), sends)
returns_by plan s i host Full sends = (refl, (λ e. cc), sends)
returns_by plan s i host Hops sends = (host, refl, sends)

returns_end : (plan : Plan) (s : State) (i : ℕ) (said : Located) → LeadsLocated plan.settings said → length s.flow.queues ≡ queue_count plan.settings → Within plan s → GoesBack plan s i said (return_of plan.settings s.flow i said)
returns_end plan s i locateds.NoOwner leads sized w = refl
returns_end plan s i (locateds.To host) leads sized w =
    returns_by plan s i host (end_to plan.settings s.flow i (endpoints.Host host)) (sends_end plan s i (endpoints.Host host) leads sized w)

pub legal_gate : (plan : Plan) (s : State) (a : Actor) (i : ℕ) (d : GateDecision) → MaySettleGateway plan s a i d → LeadsGate plan.settings d → length s.flow.queues ≡ queue_count plan.settings → Within plan s → Legal plan s (gate_event plan.settings s.flow a i d)
unfolding Legal
legal_gate plan s a i (decisions.Routed at said) may leads sized w =
    (may.decides, may.worker, may.decision.0, subst (λ x. Passes plan s i x (passage_of plan.settings s.flow i said)) may.decision.1 (passes_end plan s i said leads sized w))
legal_gate plan s a i (decisions.Located at said) may leads sized w =
    (may.decides, may.worker, may.decision.0, subst (λ x. GoesBack plan s i x (return_of plan.settings s.flow i said)) may.decision.1 (returns_end plan s i said leads sized w))

-- ---- whose event it is

pub gate_actor : (plan : Plan) (s : State) (a : Actor) (i : ℕ) (d : GateDecision) → a ≡ actor_of (gate_event plan.settings s.flow a i d)
gate_actor plan s a i (decisions.Routed at said) = refl
gate_actor plan s a i (decisions.Located at said) = refl

pub gateway_node : (v : Settings) (a : Actor) → IsGatewayWorker a → IsActor v a → IsNode v (node_of a)
gateway_node v (Gateway g) worker is = is
gateway_node v (Worker h w) worker is = absurd worker
gateway_node v (HostInstall h) worker is = absurd worker
gateway_node v (GateInstall g) worker is = absurd worker
gateway_node v (Coproc h) worker is = absurd worker
gateway_node v Controller worker is = absurd worker
gateway_node v Driver worker is = absurd worker

pub worker_node : (v : Settings) (a : Actor) → IsWorker a → IsActor v a → IsNode v (node_of a)
worker_node v (Worker h w) worker is = is.0
worker_node v (Gateway g) worker is = absurd worker
worker_node v (HostInstall h) worker is = absurd worker
worker_node v (GateInstall g) worker is = absurd worker
worker_node v (Coproc h) worker is = absurd worker
worker_node v Controller worker is = absurd worker
worker_node v Driver worker is = absurd worker

pub gateway_handles : (a : Actor) → IsGatewayWorker a → Handles a
gateway_handles (Gateway g) worker = tt
gateway_handles (Worker h w) worker = absurd worker
gateway_handles (HostInstall h) worker = absurd worker
gateway_handles (GateInstall g) worker = absurd worker
gateway_handles (Coproc h) worker = absurd worker
gateway_handles Controller worker = absurd worker
gateway_handles Driver worker = absurd worker

pub worker_handles : (a : Actor) → IsWorker a → Handles a
worker_handles (Worker h w) worker = tt
worker_handles (Gateway g) worker = absurd worker
worker_handles (HostInstall h) worker = absurd worker
worker_handles (GateInstall g) worker = absurd worker
worker_handles (Coproc h) worker = absurd worker
worker_handles Controller worker = absurd worker
worker_handles Driver worker = absurd worker

pub coproc_handles : (a : Actor) → IsCoprocessor a → Handles a
coproc_handles (Coproc h) is = tt
coproc_handles (Worker h w) is = absurd is
coproc_handles (HostInstall h) is = absurd is
coproc_handles (GateInstall g) is = absurd is
coproc_handles (Gateway g) is = absurd is
coproc_handles Controller is = absurd is
coproc_handles Driver is = absurd is

-- ---- legal at a coprocessor

-- a packet in a coprocessor's hand has a hop left, so its send ends in a queue
pub legal_sealed : (plan : Plan) (s : State) (a : Actor) (i : ℕ) → MaySeal plan s a i → 0 < (carried_at s i).hops → IsNode plan.settings (node_at (carried_at s i).target)
    → length s.flow.queues ≡ queue_count plan.settings → Within plan s → Legal plan s (sealed_event plan.settings s.flow a i)
unfolding Legal
legal_sealed plan s a i may hops there sized w =
    let target = (carried_at s i).target in
    let sends = sends_end plan s i target there sized w in
    (may.actor, may.coprocessor, (may.need, may.holds), (λ e. let none : (carried_at s i).hops ≡ 0 = subst (Sends plan s i target) e sends in omega (arith, none, hops)), sends)
