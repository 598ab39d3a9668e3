-- When a packet in hand may be settled: the decision is the policy's, or a coprocessor sends it as it was decided before.
use Rattle.std.specs.Prelude.{◌≡◌, ℕ, Some}
use Rattle.and_policy.specs.declared.decision.Leaving.{Leaving}
use Rattle.and_policy.specs.declared.decision.GateDecision.{GateDecision}
use Rattle.and_policy.specs.declared.decision.GateDecision.TheVariants as decisions
use Rattle.and_policy.specs.declared.decision.Decision.{Decision}
use Rattle.and_policy.specs.declared.decision.Landing.{Landing}
use Rattle.and_policy.specs.declared.decision.Outcome.{Outcome}
use Rattle.and_policy.specs.declared.decision.Outcome.TheVariants as outcomes
use Rattle.and_policy.specs.declared.decision.Way.{Way}
use Rattle.and_policy.specs.declared.port.UsageKey.{UsageKey}
use Rattle.and_policy.specs.Ingress.{landing}
use Rattle.and_policy.specs.Owners.{routed, located}
use Rattle.and_policy.specs.Programmes.{leaving}
use Rattle.and_events.specs.declared.event.Actor.{Actor}
use Rattle.and_events.specs.declared.event.Departure.{Departure}
use Rattle.and_events.specs.declared.event.Departure.TheVariants.{Allowed}
use Rattle.and_events.specs.declared.event.Event.{Event}
use Rattle.and_events.specs.declared.event.Event.TheVariants.{Egress, Ingress, Sealed}
use Rattle.and_events.specs.declared.event.Queue.TheVariants.{Out, Wire, Seal}
use Rattle.and_events.specs.declared.plan.Plan.{Plan}
use Rattle.and_events.specs.declared.plan.Settings.{Settings}
use Rattle.and_events.specs.Flow.{Flow, carried_in, hand_at}
use Rattle.and_events.specs.Places.{hand_place, node_of, IsActor, IsWorker, IsGatewayWorker, IsCoprocessor}
use Rattle.and_events.specs.State.{State, carried_at, packet_at, tuple_at, programme_of, host_of}
use Rattle.and_events.specs.Legal.{Decides, entries_at, IsRouteTarget, IsRedirectTarget}
use Rattle.and_events.specs.Usage.{UsageMove, Unused, Uses}
use Rattle.and_kept.specs.Settling.{arrival_of, departure_of, end_to}

-- the number by which it was decided
abbrev pub gate_number : GateDecision → ℕ
gate_number (decisions.Routed at said) = at
gate_number (decisions.Located at said) = at

-- the packet came for the gateway's route or redirect address, and the decision is the policy's
abbrev pub IsGateDecision : Plan → State → Actor → ℕ → GateDecision → Type 0
IsGateDecision plan s a i (decisions.Routed at said) =
    IsRouteTarget (carried_at s i).target × (said ≡ routed (entries_at plan s a at) (carried_at s i).net (tuple_at plan i).destination)
IsGateDecision plan s a i (decisions.Located at said) =
    IsRedirectTarget (carried_at s i).target × (said ≡ located (entries_at plan s a at) (carried_at s i).net (tuple_at plan i).destination)

-- the gateway worker has the packet in hand, and the decision is the policy's at a number that lies between what was
-- installed at the take and what is announced
pub record MaySettleGateway (plan : Plan) (s : State) (a : Actor) (i : ℕ) (d : GateDecision) : Type 0 where
  pub decides : Decides plan s a i Wire (gate_number d)
  pub worker : IsGatewayWorker a
  pub decision : IsGateDecision plan s a i d

-- ---- at a host, where a packet comes for a VM

-- the policy's word
abbrev pub landing_said : Plan → State → Actor → ℕ → ℕ → Landing
landing_said plan s a i at = landing (entries_at plan s a at) (carried_at s i).net (tuple_at plan i)

-- what a host worker's decision of such a packet does
abbrev pub ingress_event : Plan → State → Actor → ℕ → ℕ → Way → Event
ingress_event plan s a i at way =
    Ingress a i at way (arrival_of plan.settings s.flow s.ports (host_of (node_of a)) (tuple_at plan i) i (landing_said plan s a i at))

-- the host worker has the packet in hand, and the decision is the policy's at a number that lies between what was installed
-- at the take and what is announced
pub record MaySettleIngress (plan : Plan) (s : State) (a : Actor) (i : ℕ) (d : Decision) : Type 0 where
  pub decides : Decides plan s a i Wire d.at
  pub worker : IsWorker a
  pub said : d.outcome ≡ outcomes.Landing (landing_said plan s a i d.at)

-- the outcome is of a packet that has come for a VM
abbrev pub IsLanding : Outcome → Type 0
IsLanding (outcomes.Landing said) = Unit {0}
IsLanding _ = ⊥

-- ---- at a host, where a packet leaves a VM

-- the policy's word
abbrev pub leaving_said : Plan → State → Actor → ℕ → ℕ → Leaving
leaving_said plan s a i at = leaving plan.settings.gateways (programme_of plan s (node_of a)) at (packet_at plan i).vm (tuple_at plan i)

-- what a host worker's decision of such a packet does
abbrev pub egress_event : Plan → State → Actor → ℕ → ℕ → Way → Event
egress_event plan s a i at way = Egress a i at way (departure_of plan.settings s.flow (node_of a) i (leaving_said plan s a i at))

-- the host worker has the packet in hand from `out`, and the decision is the policy's at a number that lies between what was
-- installed at the take and what is announced
pub record MaySettleEgress (plan : Plan) (s : State) (a : Actor) (i : ℕ) (d : Decision) : Type 0 where
  pub decides : Decides plan s a i Out d.at
  pub worker : IsWorker a
  pub said : d.outcome ≡ outcomes.Leaving (leaving_said plan s a i d.at)

-- the outcome is of a packet that leaves a VM
abbrev pub IsLeaving : Outcome → Type 0
IsLeaving (outcomes.Leaving said) = Unit {0}
IsLeaving _ = ⊥

-- what counts as used of a packet of this key and so many bytes
abbrev pub use_of : UsageKey → ℕ → Departure → UsageMove
use_of key bytes (Allowed by sealed dest end) = Uses key bytes
use_of key bytes _ = Unused

-- ---- at a host, where a packet is sealed

-- the coprocessor has the packet in hand from `seal`
pub record MaySeal (plan : Plan) (s : State) (a : Actor) (i : ℕ) : Type 0 where
  pub actor : IsActor plan.settings a
  pub coprocessor : IsCoprocessor a
  pub need : ℕ
  pub holds : hand_at s.flow.hands (hand_place plan.settings a) ≡ Some (record { packet = i; need = need; queue = Seal })

-- its send goes where the packet's egress was decided to lead
abbrev pub sealed_event : Settings → Flow → Actor → ℕ → Event
sealed_event v f a i = Sealed a i (end_to v f i (carried_in f.carried i).target)
