-- The end that is kept is the legal one.
use Rattle.std.proofs.Common.{◌≡◌, ℕ, ◌<◌, ◌≤◌, Bool, true, false, length, refl, sym, subst, arith, leb, ltb}
use Rattle.std.specs.Prelude.{if◌then◌else◌}
use Rattle.std.proofs.lemmas.Bool.{leb-true, leb-false, ltb-true, ltb-false}
use Rattle.and_events.specs.declared.event.End.{End}
use Rattle.and_events.specs.declared.event.End.TheVariants.{Queued, Full, Hops}
use Rattle.and_events.specs.declared.plan.Plan.{Plan}
use Rattle.and_events.specs.Places.{queue_place, queue_count, capacity_at, IsNode}
use Rattle.and_events.specs.Flow.{queue_at, end_at}
use Rattle.and_events.specs.State.{State, node_at, carried_at}
use Rattle.and_events.specs.Legal.{EndsAt, Sends, inject_end}
use Rattle.and_events.specs.declared.event.Node.{Node}
use Rattle.and_events.specs.declared.event.Node.TheVariants.{Host, Gate}
use Rattle.and_events.specs.declared.event.Queue.TheVariants.{Wire}
use Rattle.and_events.specs.declared.event.Endpoint.{Endpoint}
use Rattle.and_events.specs.declared.plan.Settings.{Settings}
use Rattle.and_kept.specs.Settling.{queue_to, end_to}

abbrev pub Within : Plan → State → Type 0
Within plan s = (q : ℕ) → length (queue_at s.flow.queues q) ≤ capacity_at plan.settings q

pub ends_at : (plan : Plan) (s : State) (q : ℕ) → q < length s.flow.queues → Within plan s → EndsAt plan s q (end_at (capacity_at plan.settings q) s.flow.queues q)
ends_at plan s q there w =
    let c = capacity_at plan.settings q in
    let n = length (queue_at s.flow.queues q) in
    elim (leb c n) as (λ b. (leb c n ≡ b → EndsAt plan s q (if b then Full else Queued))) [
      | true ↦ λ e. (there, omega (arith, leb-true c n e, w q))
      | false ↦ λ e. (there, omega (arith, leb-false c n e))
    ] refl

-- an injection ends as its queue has it
pub inject_ends : (plan : Plan) (s : State) (q : ℕ) (full : Bool) → q < length s.flow.queues → Within plan s → (if full then Full else Queued) ≡ end_at (capacity_at plan.settings q) s.flow.queues q → EndsAt plan s q (inject_end full)
inject_ends plan s q true there w e = subst (EndsAt plan s q) (sym e) (ends_at plan s q there w)
inject_ends plan s q false there w e = subst (EndsAt plan s q) (sym e) (ends_at plan s q there w)

-- ---- sends

sends_by : (plan : Plan) (s : State) (i : ℕ) (target : Endpoint) (end : End) → IsNode plan.settings (node_at target) → 0 < (carried_at s i).hops → EndsAt plan s (queue_to plan.settings target) end → Sends plan s i target end
sends_by plan s i target Queued n h e = (h, e, n)
sends_by plan s i target Full n h e = (h, e, n)
sends_by plan s i target Hops n h e = absurd e

wire_within : (v : Settings) (node : Node) → IsNode v node → queue_place v node Wire < queue_count v
wire_within v (Host h) is = omega (arith, is)
wire_within v (Gate g) is = omega (arith, is)

-- a send ends as its queue and the packet's hops have it
pub sends_end : (plan : Plan) (s : State) (i : ℕ) (target : Endpoint) → IsNode plan.settings (node_at target) → length s.flow.queues ≡ queue_count plan.settings → Within plan s → Sends plan s i target (end_to plan.settings s.flow i target)
sends_end plan s i target is sized w =
    let q = queue_to plan.settings target in
    let c = capacity_at plan.settings q in
    let hops = (carried_at s i).hops in
    let end = end_at c s.flow.queues q in
    let there : q < length s.flow.queues = omega (arith, wire_within plan.settings (node_at target) is, sized) in
    elim (ltb 0 hops) as (λ b. (ltb 0 hops ≡ b → Sends plan s i target (if b then end else Hops))) [
      | true ↦ λ e. sends_by plan s i target end is (ltb-true 0 hops e) (ends_at plan s q there w)
      | false ↦ λ e. omega (arith, ltb-false 0 hops e)
    ] refl
