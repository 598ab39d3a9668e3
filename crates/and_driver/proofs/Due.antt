-- The step that is due in a run: its packet, and what its condition says.
use Rattle.std.proofs.Common.{◌≡◌, ℕ, ◌<◌, List, length, refl, sym, ap, ◌∙◌, subst, Some, IsOk}
use Rattle.std.specs.Prelude.{slice_get, slice_index_or, unwrap_or}
use Rattle.std.proofs.lemmas.Option.{unwrap_or-slice_get, slice_get_within}
use Rattle.and_policy.specs.Frames.{fields}
use Rattle.and_events.specs.declared.event.Event.{Event}
use Rattle.and_events.specs.declared.plan.Packet.{Packet}
use Rattle.and_events.specs.declared.plan.Plan.{Plan}
use Rattle.and_events.specs.declared.plan.Step.TheVariants as steps
use Rattle.and_events.specs.declared.event.Actor.TheVariants.{Controller, Driver}
use Rattle.and_events.specs.declared.event.Node.{Node}
use Rattle.and_events.specs.declared.plan.What.{What}
use Rattle.and_events.specs.Legal.{Enabled, CanHold, CanStep, IsRipe, KnowsVm}
use Rattle.and_events.specs.Sound.{IsSound}
use Rattle.and_events.specs.State.{State, state, packet_at, no_packet}
use Rattle.and_laws.proofs.Steps.{does}

pub record Due (plan : Plan) (i : ℕ) : Type 0 where
  pub within : i < length plan.packets
  pub read : IsOk (fields (slice_index_or plan.packets i no_packet).taken.frame)

pub due_packet : (plan : Plan) (h : List Event) (i : ℕ) → IsSound plan → slice_get plan.steps (state plan h).next ≡ Some (steps.Inject i) → Due plan i
due_packet plan h i sound told =
    let d = (does plan h (state plan h).next (steps.Inject i) sound refl told).fits in
    let packet = d.1.0 in
    let there : packet_at plan i ≡ packet = sym (unwrap_or-slice_get plan.packets i no_packet) ∙ ap (λ o. unwrap_or o no_packet) d.1.1 in
    record {
      within = slice_get_within plan.packets i packet d.1.1;
      read = subst (λ (p : Packet). IsOk (fields p.taken.frame)) (sym there) (subst IsOk (sym d.1.2.frame) refl);
    }

-- where the driver may act, what the step that is due holds may be held
pub can_hold : (plan : Plan) (s : State) → Enabled plan s Driver → (node : Node) (what : What) → slice_get plan.steps s.next ≡ Some (steps.Hold node what) → CanHold plan s node what
can_hold plan s (step, told, can) node what due =
    let both : Some step ≡ Some (steps.Hold node what) = sym told ∙ due in
    let same : step ≡ steps.Hold node what = cc in subst (CanStep plan s) same can

-- where the driver may act, the host to which the step that is due takes a VM knows the VM
pub can_come : (plan : Plan) (s : State) → Enabled plan s Driver → (vm host : ℕ) → slice_get plan.steps s.next ≡ Some (steps.Blackout vm host) → KnowsVm plan s host vm
can_come plan s (step, told, can) vm host due =
    let both : Some step ≡ Some (steps.Blackout vm host) = sym told ∙ due in
    let same : step ≡ steps.Blackout vm host = cc in subst (CanStep plan s) same can

-- where no hairpin may end, the controller may not act
pub no_end : (plan : Plan) (s : State) → ((host vm : ℕ) → IsRipe plan s host vm → ⊥) → Enabled plan s Controller → ⊥
no_end plan s none (host, vm, ripe) = none host vm ripe
