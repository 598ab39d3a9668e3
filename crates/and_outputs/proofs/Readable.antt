-- Each packet of a sound plan has a frame that is read.
use Rattle.std.proofs.Common.{◌≡◌, ℕ, suc, ◌<◌, ◌≤◌, List, [], ◌∷◌, length, refl, sym, ap, ◌∙◌, subst, arith, Some, IsOk, ⊎_elim}
use Rattle.std.specs.Prelude.{slice_get, unwrap_or}
use Rattle.std.proofs.lemmas.Bool.{cases_eq}
use Rattle.std.proofs.lemmas.Option.{unwrap_or-slice_get}
use Rattle.and_policy.specs.Frames.{fields}
use Rattle.and_events.specs.declared.plan.Packet.{Packet}
use Rattle.and_events.specs.declared.plan.Plan.{Plan}
use Rattle.and_events.specs.declared.plan.Step.{Step}
use Rattle.and_events.specs.declared.plan.Step.TheVariants as steps
use Rattle.and_events.specs.Script.{Script, at_start}
use Rattle.and_events.specs.Sound.{IsSound, IsSent, StepsFit, after_step, sent_after}
use Rattle.and_events.specs.State.{packet_at, no_packet}

pub record IsReadable (packet : Packet) : Type 0 where
  pub read : IsOk (fields packet.taken.frame)

here : (plan : Plan) (p : Script) (i j sent : ℕ) (packet : Packet) → j ≡ sent → i ≡ sent → slice_get plan.packets j ≡ Some packet → IsSent p packet → IsReadable (packet_at plan i)
here plan p i j sent packet at is there sends =
    let same : packet_at plan i ≡ packet = ap (packet_at plan) (is ∙ sym at) ∙ (sym (unwrap_or-slice_get plan.packets j no_packet) ∙ ap (λ o. unwrap_or o no_packet) there) in
    subst IsReadable (sym same) (record { read = subst IsOk (sym sends.frame) refl })

-- those that the steps from here on inject
all_read : (plan : Plan) (p : Script) (sent : ℕ) (ss : List Step) → StepsFit plan p sent ss → (i : ℕ) → sent ≤ i → i < length plan.packets → IsReadable (packet_at plan i)
all_read plan p sent [] f i least most = absurd f
all_read plan p sent (steps.Finish ∷ []) f i least most = absurd (omega (arith, f.packets, least, most))
all_read plan p sent (steps.Finish ∷ next ∷ later) f i least most = absurd f.0
all_read plan p sent (steps.Inject j ∷ later) f i least most =
    ⊎_elim (λ (is : i ≡ sent). here plan p i j sent f.0.1.0 f.0.0 is f.0.1.1 f.0.1.2)
    (λ (other : i ≡ sent → ⊥). all_read plan p (suc sent) later f.1 i (omega (arith, least, other)) most) (cases_eq i sent)
all_read plan p sent (step ∷ later) f i least most = all_read plan (after_step p step) (sent_after sent step) later f.1 i least most

pub is_read : (plan : Plan) → IsSound plan → (i : ℕ) → i < length plan.packets → IsReadable (packet_at plan i)
is_read plan sound i most = all_read plan at_start 0 plan.steps sound.steps i (omega arith) most
