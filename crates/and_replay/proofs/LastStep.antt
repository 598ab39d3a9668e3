-- Which step of a plan is the last, and what a run is that has done it.
use Rattle.std.proofs.Common.{◌≡◌, ℕ, zero, suc, ◌+◌, ◌<◌, List, [], ◌∷◌, length, refl, sym, ap, subst, arith, Some, None}
use Rattle.std.specs.Prelude.{slice_get}
use Rattle.and_events.specs.declared.event.Event.{Event}
use Rattle.and_events.specs.declared.event.Event.TheVariants.{Append, Review, Hold, Free, Wait, Inject, Blackout, Resume, Finish}
use Rattle.and_events.specs.declared.plan.Plan.{Plan}
use Rattle.and_events.specs.declared.plan.Step.{Step}
use Rattle.and_events.specs.declared.plan.Step.TheVariants as steps
use Rattle.and_events.specs.Complete.{IsComplete}
use Rattle.and_events.specs.Legal.{Legal}
use Rattle.and_events.specs.Run.{Run}
use Rattle.and_events.specs.Script.{Script, at_start}
use Rattle.and_events.specs.Sound.{IsSound, StepsFit, after_step, sent_after}
use Rattle.and_events.specs.State.{state, after, step_of}

NotFinish : Step → Type 0
NotFinish steps.Finish = ⊥
NotFinish _ = Unit {0}

-- Finish alone is the last step
not_last : (plan : Plan) (p : Script) (sent : ℕ) (ss : List Step) (n : ℕ) (step : Step) → StepsFit plan p sent ss → slice_get ss n ≡ Some step → NotFinish step → n + 1 < length ss
unfolding NotFinish
not_last plan p sent [] n step f told other = absurd f
not_last plan p sent (steps.Finish ∷ []) zero step f told other = absurd (let same : steps.Finish ≡ step = cc in subst NotFinish (sym same) other)
not_last plan p sent (steps.Finish ∷ []) (suc n) step f told other = absurd (let nothing : None ≡ Some step = told in cc)
not_last plan p sent (steps.Finish ∷ next ∷ later) n step f told other = absurd f.0
not_last plan p sent (first ∷ []) n step f told other = absurd f.1
not_last plan p sent (first ∷ next ∷ later) zero step f told other = omega arith
not_last plan p sent (first ∷ next ∷ later) (suc n) step f told other =
    omega (arith, not_last plan (after_step p first) (sent_after sent first) (next ∷ later) n step f.1 told other)

-- where an event does the last step, it is Finish
ends_by : (plan : Plan) (h : List Event) (e : Event) → IsSound plan → Legal plan (state plan h) e → (state plan h).next < length plan.steps → (after plan (state plan h) e).next ≡ length plan.steps → (n : ℕ) × (e ≡ Finish n)
unfolding Legal after step_of NotFinish
ends_by plan h (Append n) sound (entry, (is, told, can)) l done = absurd (omega (arith, is, done, not_last plan at_start 0 plan.steps n (steps.Append entry) sound.steps told tt))
ends_by plan h (Review n) sound (is, told, can) l done = absurd (omega (arith, is, done, not_last plan at_start 0 plan.steps n steps.Review sound.steps told tt))
ends_by plan h (Hold n) sound (node, what, (is, told, can)) l done = absurd (omega (arith, is, done, not_last plan at_start 0 plan.steps n (steps.Hold node what) sound.steps told tt))
ends_by plan h (Free n) sound (node, what, (is, told, can)) l done = absurd (omega (arith, is, done, not_last plan at_start 0 plan.steps n (steps.Free node what) sound.steps told tt))
ends_by plan h (Wait n) sound (is, told, can) l done = absurd (omega (arith, is, done, not_last plan at_start 0 plan.steps n steps.Wait sound.steps told tt))
ends_by plan h (Inject n i full) sound ((is, told, can), ends) l done = absurd (omega (arith, is, done, not_last plan at_start 0 plan.steps n (steps.Inject i) sound.steps told tt))
ends_by plan h (Blackout n) sound (vm, host, (is, told, can)) l done = absurd (omega (arith, is, done, not_last plan at_start 0 plan.steps n (steps.Blackout vm host) sound.steps told tt))
ends_by plan h (Resume n) sound (vm, (is, told, can)) l done = absurd (omega (arith, is, done, not_last plan at_start 0 plan.steps n (steps.Resume vm) sound.steps told tt))
ends_by plan h (Finish n) sound legal l done = (n, refl)
ends_by plan h e sound legal l done = absurd (omega (arith, l, done))

pub completes : (plan : Plan) (h : List Event) (e : Event) → IsSound plan → Run plan (e ∷ h) → (state plan h).next < length plan.steps → (state plan (e ∷ h)).next ≡ length plan.steps → IsComplete plan (e ∷ h)
unfolding Run state
completes plan h e sound r l done =
    let last = ends_by plan h e sound r.1 l done in
    (last.0, h, ap (λ x. x ∷ h) last.1, done)
