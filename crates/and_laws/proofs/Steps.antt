-- Each step of a sound plan fits the plain state that the steps before it give.
use Rattle.std.proofs.Common.{◌≡◌, ℕ, zero, suc, ◌+◌, ◌<◌, List, [], ◌∷◌, length, take, ap, ◌∙◌, subst, Option, Some, None, add-one}
use Rattle.std.specs.Prelude.{slice_get}
use Rattle.std.proofs.lemmas.Option.{slice_get_within}
use Rattle.and_events.specs.declared.event.Event.{Event}
use Rattle.and_events.specs.declared.plan.Step.{Step}
use Rattle.and_events.specs.declared.plan.Step.TheVariants as steps
use Rattle.and_events.specs.declared.plan.Plan.{Plan}
use Rattle.and_events.specs.Script.{Script, at_start}
use Rattle.and_events.specs.Sound.{IsSound, StepsFit, StepFits, EndsWell, after_step, sent_after}
use Rattle.and_events.specs.State.{state}
use Rattle.and_laws.specs.Scripted.{script_after_steps, sent_after_steps, script_at, sent_at}

-- what a plan says of a step in its place
abbrev pub FitsAt : Plan → Script → ℕ → Option Step → Type 0
FitsAt plan p sent None = Unit {0}
FitsAt plan p sent (Some steps.Finish) = EndsWell plan p sent
FitsAt plan p sent (Some step) = StepFits plan p sent step

abbrev NotFinish : Step → Type 0
NotFinish steps.Finish = ⊥
NotFinish _ = Unit {0}

first_fits : (plan : Plan) (p : Script) (sent : ℕ) (step : Step) (later : List Step) → NotFinish step → StepsFit plan p sent (step ∷ later) → FitsAt plan p sent (Some step) × StepsFit plan (after_step p step) (sent_after sent step) later
first_fits plan p sent steps.Finish later n f = absurd n
first_fits plan p sent step later n f = f

fits : (plan : Plan) (p : Script) (sent : ℕ) (ss : List Step) → StepsFit plan p sent ss → (n : ℕ) → FitsAt plan (script_after_steps p (take n ss)) (sent_after_steps sent (take n ss)) (slice_get ss n)
fits plan p sent [] f n = absurd f
fits plan p sent (steps.Finish ∷ []) f zero = f
fits plan p sent (steps.Finish ∷ []) f (suc n) = tt
fits plan p sent (steps.Finish ∷ other ∷ later) f n = absurd f.0
fits plan p sent (step ∷ later) f zero = f.0
fits plan p sent (step ∷ later) f (suc n) = fits plan (after_step p step) (sent_after sent step) later f.1 n

script_one_more : (ss : List Step) (n : ℕ) (p : Script) (step : Step) → slice_get ss n ≡ Some step → script_after_steps p (take (suc n) ss) ≡ after_step (script_after_steps p (take n ss)) step
script_one_more [] n p step e = cc
script_one_more (x ∷ ss) zero p step e = cc
script_one_more (x ∷ ss) (suc n) p step e = script_one_more ss n (after_step p x) step e

sent_one_more : (ss : List Step) (n sent : ℕ) (step : Step) → slice_get ss n ≡ Some step → sent_after_steps sent (take (suc n) ss) ≡ sent_after (sent_after_steps sent (take n ss)) step
sent_one_more [] n sent step e = cc
sent_one_more (x ∷ ss) zero sent step e = cc
sent_one_more (x ∷ ss) (suc n) sent step e = sent_one_more ss n (sent_after sent x) step e

-- ---- the step of an event

-- the step is the next one of the plan, fits there, and leads to the plain state after the event
pub record Does (plan : Plan) (h : List Event) (step : Step) (next : ℕ) : Type 0 where
  pub fits : FitsAt plan (script_at plan h) (sent_at plan h) (Some step)
  pub within : (state plan h).next < length plan.steps
  pub script : script_after_steps at_start (take next plan.steps) ≡ after_step (script_at plan h) step
  pub sent : sent_after_steps 0 (take next plan.steps) ≡ sent_after (sent_at plan h) step

pub does : (plan : Plan) (h : List Event) (n : ℕ) (step : Step) → IsSound plan → n ≡ (state plan h).next → slice_get plan.steps n ≡ Some step → Does plan h step ((state plan h).next + 1)
does plan h n step sound is told =
    let next = (state plan h).next in
    let there : slice_get plan.steps next ≡ Some step = subst (λ x. slice_get plan.steps x ≡ Some step) is told in
    record {
      fits = subst (λ o. FitsAt plan (script_at plan h) (sent_at plan h) o) there (fits plan at_start 0 plan.steps sound.steps next);
      within = slice_get_within plan.steps next step there;
      script = ap (λ x. script_after_steps at_start (take x plan.steps)) (add-one next) ∙ script_one_more plan.steps next at_start step there;
      sent = ap (λ x. sent_after_steps 0 (take x plan.steps)) (add-one next) ∙ sent_one_more plan.steps next 0 step there;
    }
