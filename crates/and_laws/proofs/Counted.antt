-- The packets injected so far are as many as the plan's steps so far sent, so they are those below their count.
use Rattle.std.proofs.Common.{◌≡◌, ℕ, suc, true, false, List, [], ◌∷◌, refl, sym, ap, ◌∙◌, arith}
use Rattle.std.specs.Prelude.{nat_lt, is_some}
use Rattle.std.proofs.lemmas.List.Sums.{sum_by-cons}
use Rattle.and_events.specs.declared.event.Event.{Event}
use Rattle.and_events.specs.declared.event.Event.TheVariants.{Append, Review, Hold, Free, Wait, Inject, Blackout, Resume, Finish}
use Rattle.and_events.specs.declared.plan.Step.TheVariants as steps
use Rattle.and_events.specs.declared.plan.Plan.{Plan}
use Rattle.and_events.specs.Sound.{IsSound}
use Rattle.and_events.specs.State.{state, start, after, step_of}
use Rattle.and_events.specs.Legal.{Legal}
use Rattle.and_events.specs.Run.{Run, injected_by}
use Rattle.and_laws.specs.Decided.{AreFirstInjected}
use Rattle.and_laws.specs.Fates.{injection_count}
use Rattle.and_laws.specs.Scripted.{sent_at}
use Rattle.and_laws.proofs.Places.{one_if}
use Rattle.and_laws.proofs.Steps.{does}
use Rattle.and_laws.proofs.Injected.{injected}

-- an event that injects nothing, and one that injects
count_same : (e : Event) (h : List Event) (sent sent' : ℕ) → is_some (injected_by e) ≡ false → sent' ≡ sent → injection_count h ≡ sent → injection_count (e ∷ h) ≡ sent'
count_same e h sent sent' is more c = omega (arith, sum_by-cons (λ (x : Event). one_if (is_some (injected_by x))) e h, ap one_if is, more, c)

count_one : (e : Event) (h : List Event) (sent sent' : ℕ) → is_some (injected_by e) ≡ true → sent' ≡ suc sent → injection_count h ≡ sent → injection_count (e ∷ h) ≡ sent'
count_one e h sent sent' is more c = omega (arith, sum_by-cons (λ (x : Event). one_if (is_some (injected_by x))) e h, ap one_if is, more, c)

as_many : (plan : Plan) (h : List Event) → IsSound plan → Run plan h → injection_count h ≡ sent_at plan h
unfolding Run Legal state start after step_of injected_by
as_many plan [] sound r = refl
as_many plan (Append n ∷ h) sound r = count_same (Append n) h _ _ refl (does plan h n (steps.Append r.1.0) sound r.1.1.0 r.1.1.1).sent (as_many plan h sound r.0)
as_many plan (Review n ∷ h) sound r = count_same (Review n) h _ _ refl (does plan h n steps.Review sound r.1.0 r.1.1).sent (as_many plan h sound r.0)
as_many plan (Hold n ∷ h) sound r = count_same (Hold n) h _ _ refl (does plan h n (steps.Hold r.1.0 r.1.1) sound r.1.2.0 r.1.2.1).sent (as_many plan h sound r.0)
as_many plan (Free n ∷ h) sound r = count_same (Free n) h _ _ refl (does plan h n (steps.Free r.1.0 r.1.1) sound r.1.2.0 r.1.2.1).sent (as_many plan h sound r.0)
as_many plan (Wait n ∷ h) sound r = count_same (Wait n) h _ _ refl (does plan h n steps.Wait sound r.1.0 r.1.1).sent (as_many plan h sound r.0)
as_many plan (Inject n j full ∷ h) sound r = count_one (Inject n j full) h _ _ refl (does plan h n (steps.Inject j) sound r.1.0.0 r.1.0.1).sent (as_many plan h sound r.0)
as_many plan (Blackout n ∷ h) sound r = count_same (Blackout n) h _ _ refl (does plan h n (steps.Blackout r.1.0 r.1.1) sound r.1.2.0 r.1.2.1).sent (as_many plan h sound r.0)
as_many plan (Resume n ∷ h) sound r = count_same (Resume n) h _ _ refl (does plan h n (steps.Resume r.1.0) sound r.1.1.0 r.1.1.1).sent (as_many plan h sound r.0)
as_many plan (Finish n ∷ h) sound r = count_same (Finish n) h _ _ refl (does plan h n steps.Finish sound r.1.0 r.1.1).sent (as_many plan h sound r.0)
as_many plan (e ∷ h) sound r = count_same e h _ _ refl refl (as_many plan h sound r.0)

pub first_injected : (plan : Plan) (h : List Event) → IsSound plan → Run plan h → AreFirstInjected h
first_injected plan h sound r i =
    (injected plan h sound r).counts i ∙ ap (λ n. one_if (nat_lt i n)) (sym (as_many plan h sound r))
