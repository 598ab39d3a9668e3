-- A run of a sound plan injects the plan's packets in their order, each at most once.
use Rattle.std.proofs.Common.{◌≡◌, ℕ, suc, ◌+◌, ◌<◌, ◌≤◌, ◌==◌, List, [], ◌∷◌, length, refl, sym, ap, ◌∙◌, arith, Some}
use Rattle.std.specs.Prelude.{nat_lt, slice_get}
use Rattle.std.proofs.lemmas.Option.{slice_get_within}
use Rattle.std.proofs.lemmas.Grind.{common_steps}
use Rattle.and_events.specs.declared.event.Event.{Event}
use Rattle.and_events.specs.declared.event.Event.TheVariants.{Append, Review, Hold, Free, Wait, Inject, Blackout, Resume, Finish}
use Rattle.and_events.specs.declared.plan.Step.TheVariants as steps
use Rattle.and_events.specs.declared.plan.Packet.{Packet}
use Rattle.and_events.specs.declared.plan.Plan.{Plan}
use Rattle.and_events.specs.Sound.{IsSound}
use Rattle.and_events.specs.State.{state, start, after, step_of}
use Rattle.and_events.specs.Legal.{Legal}
use Rattle.and_events.specs.Run.{Run, injections, injected_by}
use Rattle.and_laws.specs.Fates.{IsInjectedOnce, HasOneFateOrPlace}
use Rattle.and_laws.specs.Scripted.{sent_at}
use Rattle.and_laws.proofs.Places.{one_if}
use Rattle.and_laws.proofs.Steps.{does}
use Rattle.and_laws.proofs.Fates.{each_has_one}

-- the packets below a number were injected, each once
pub record Sent (plan : Plan) (injected : ℕ → ℕ) (sent : ℕ) : Type 0 where
  pub counts : (i : ℕ) → injected i ≡ one_if (nat_lt i sent)
  pub most : sent ≤ length plan.packets

none_sent : (plan : Plan) → Sent plan (λ i. 0) 0
none_sent plan = record { counts = λ i. grind (arith, common_steps); most = omega arith }

-- an event that injects nothing
same_sent : (plan : Plan) (injected : ℕ → ℕ) (sent sent' : ℕ) → sent' ≡ sent → Sent plan injected sent → Sent plan (λ i. 0 + injected i) sent'
same_sent plan injected sent sent' e s =
    record { counts = λ i. (omega arith) ∙ s.counts i ∙ ap (λ x. one_if (nat_lt i x)) (sym e); most = omega (arith, e, s.most) }

counted : (i j n sent sent' : ℕ) → j ≡ sent → sent' ≡ suc sent → n ≡ one_if (nat_lt i sent) → one_if (j == i) + n ≡ one_if (nat_lt i sent')
counted i j n sent sent' at more c = grind (arith, common_steps)

-- an injection of the next packet
one_sent : (plan : Plan) (injected : ℕ → ℕ) (sent sent' j : ℕ) (packet : Packet) → j ≡ sent → slice_get plan.packets j ≡ Some packet → sent' ≡ suc sent → Sent plan injected sent → Sent plan (λ i. one_if (j == i) + injected i) sent'
one_sent plan injected sent sent' j packet at there more s =
    record {
      counts = λ i. counted i j (injected i) sent sent' at more (s.counts i);
      most = omega (arith, slice_get_within plan.packets j packet there, at, more);
    }

pub injected : (plan : Plan) (h : List Event) → IsSound plan → Run plan h → Sent plan (injections h) (sent_at plan h)
unfolding Run Legal state start after step_of injections injected_by
injected plan [] sound r = none_sent plan
injected plan (Append n ∷ h) sound r = same_sent plan _ _ _ (does plan h n (steps.Append r.1.0) sound r.1.1.0 r.1.1.1).sent (injected plan h sound r.0)
injected plan (Review n ∷ h) sound r = same_sent plan _ _ _ (does plan h n steps.Review sound r.1.0 r.1.1).sent (injected plan h sound r.0)
injected plan (Hold n ∷ h) sound r = same_sent plan _ _ _ (does plan h n (steps.Hold r.1.0 r.1.1) sound r.1.2.0 r.1.2.1).sent (injected plan h sound r.0)
injected plan (Free n ∷ h) sound r = same_sent plan _ _ _ (does plan h n (steps.Free r.1.0 r.1.1) sound r.1.2.0 r.1.2.1).sent (injected plan h sound r.0)
injected plan (Wait n ∷ h) sound r = same_sent plan _ _ _ (does plan h n steps.Wait sound r.1.0 r.1.1).sent (injected plan h sound r.0)
injected plan (Inject n j full ∷ h) sound r =
    let d = does plan h n (steps.Inject j) sound r.1.0.0 r.1.0.1 in
    one_sent plan _ _ _ j d.fits.1.0 d.fits.0 d.fits.1.1 d.sent (injected plan h sound r.0)
injected plan (Blackout n ∷ h) sound r = same_sent plan _ _ _ (does plan h n (steps.Blackout r.1.0 r.1.1) sound r.1.2.0 r.1.2.1).sent (injected plan h sound r.0)
injected plan (Resume n ∷ h) sound r = same_sent plan _ _ _ (does plan h n (steps.Resume r.1.0) sound r.1.1.0 r.1.1.1).sent (injected plan h sound r.0)
injected plan (Finish n ∷ h) sound r = same_sent plan _ _ _ (does plan h n steps.Finish sound r.1.0 r.1.1).sent (injected plan h sound r.0)
injected plan (e ∷ h) sound r = same_sent plan _ _ _ refl (injected plan h sound r.0)

-- ---- each packet at most once

one_or_none : (i n sent : ℕ) → n ≡ one_if (nat_lt i sent) → n ≤ 1
one_or_none i n sent e = grind (arith, common_steps)

pub below : (i n sent : ℕ) → n ≡ one_if (nat_lt i sent) → 0 < n → i < sent
below i n sent e some = grind (arith, common_steps)

pub injected_once : (plan : Plan) (h : List Event) → IsSound plan → Run plan h → IsInjectedOnce plan h
injected_once plan h sound r =
    let s = injected plan h sound r in
    record {
      once = λ i. one_or_none i (injections h i) (sent_at plan h) (s.counts i);
      known = λ i some. omega (arith, below i (injections h i) (sent_at plan h) (s.counts i) some, s.most);
    }

pub one_together : (plan : Plan) (h : List Event) → IsSound plan → Run plan h → HasOneFateOrPlace plan h
one_together plan h sound r i some = omega (arith, each_has_one plan h r i, (injected_once plan h sound r).once i)
