-- A complete run gives each packet of the plan its one fate.
use Rattle.std.proofs.Common.{◌≡◌, ℕ, ◌<◌, ◌≤◌, ◌==◌, List, [], ◌∷◌, length, refl, sym, ap, subst, arith, None}
use Rattle.std.specs.Prelude.{nat_lt}
use Rattle.std.specs.List.{sum_by, count_by, All, AllByRecursion}
use Rattle.std.proofs.lemmas.Grind.{common_steps}
use Rattle.std.proofs.lemmas.List.Sums.{sum_by-cons}
use Rattle.std.proofs.lemmas.List.Elements.{recursion_from_All}
use Rattle.and_events.specs.declared.event.Event.{Event}
use Rattle.and_events.specs.declared.event.Event.TheVariants.{Finish}
use Rattle.and_events.specs.declared.plan.Step.TheVariants as steps
use Rattle.and_events.specs.declared.plan.Plan.{Plan}
use Rattle.and_events.specs.Flow.{Flow, flow_after, placed, has_packet}
use Rattle.and_events.specs.Sound.{IsSound}
use Rattle.and_events.specs.State.{state, after, move_of}
use Rattle.and_events.specs.Legal.{Legal}
use Rattle.and_events.specs.Run.{Run, injections, injected_by, places}
use Rattle.and_events.specs.Complete.{IsComplete}
use Rattle.and_laws.specs.Fates.{HasOneFate}
use Rattle.and_laws.specs.Scripted.{sent_at}
use Rattle.and_laws.proofs.Places.{one_if}
use Rattle.and_laws.proofs.Fates.{each_has_one}
use Rattle.and_laws.proofs.Steps.{does}
use Rattle.and_laws.proofs.Injected.{injected}

sum_none : {X : Type 0} (f : X → ℕ) (xs : List X) → AllByRecursion (λ x. f x ≡ 0) xs → sum_by f xs ≡ 0
sum_none f [] a = refl
sum_none f (x ∷ xs) a = omega (arith, sum_by-cons f x xs, sum_none f xs a.1, a.0)

placed_nowhere : (i : ℕ) (f : Flow) → All (λ q. q ≡ []) f.queues → All (λ h. h ≡ None) f.hands → placed i f ≡ 0
placed_nowhere i f queues hands =
    omega (
      arith,
      sum_none (λ xs. count_by (λ x. x == i) xs) f.queues (recursion_from_All _ f.queues (λ k d l. ap (λ xs. count_by (λ x. x == i) xs) (queues k d l))),
      sum_none (λ o. one_if (has_packet i o)) f.hands (recursion_from_All _ f.hands (λ k d l. ap (λ o. one_if (has_packet i o)) (hands k d l))),
    )

-- after Finish no packet has a place, and all of the plan's were injected
placed_at_end : (plan : Plan) (h : List Event) (n i : ℕ) → Run plan (Finish n ∷ h) → places plan (Finish n ∷ h) i ≡ 0
unfolding Run Legal state after move_of flow_after
placed_at_end plan h n i r = placed_nowhere i (state plan h).flow r.1.2.queues r.1.2.hands

sent_at_end : (plan : Plan) (h : List Event) (n : ℕ) → IsSound plan → Run plan (Finish n ∷ h) → sent_at plan h ≡ length plan.packets
unfolding Run Legal
sent_at_end plan h n sound r = (does plan h n steps.Finish sound r.1.0 r.1.1).fits.packets

injected_at_end : (plan : Plan) (h : List Event) (n i : ℕ) → IsSound plan → Run plan (Finish n ∷ h) → injections (Finish n ∷ h) i ≡ one_if (nat_lt i (length plan.packets))
unfolding Run injections injected_by
injected_at_end plan h n i sound r =
    let before = (injected plan h sound r.0).counts i in
    let all = ap (λ sent. one_if (nat_lt i sent)) (sent_at_end plan h n sound r) in
    omega (arith, before, all)

one_within : (i n sent : ℕ) → n ≡ one_if (nat_lt i sent) → i < sent → n ≡ 1
one_within i n sent e within = grind (arith, common_steps)

none_past : (i n sent : ℕ) → n ≡ one_if (nat_lt i sent) → sent ≤ i → n ≡ 0
none_past i n sent e past = grind (arith, common_steps)

one_at_end : (plan : Plan) (h : List Event) (n : ℕ) → IsSound plan → Run plan (Finish n ∷ h) → HasOneFate plan (Finish n ∷ h)
one_at_end plan h n sound r =
    let k : ℕ → ℕ = injections (Finish n ∷ h) in
    record {
      one = λ i within.
          omega (arith, each_has_one plan (Finish n ∷ h) r i, placed_at_end plan h n i r, one_within i (k i) (length plan.packets) (injected_at_end plan h n i sound r) within);
      no_other = λ i past.
          omega (arith, each_has_one plan (Finish n ∷ h) r i, placed_at_end plan h n i r, none_past i (k i) (length plan.packets) (injected_at_end plan h n i sound r) past);
    }

pub one_fate : (plan : Plan) (h : List Event) → IsSound plan → Run plan h → IsComplete plan h → HasOneFate plan h
one_fate plan h sound r (n, earlier, is, all) =
    subst (λ h. Run plan h → HasOneFate plan h) (sym is) (one_at_end plan earlier n sound) r
