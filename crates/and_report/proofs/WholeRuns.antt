-- What the numbers of a whole run's report add up to.
use Rattle.std.specs.Prelude.{nat_lt, if◌then◌else◌}
use Rattle.std.specs.List.{sum_by, count_by, All, AllByRecursion}
use Rattle.std.specs.Option.{is_some}
use Rattle.std.proofs.Common.{◌≡◌, ℕ, ◌+◌, ◌<◌, ◌≤◌, Bool, true, false, List, [], ◌∷◌, length, None, refl, sym, ap, ◌∙◌, arith}
use Rattle.std.proofs.lemmas.Grind.{common_steps}
use Rattle.std.proofs.lemmas.List.Elements.{recursion_from_All}
use Rattle.std.proofs.lemmas.List.Sums.{sum_by-cons}
use Rattle.and_events.specs.declared.event.Event.{Event}
use Rattle.and_events.specs.declared.plan.Plan.{Plan}
use Rattle.and_events.specs.Complete.{IsComplete}
use Rattle.and_events.specs.Run.{Run, injections}
use Rattle.and_events.specs.Sound.{IsSound}
use Rattle.and_events.specs.State.{state}
use Rattle.and_laws.specs.Fates.{injection_count, queued_count, in_hand_count}
use Rattle.and_laws.proofs.AllDone.{all_done}
use Rattle.and_laws.proofs.Complete.{one_fate}
use Rattle.and_laws.proofs.Counted.{first_injected}
use Rattle.and_laws.proofs.Fates.{accounted, each_has_one}
use Rattle.and_laws.proofs.Injected.{injected_once}
use Rattle.and_report.specs.Sums.{ended}
use Rattle.and_report.specs.Counts.{one}
use Rattle.and_report.specs.Fates.{fates_of}
use Rattle.and_report.proofs.Counting.{count_next}
use Rattle.and_report.proofs.Ended.{ends_once}

sum_none : {X : Type 0} (f : X → ℕ) (xs : List X) → AllByRecursion (λ x. f x ≡ 0) xs → sum_by f xs ≡ 0
sum_none f [] a = refl
sum_none f (x ∷ xs) a = omega (arith, sum_by-cons f x xs, sum_none f xs a.1, a.0)

count_none : {X : Type 0} (p : X → Bool) (xs : List X) → AllByRecursion (λ x. p x ≡ false) xs → count_by p xs ≡ 0
count_none p [] a = refl
count_none p (x ∷ xs) a = count_next p x xs ∙ omega (arith, count_none p xs a.1, ap one a.0)

-- at the end no packet is queued or in hand
none_left : (plan : Plan) (h : List Event) → IsSound plan → Run plan h → IsComplete plan h
    → queued_count (state plan h).flow + in_hand_count (state plan h).flow ≡ 0
none_left plan h sound r all =
    let over = (all_done plan h sound r all).over in
    omega (
      arith,
      sum_none length (state plan h).flow.queues (recursion_from_All _ (state plan h).flow.queues (λ k d l. ap length (over.queues k d l))),
      count_none is_some (state plan h).flow.hands (recursion_from_All _ (state plan h).flow.hands (λ k d l. ap is_some (over.hands k d l))),
    )

none_past : (i k count : ℕ) → k ≡ (if nat_lt i count then 1 else 0) → count ≤ i → k ≡ 0
none_past i k count e past = grind (arith, common_steps)

one_below : (i k count : ℕ) → k ≡ (if nat_lt i count then 1 else 0) → i < count → k ≡ 1
one_below i k count e less = grind (arith, common_steps)

not_above : (a b : ℕ) (less : Bool) → nat_lt b a ≡ less → (b < a → ⊥) → a ≤ b
not_above a b true is fails = let above : b < a = grind (arith, common_steps) in absurd (fails above)
not_above a b false is fails = grind (arith, common_steps)

-- the packets below the count are the injected ones, and those of the plan: so there are as many
as_many : (n count : ℕ) (k : ℕ → ℕ) → ((i : ℕ) → k i ≡ (if nat_lt i count then 1 else 0)) → ((i : ℕ) → i < n → 0 < k i) → ((i : ℕ) → 0 < k i → i < n)
    → count ≡ n
as_many n count k each all known =
    let most : n ≤ count = not_above n count (nat_lt count n) refl (λ less.
    let none : k count ≡ 0 = none_past count (k count) count (each count) (omega arith) in
    let some : 0 < k count = all count less in
    omega (arith, none, some)) in
    let least : count ≤ n = not_above count n (nat_lt n count) refl (λ less.
    let one : k n ≡ 1 = one_below n (k n) count (each n) less in
    let below : n < n = known n (omega (arith, one)) in
    omega (arith, below)) in
    omega (arith, most, least)

all_injected : (plan : Plan) (h : List Event) → IsSound plan → Run plan h → IsComplete plan h → injection_count h ≡ length plan.packets
all_injected plan h sound r all =
    let one = one_fate plan h sound r all in
    let once = injected_once plan h sound r in
    as_many (length plan.packets) (injection_count h) (injections h) (first_injected plan h sound r)
    (λ i less. omega (arith, one.one i less, each_has_one plan h r i)) once.known

-- the report's packets of a whole run: each was delivered or dropped, or is lost
pub all_end : (plan : Plan) (h : List Event) → IsSound plan → Run plan h → IsComplete plan h → length plan.packets ≡ ended (fates_of plan h)
all_end plan h sound r all =
    omega (arith, all_injected plan h sound r all, accounted plan h r, none_left plan h sound r all, ends_once plan h)
