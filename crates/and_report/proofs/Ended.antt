-- Each fate is counted once.
use Rattle.std.proofs.Common.{◌≡◌, ℕ, ◌+◌, true, false, List, [], ◌∷◌, Option, Some, None, refl, ap, sym, ◌∙◌, arith, add-zero}
use Rattle.std.specs.List.{count_by, cons_option}
use Rattle.std.specs.Option.{is_some}
use Rattle.and_events.specs.declared.event.End.{End}
use Rattle.and_events.specs.declared.event.End.TheVariants.{Queued, Full, Hops}
use Rattle.and_events.specs.declared.event.Departure.{Departure}
use Rattle.and_events.specs.declared.event.Departure.TheVariants.{NoVm, Spoofed, Denied, Allowed}
use Rattle.and_events.specs.declared.event.Passage.{Passage}
use Rattle.and_events.specs.declared.event.Passage.TheVariants as passages
use Rattle.and_events.specs.declared.event.Return.{Return}
use Rattle.and_events.specs.declared.event.Return.TheVariants as returns
use Rattle.and_events.specs.declared.event.Arrival.{Arrival}
use Rattle.and_events.specs.declared.event.Arrival.TheVariants as arrivals
use Rattle.and_events.specs.declared.event.Event.{Event}
use Rattle.and_events.specs.declared.event.Event.TheVariants.{Inject, Egress, Sealed, Route, Redirect, Ingress}
use Rattle.and_events.specs.declared.plan.Plan.{Plan}
use Rattle.and_events.specs.State.{State, state}
use Rattle.and_events.specs.Run as runs
use Rattle.and_events.specs.Run.{fate_of}
use Rattle.and_report.specs.declared.fate.Fate.{Fate}
use Rattle.and_report.specs.declared.fate.Fate.TheVariants as fates
use Rattle.and_report.specs.Fates.{end_fate, departure_fate, passage_fate, return_fate, arrival_fate, fate_by, fates_of}
use Rattle.and_report.specs.Report.{is_delivered, is_dropped, is_in_blackout, is_at_full_queue, is_out_of_hops}
use Rattle.and_report.specs.Counts.{one}
use Rattle.and_report.specs.Sums.{is_fate, ended}
use Rattle.and_report.proofs.Counting.{count_next}

-- ---- the five kinds

kinds : Fate → ℕ
kinds f = one (is_delivered f) + one (is_dropped f) + one (is_in_blackout f) + one (is_at_full_queue f) + one (is_out_of_hops f)

one_kind : (f : Fate) → kinds f ≡ 1
unfolding kinds
one_kind (fates.Delivered vm) = refl
one_kind fates.Spoofed = refl
one_kind fates.NoVm = refl
one_kind fates.NoOwner = refl
one_kind (fates.EgressDenied net number) = refl
one_kind (fates.IngressDenied net number) = refl
one_kind (fates.RouteDropped net number) = refl
one_kind fates.InBlackout = refl
one_kind fates.AtFullQueue = refl
one_kind fates.OutOfHops = refl

sum_five : (a b c d e a' b' c' d' e' : ℕ) → (a + a') + (b + b') + (c + c') + (d + d') + (e + e') ≡ (a + b + c + d + e) + (a' + b' + c' + d' + e')
sum_five a b c d e a' b' c' d' e' = omega arith

ended_next : (f : Fate) (fs : List Fate) → ended (f ∷ fs) ≡ ended fs + 1
unfolding kinds
ended_next f fs =
    rw (count_next is_delivered f fs, count_next is_dropped f fs, count_next is_in_blackout f fs, count_next is_at_full_queue f fs, count_next is_out_of_hops f fs)
    (sum_five (count_by is_delivered fs) (count_by is_dropped fs) (count_by is_in_blackout fs) (count_by is_at_full_queue fs) (count_by is_out_of_hops fs) (one (is_delivered f)) (one (is_dropped f))
    (one (is_in_blackout f)) (one (is_at_full_queue f)) (one (is_out_of_hops f)) ∙ ap (λ n. ended fs + n) (one_kind f))

-- ---- the events

at_end : (i : ℕ) (end : End) → is_some (end_fate end) ≡ is_some (runs.end_fate i end)
at_end i Queued = refl
at_end i Full = refl
at_end i Hops = refl

departing : (net i : ℕ) (d : Departure) → is_some (departure_fate net d) ≡ is_some (runs.departure_fate i d)
departing net i NoVm = refl
departing net i Spoofed = refl
departing net i (Denied n) = refl
departing net i (Allowed by sealed dest end) = at_end i end

passing : (net i : ℕ) (p : Passage) → is_some (passage_fate net p) ≡ is_some (runs.passage_fate i p)
passing net i (passages.Dropped by) = refl
passing net i (passages.NoOwner by) = refl
passing net i (passages.Send by to host end) = at_end i end
passing net i (passages.Hops by) = refl

returning : (i : ℕ) (back : Return) → is_some (return_fate back) ≡ is_some (runs.return_fate i back)
returning i returns.NoOwner = refl
returning i (returns.Send host end) = at_end i end
returning i returns.Hops = refl

arriving : (net i : ℕ) (arrival : Arrival) → is_some (arrival_fate net arrival) ≡ is_some (runs.arrival_fate i arrival)
arriving net i arrivals.NoOwner = refl
arriving net i (arrivals.Running vm by pass) = refl
arriving net i (arrivals.Blackout vm) = refl
arriving net i (arrivals.Hairpin vm host end) = at_end i end
arriving net i (arrivals.Absent vm gateway end) = at_end i end

fate_is_fate : (plan : Plan) (s : State) (e : Event) → is_some (fate_by plan s e) ≡ is_fate e
unfolding fate_by fate_of
fate_is_fate plan s (Inject n i true) = refl
fate_is_fate plan s (Inject n i false) = refl
fate_is_fate plan s (Egress a i at way d) = departing _ i d
fate_is_fate plan s (Sealed a i end) = at_end i end
fate_is_fate plan s (Route a i at p) = passing _ i p
fate_is_fate plan s (Redirect a i at back) = returning i back
fate_is_fate plan s (Ingress a i at way arrival) = arriving _ i arrival
fate_is_fate plan s _ = refl

with_fate : (fate : Option Fate) (fs : List Fate) → ended (cons_option fate fs) ≡ ended fs + one (is_some fate)
with_fate None fs = sym (add-zero (ended fs))
with_fate (Some f) fs = ended_next f fs

pub ends_once : (plan : Plan) (h : List Event) → ended (fates_of plan h) ≡ count_by is_fate h
unfolding fates_of
ends_once plan [] = refl
ends_once plan (e ∷ h) =
    with_fate (fate_by plan (state plan h) e) (fates_of plan h) ∙ ap (λ n. n + one (is_some (fate_by plan (state plan h) e))) (ends_once plan h)
    ∙ ap (λ b. count_by is_fate h + one b) (fate_is_fate plan (state plan h) e) ∙ sym (count_next is_fate e h)
