-- Totals with one event more; and the text of the report, part by part.
use Rattle.std.proofs.Common.{◌≡◌, ℕ, zero, suc, List, ◌∷◌, ◌++◌, length, get_or, replicate, Option, refl, ap, sym, subst, ◌∙◌}
use Rattle.std.specs.List.{cons_option, flat_map}
use Rattle.and_events.specs.declared.event.Event.{Event}
use Rattle.and_events.specs.declared.plan.Plan.{Plan}
use Rattle.and_events.specs.State.{state}
use Rattle.and_report.specs.declared.fate.Fate.{Fate}
use Rattle.and_report.specs.declared.totals.Totals.{Totals}
use Rattle.and_report.specs.Fates.{fate_by, fates_of}
use Rattle.and_report.specs.Report.{title, all_rows, some_rows, head_rows, skip_rows, drop_lines, item_line, vm_lines, text_of}
use Rattle.and_report.specs.Tally.{Tally, tally}
use Rattle.and_report.specs.Counts.{with_event, traffic_of}
use Rattle.and_report.specs.Totals.{AreFateTotals, AreTotals, IsTraffic}
use Rattle.and_report.proofs.Counting.{traffic_next, sends_are}

pub zero_at : (n i : ℕ) → let none : ℕ = 0 in get_or (replicate n none) i none ≡ none
zero_at zero i = refl
zero_at (suc n) zero = refl
zero_at (suc n) (suc i) = zero_at n i

-- an event that is a fate, or is none
pub totals_next : (plan : Plan) (h : List Event) (e : Event) (t u : Totals) (fate : Option Fate) → fate ≡ fate_by plan (state plan h) e → u.traffic ≡ with_event t.traffic e
    → AreFateTotals (cons_option fate (fates_of plan h)) u.fates → length u.fates.received.items ≡ length t.fates.received.items → AreTotals plan h t → AreTotals plan (e ∷ h) u
unfolding fates_of
totals_next plan h e t u fate is traffic fates names was =
    record {
      traffic = traffic ∙ ap (λ c. with_event c e) was.traffic ∙ sym (traffic_next e h);
      fates = subst (λ (f : Option Fate). AreFateTotals (cons_option f (fates_of plan h)) u.fates) is fates;
      names = names ∙ was.names;
    }

-- the counts of events are the tally's
pub traffic_is : (plan : Plan) (h : List Event) (t : Totals) → AreTotals plan h t → IsTraffic (tally plan h) t.traffic
traffic_is plan h t are =
    let is : t.traffic ≡ traffic_of h = are.traffic in
    (ap (λ c. c.sends) is ∙ sends_are plan h, ap (λ c. c.offload) is, ap (λ c. c.hover) is, ap (λ c. c.hairpin) is, ap (λ c. c.redirect) is, ap (λ c. c.fast) is, ap (λ c. c.slow) is)

-- the parts, one after the other
pub whole : (plan : Plan) (t : Tally) (first second third fourth fifth sixth : List ℕ) → first ≡ title → second ≡ first ++ all_rows (head_rows plan t)
    → third ≡ second ++ some_rows (skip_rows plan.skipped) → fourth ≡ third ++ drop_lines t → fifth ≡ fourth ++ flat_map item_line plan.refused
    → sixth ≡ fifth ++ vm_lines plan t 0 plan.names → sixth ≡ text_of plan t
unfolding text_of
whole plan t first second third fourth fifth sixth a b c d e f =
    f ∙ ap (λ l. l ++ vm_lines plan t 0 plan.names) (e ∙ ap (λ l. l ++ flat_map item_line plan.refused)
    (d ∙ ap (λ l. l ++ drop_lines t) (c ∙ ap (λ l. l ++ some_rows (skip_rows plan.skipped)) (b ∙ ap (λ l. l ++ all_rows (head_rows plan t)) a))))
