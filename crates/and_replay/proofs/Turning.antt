-- A run under way, before its first turn, over a turn, and at its end.
use Rattle.std.proofs.Common.{◌≡◌, ℕ, ◌+◌, ◌<◌, ◌≤◌, List, [], ◌∷◌, length, refl, sym, ap, ◌∙◌, subst, arith, Option, Some, None, get_or, ⊎_elim, true, false}
use Rattle.std.specs.Prelude.{Bool, slice_get, is_some}
use Rattle.std.specs.List.{fold}
use Rattle.std.proofs.lemmas.List.{length-append}
use Rattle.std.proofs.lemmas.Option.{slice_get_cases, slice_get_within}
use Rattle.and_events.specs.declared.event.Actor.{Actor}
use Rattle.and_events.specs.declared.event.Event.{Event}
use Rattle.and_events.specs.declared.event.Line.{Line}
use Rattle.and_events.specs.declared.plan.Plan.{Plan}
use Rattle.and_events.specs.declared.plan.Step.{Step}
use Rattle.and_events.specs.Complete.{IsComplete}
use Rattle.and_events.specs.Legal.{Enabled}
use Rattle.and_events.specs.Ordered.{IsFirst, IsInPlainOrder}
use Rattle.and_events.specs.Run.{Run, past}
use Rattle.and_events.specs.Script.{at_start}
use Rattle.and_events.specs.Sound.{IsSound, StepsFit}
use Rattle.and_events.specs.State.{state, start}
use Rattle.and_laws.specs.Bound.{bound}
use Rattle.and_laws.proofs.Bounded.{run_ends}
use Rattle.and_laws.proofs.Paying.{short_programmes}
use Rattle.and_others.specs.Ways.{Ways}
use Rattle.and_book.specs.Views.{BookView, now}
use Rattle.and_replay.specs.declared.parts.Parts.{Parts}
use Rattle.and_replay.specs.Parting.{AreParts}
use Rattle.and_replay.specs.Turns.{IsUnderWay, Adds}
use Rattle.and_replay.proofs.Adding.{past_after, plan_after}
use Rattle.and_replay.proofs.LastStep.{completes}

-- ---- more room changes nothing of the run

pub same_now : (b b' : BookView) → b'.lines ≡ b.lines → b'.plan ≡ b.plan → now b' ≡ now b
same_now b b' lines plan = ap (λ p. state p (past b'.lines)) plan ∙ ap (λ ls. state b.plan (past ls)) lines

roomy : (b : BookView) (spare : ℕ) (prepared : Bool) (p : Parts) → IsUnderWay b p → IsUnderWay (record b { spare = spare; prepared = prepared }) p
roomy b spare prepared p w = record { threads = w.threads; ordered = w.ordered; ways = w.ways; ends = w.ends; parts = w.parts }

pub with_room : (b b' : BookView) (p : Parts) → b'.lines ≡ b.lines → b'.plan ≡ b.plan → b'.threads ≡ b.threads → IsUnderWay b p → IsUnderWay b' p
with_room b b' x lines plan threads w =
    subst (λ p. IsUnderWay (record { plan = p; threads = b'.threads; lines = b'.lines; spare = b'.spare; prepared = b'.prepared }) x) (sym plan)
    (subst (λ t. IsUnderWay (record { plan = b.plan; threads = t; lines = b'.lines; spare = b'.spare; prepared = b'.prepared }) x) (sym threads)
    (subst (λ ls. IsUnderWay (record { plan = b.plan; threads = b.threads; lines = ls; spare = b'.spare; prepared = b'.prepared }) x) (sym lines) (roomy b b'.spare b'.prepared x w)))

-- ---- a turn

module _ (old new : BookView) (x x' : Parts) (a : Actor) (sound : IsSound old.plan) (run : Run new.plan (past new.lines))
    (way : IsUnderWay old x) (due : (now old).next < length old.plan.steps) (enabled : Enabled old.plan (now old) a) (first : IsFirst old.plan (now old) a)
    (adds : Adds old new a) where
  same_plan : new.plan ≡ old.plan
  same_plan = plan_after old new 0 adds.event adds.line

  one_more : past new.lines ≡ adds.event ∷ past old.lines
  one_more = past_after old new 0 adds.event adds.line

  ordered_more : IsInPlainOrder old.plan (adds.event ∷ past old.lines)
  unfolding IsInPlainOrder
  ordered_more = (
    way.ordered,
    subst (Enabled old.plan (now old)) (sym adds.actor) enabled,
    subst (IsFirst old.plan (now old)) (sym adds.actor) first,
    adds.number,
  )

  ways_more : Ways old.plan (adds.event ∷ past old.lines)
  unfolding Ways
  ways_more = (way.ways, adds.way)

  run_more : Run old.plan (adds.event ∷ past old.lines)
  run_more = subst (λ h. Run old.plan h) one_more (subst (λ p. Run p (past new.lines)) same_plan run)

  ends_more : (state old.plan (adds.event ∷ past old.lines)).next ≡ length old.plan.steps → IsComplete old.plan (adds.event ∷ past old.lines)
  ends_more done = completes old.plan (past old.lines) adds.event sound run_more due done

  -- what holds of the plan and the history holds of the new book's
  carry : (P : Plan → List Event → Type 0) → P old.plan (adds.event ∷ past old.lines) → P new.plan (past new.lines)
  carry P p = subst (λ q. P q (past new.lines)) (sym same_plan) (subst (P old.plan) (sym one_more) p)

  pub turned : AreParts new.plan (past new.lines) x' → IsUnderWay new x'
  turned parts = record {
    threads = ap (λ (b : BookView). b.threads) adds.line ∙ way.threads;
    ordered = carry IsInPlainOrder ordered_more;
    ways = carry Ways ways_more;
    ends = carry (λ p h. (state p h).next ≡ length p.steps → IsComplete p h) ends_more;
    parts = parts;
  }

  pub one_longer : length new.lines ≡ length old.lines + 1
  one_longer = ap (λ (b : BookView). length b.lines) adds.line ∙ length-append old.lines (record { seat = 0; event = adds.event } ∷ [])

-- ---- lines

events_length : (lines : List Line) (h : List Event) → length (fold (λ g l. l.event ∷ g) h lines) ≡ length lines + length h
events_length [] h = omega arith
events_length (l ∷ lines) h = omega (arith, events_length lines (l.event ∷ h))

pub past_length : (lines : List Line) → length (past lines) ≡ length lines
past_length lines = omega (arith, events_length lines [])

pub bounded : (b : BookView) → Run b.plan (past b.lines) → length b.lines ≤ bound b.plan
bounded b r = omega (arith, past_length b.lines, run_ends b.plan (past b.lines) r)

-- ---- before the first turn

some_steps : (plan : Plan) → IsSound plan → 0 < length plan.steps
some_steps plan sound = some plan.steps sound.steps
  where
    some : (ss : List Step) → StepsFit plan at_start 0 ss → 0 < length ss
    some [] f = absurd f
    some (step ∷ ss) f = omega arith

begun : (plan : Plan) (spare : ℕ) (prepared : Bool) (x : Parts) → IsSound plan → AreParts plan [] x
    → IsUnderWay (record { plan = plan; threads = 0; lines = []; spare = spare; prepared = prepared }) x
unfolding IsInPlainOrder Ways state start
begun plan spare prepared x sound parts = record {
  threads = refl;
  ordered = tt;
  ways = tt;
  ends = λ done. absurd (omega (arith, some_steps plan sound, done));
  parts = parts;
}

pub begins : (b : BookView) (x : Parts) → IsSound b.plan → b.threads ≡ 0 → b.lines ≡ [] → AreParts b.plan [] x → IsUnderWay b x
begins b x sound threads lines parts =
    subst (λ t. IsUnderWay (record { plan = b.plan; threads = t; lines = b.lines; spare = b.spare; prepared = b.prepared }) x) (sym threads)
    (subst (λ ls. IsUnderWay (record { plan = b.plan; threads = 0; lines = ls; spare = b.spare; prepared = b.prepared }) x) (sym lines) (begun b.plan b.spare b.prepared x sound parts))

-- ---- the end

pub ended : (b : BookView) (x : Parts) → Run b.plan (past b.lines) → IsUnderWay b x → slice_get b.plan.steps (now b).next ≡ None → IsComplete b.plan (past b.lines)
ended b x r w none =
    ⊎_elim
    (λ (it : (step : Step) × ((now b).next < length b.plan.steps) × (slice_get b.plan.steps (now b).next ≡ Some step) × (get_or b.plan.steps (now b).next step ≡ step)).
    absurd (let clash : Some it.0 ≡ None = sym it.2 ∙ none in cc))
    (λ (it : (length b.plan.steps ≤ (now b).next) × (slice_get b.plan.steps (now b).next ≡ None)).
    w.ends (omega (arith, it.0, (short_programmes b.plan (past b.lines) r).steps)))
    (slice_get_cases b.plan.steps (now b).next).1

-- ---- whether a step is due

pub due_within : (plan : Plan) (n : ℕ) (o : Option Step) → o ≡ slice_get plan.steps n → is_some o ≡ true → n < length plan.steps
due_within plan n (Some step) is some = slice_get_within plan.steps n step (sym is)
due_within plan n None is some = absurd (cc)

pub none_due : (plan : Plan) (n : ℕ) (o : Option Step) → o ≡ slice_get plan.steps n → is_some o ≡ false → slice_get plan.steps n ≡ None
none_due plan n (Some step) is none = absurd (cc)
none_due plan n None is none = sym is
