-- The history of lines, one line further, and before its end.
use Rattle.std.proofs.Common.{◌≡◌, ℕ, ◌+◌, ◌<◌, List, [], ◌∷◌, length, get_or, take, drop, sym, subst, ap, ◌∙◌}
use Rattle.std.specs.List.{fold}
use Rattle.std.proofs.lemmas.List.{take-append-drop}
use Rattle.std.proofs.lemmas.List.Sums.{fold_more, fold-append}
use Rattle.and_events.specs.Run.{Run, past}
use Rattle.and_events.specs.declared.event.Event.{Event}
use Rattle.and_events.specs.declared.event.Line.{Line}
use Rattle.and_events.specs.declared.plan.Plan.{Plan}

abbrev step : List Event → Line → List Event
step h l = l.event ∷ h

pub past_more : (lines : List Line) (i : ℕ) (d : Line) → i < length lines → past (take (i + 1) lines) ≡ (get_or lines i d).event ∷ past (take i lines)
past_more lines i d here = fold_more step [] lines i d here

-- what comes before lines of a run is a run
before_lines : (plan : Plan) (h : List Event) (lines : List Line) → Run plan (fold step h lines) → Run plan h
unfolding Run
before_lines plan h [] r = r
before_lines plan h (l ∷ lines) r = (before_lines plan (l.event ∷ h) lines r).0

pub run_at : (plan : Plan) (lines : List Line) (i : ℕ) → Run plan (past lines) → Run plan (past (take i lines))
run_at plan lines i r =
    let parts : past lines ≡ fold step (past (take i lines)) (drop i lines) = ap past (sym (take-append-drop i lines)) ∙ fold-append step [] (take i lines) (drop i lines) in
    before_lines plan (past (take i lines)) (drop i lines) (subst (Run plan) parts r)
