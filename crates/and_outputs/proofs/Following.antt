-- Histories of lines, and what is known of the packets, one event further.
use Rattle.std.proofs.Common.{◌≡◌, ℕ, ◌+◌, ◌<◌, List, [], ◌∷◌, length, get_or, take, drop, refl, sym, subst, ap, ◌∙◌}
use Rattle.std.specs.List.{fold}
use Rattle.std.proofs.lemmas.List.{take-append-drop}
use Rattle.std.proofs.lemmas.List.Sums.{fold_more, fold-append}
use Rattle.and_events.specs.declared.event.Carried.{Carried}
use Rattle.and_events.specs.declared.event.Event.{Event}
use Rattle.and_events.specs.declared.event.Line.{Line}
use Rattle.and_events.specs.declared.plan.Plan.{Plan}
use Rattle.and_events.specs.Flow.{Flow, Move, Stay, Enter, Lose, Grab, Send, SealLater, Stop, flow_after}
use Rattle.and_events.specs.Run.{Run, past}
use Rattle.and_events.specs.State.{state, start, after, move_of}
use Rattle.and_outputs.specs.Moves.{moved_by, noted}

abbrev step : List Event → Line → List Event
step h l = l.event ∷ h

pub past_more : (lines : List Line) (i : ℕ) (d : Line) → i < length lines → past (take (i + 1) lines) ≡ (get_or lines i d).event ∷ past (take i lines)
past_more lines i d here = fold_more step [] lines i d here

-- what comes before lines of a run is a run
before_lines : (plan : Plan) (h : List Event) (lines : List Line) → Run plan (fold step h lines) → Run plan h
unfolding Run
before_lines plan h [] r = r
before_lines plan h (l ∷ lines) r = (before_lines plan (l.event ∷ h) lines r).0

pub run_at : (plan : Plan) (lines : List Line) (i : ℕ) → Run plan (past lines) → Run plan (past (take i lines))
run_at plan lines i r =
    let parts : past lines ≡ fold step (past (take i lines)) (drop i lines) = ap past (sym (take-append-drop i lines)) ∙ fold-append step [] (take i lines) (drop i lines) in
    before_lines plan (past (take i lines)) (drop i lines) (subst (Run plan) parts r)

flow_noted : (f : Flow) (m : Move) → (flow_after f m).carried ≡ noted f.carried (moved_by m)
unfolding flow_after
flow_noted f Stay = refl
flow_noted f (Enter q i) = refl
flow_noted f (Lose i) = refl
flow_noted f (Grab a q h) = refl
flow_noted f (Send a q i net target) = refl
flow_noted f (SealLater a q i net target) = refl
flow_noted f (Stop a i) = refl

pub carried_next : (plan : Plan) (h : List Event) (e : Event) → (state plan (e ∷ h)).flow.carried ≡ noted (state plan h).flow.carried (moved_by (move_of plan (state plan h) e))
unfolding state after
carried_next plan h e = flow_noted (state plan h).flow (move_of plan (state plan h) e)

pub carried_first : (plan : Plan) (carried : List Carried) → carried ≡ (start plan).flow.carried → carried ≡ (state plan []).flow.carried
unfolding state
carried_first plan carried is = is
