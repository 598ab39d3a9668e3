-- How long the log of a sound plan is, and that there is room in it for the entry that is due.
use Rattle.std.proofs.Common.{◌≡◌, ℕ, zero, suc, ◌+◌, ◌<◌, ◌≤◌, List, [], ◌∷◌, ◌++◌, length, take, sym, ap, ◌∙◌, subst, arith, Some}
use Rattle.std.specs.Prelude.{slice_get, unwrap_or}
use Rattle.std.proofs.lemmas.List.{length-append}
use Rattle.and_policy.specs.declared.entry.Entry.{Entry}
use Rattle.and_policy.specs.declared.entry.Entry.TheVariants as entries
use Rattle.and_events.specs.declared.event.Event.{Event}
use Rattle.and_events.specs.declared.plan.Step.{Step}
use Rattle.and_events.specs.declared.plan.Step.TheVariants.{Append, Resume, Finish}
use Rattle.and_events.specs.declared.plan.Plan.{Plan}
use Rattle.and_events.specs.Programming.{Programmes, Logs, programmes_after}
use Rattle.and_events.specs.Script.{Script, at_start, target_of}
use Rattle.and_events.specs.Sound.{IsSound, StepsFit, after_step, sent_after}
use Rattle.and_events.specs.State.{state}
use Rattle.and_events.specs.Run.{Run}
use Rattle.and_laws.specs.Scripted.{script_after_steps}
use Rattle.and_laws.proofs.Following.{follows_steps}

longer : {X : Type 0} (xs : List X) (x : X) → length (xs ++ x ∷ []) ≡ length xs + 1
longer xs x = length-append xs (x ∷ [])

-- an entry makes the log longer by one
pub log_longer : (p p' : Programmes) (e : Entry) → p' ≡ programmes_after p (Logs e) → length p'.log ≡ length p.log + 1
unfolding programmes_after
log_longer p p' e is = ap (λ (x : Programmes). length x.log) is ∙ longer p.log e

one_more : (p : Script) (step : Step) → (length p.log ≤ length (after_step p step).log) × (length (after_step p step).log ≤ length p.log + 1)
one_more p (Append e) = let l = longer p.log e in (omega (arith, l), omega (arith, l))
one_more p (Resume vm) = let l = longer p.log (entries.Place vm (unwrap_or (target_of p vm) 0)) in (omega (arith, l), omega (arith, l))
one_more p step = (omega arith, omega arith)

log_bound : (plan : Plan) (p : Script) (sent : ℕ) (ss : List Step) → StepsFit plan p sent ss → length plan.log ≤ length p.log + length ss
log_bound plan p sent [] f = absurd f
log_bound plan p sent (Finish ∷ []) f = omega (arith, ap length f.log)
log_bound plan p sent (Finish ∷ other ∷ later) f = absurd f.0
log_bound plan p sent (step ∷ later) f = omega (arith, log_bound plan (after_step p step) (sent_after sent step) later f.1, (one_more p step).1)

pub log_short : (plan : Plan) → IsSound plan → length plan.log ≤ 262144
log_short plan sound = omega (arith, log_bound plan at_start 0 plan.steps sound.steps, sound.few_steps)

log_grows : (plan : Plan) (p : Script) (sent : ℕ) (ss : List Step) → StepsFit plan p sent ss → length p.log ≤ length plan.log
log_grows plan p sent [] f = absurd f
log_grows plan p sent (Finish ∷ []) f = omega (arith, ap length f.log)
log_grows plan p sent (Finish ∷ other ∷ later) f = absurd f.0
log_grows plan p sent (step ∷ later) f = omega (arith, log_grows plan (after_step p step) (sent_after sent step) later f.1, (one_more p step).0)

-- the step gives the log an entry
abbrev pub LogsOne : Step → Type 0
LogsOne (Append e) = Unit {0}
LogsOne (Resume vm) = Unit {0}
LogsOne _ = ⊥

logged_one : (p : Script) (step : Step) → LogsOne step → length (after_step p step).log ≡ length p.log + 1
logged_one p (Append e) logs = longer p.log e
logged_one p (Resume vm) logs = longer p.log (entries.Place vm (unwrap_or (target_of p vm) 0))
logged_one p step logs = absurd logs

room_due : (plan : Plan) (p : Script) (sent : ℕ) (ss : List Step) (n : ℕ) (step : Step) → LogsOne step → StepsFit plan p sent ss → slice_get ss n ≡ Some step → length (script_after_steps p (take n ss)).log < length plan.log
room_due plan p sent [] n step logs f told = absurd f
room_due plan p sent (Finish ∷ []) zero step logs f told = absurd (let same : Finish ≡ step = cc in subst LogsOne (sym same) logs)
room_due plan p sent (Finish ∷ []) (suc n) step logs f told = absurd (cc)
room_due plan p sent (Finish ∷ other ∷ later) n step logs f told = absurd f.0
room_due plan p sent (x ∷ later) zero step logs f told =
    let same : x ≡ step = cc in
    omega (arith, log_grows plan (after_step p x) (sent_after sent x) later f.1, logged_one p x (subst LogsOne (sym same) logs))
room_due plan p sent (x ∷ later) (suc n) step logs f told = room_due plan (after_step p x) (sent_after sent x) later n step logs f.1 told

-- the plan's log is longer than the log before an entry is appended
pub log_room : (plan : Plan) (h : List Event) (step : Step) → LogsOne step → IsSound plan → Run plan h → slice_get plan.steps (state plan h).next ≡ Some step → length (state plan h).programmes.log < length plan.log
log_room plan h step logs sound r told =
    let script = room_due plan at_start 0 plan.steps (state plan h).next step logs sound.steps told in
    omega (arith, script, ap length (follows_steps plan h sound r).log)
