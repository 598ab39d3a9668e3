-- Along a run of a sound plan the log and the ports follow the plain state that the steps give.
use Rattle.std.proofs.Common.{◌≡◌, ◌≢◌, ℕ, zero, suc, ◌<◌, Bool, true, false, List, [], ◌∷◌, length, get_or, set, replicate, take, refl, sym, ap, ◌∙◌, subst, Option, Some, None}
use Rattle.std.specs.Prelude.{if◌then◌else◌, is_some, slice_get}
use Rattle.std.specs.List.{count_by}
use Rattle.and_policy.specs.declared.entry.Entry.{Entry}
use Rattle.and_policy.specs.declared.entry.Entry.TheVariants as entries
use Rattle.and_policy.specs.declared.port.Port.{Port}
use Rattle.and_policy.specs.declared.port.Port.TheVariants.{Absent, Hairpin}
use Rattle.and_policy.specs.Logs.{is_live}
use Rattle.and_policy.specs.Owners.{place}
use Rattle.and_events.specs.declared.event.Event.{Event}
use Rattle.and_events.specs.declared.event.Event.TheVariants.{Append, Review, Hold, Free, Wait, Inject, Blackout, Resume, Finish, Unpin}
use Rattle.and_events.specs.declared.plan.Step.{Step}
use Rattle.and_events.specs.declared.plan.Step.TheVariants as steps
use Rattle.and_events.specs.declared.plan.Plan.{Plan}
use Rattle.and_events.specs.Ports.{PortMove, Unmoved, ports_of, port_at, with_port, ports_after, is_running}
use Rattle.and_events.specs.Programming.{Word, Quiet, programmes_after}
use Rattle.and_events.specs.Script.{Script, at_start, is_moving, target_of}
use Rattle.and_events.specs.Sound.{IsSound, StepFits, after_step}
use Rattle.and_events.specs.State.{state, start, after, step_of, word_of, word_of_step, ports_move_of, ports_move_of_step, ports_move_of_entry}
use Rattle.and_events.specs.Legal.{Legal}
use Rattle.and_events.specs.Run.{Run}
use Rattle.and_laws.specs.LivePorts.{FitsPorts, FollowsSteps, HasRunningPorts}
use Rattle.and_laws.specs.Scripted.{script_after_steps, script_at, sent_at}
use Rattle.and_laws.proofs.Moving.{target_none, target_some}
use Rattle.and_laws.proofs.PortFits.{fits_as, fits_unpinned}
use Rattle.and_laws.proofs.PortMoves.{one_runs, none_runs}
use Rattle.and_laws.proofs.PortSteps.{Follows, this_or_other, of_one, of_other, other_entry, vm_added, vm_removed, vm_paused, vm_resumed}
use Rattle.and_laws.proofs.Rows.{replicate_at, within}
use Rattle.and_laws.proofs.Sizes.{port_sizes}
use Rattle.and_laws.proofs.Steps.{Does, does}

-- ---- at the start

all_absent : (n hosts v x : ℕ) → get_or (get_or (replicate n (replicate hosts Absent)) v []) x Absent ≡ Absent
all_absent zero hosts v x = refl
all_absent (suc n) hosts zero x = replicate_at hosts x Absent
all_absent (suc n) hosts (suc v) x = all_absent n hosts v x

-- ---- a step

-- the log and the ports after a step, by what it does to them
abbrev FollowsBy : Plan → List Event → Script → Word → PortMove → Type 0
FollowsBy plan h p word move = Follows plan.settings.hosts p (programmes_after (state plan h).programmes word).log (ports_after (state plan h).ports move)

by_step : (plan : Plan) (h : List Event) (word : Option Step → Word) (move : Option Step → PortMove) (n next : ℕ) (step : Step) → Does plan h step next → slice_get plan.steps n ≡ Some step
    → FollowsBy plan h (after_step (script_at plan h) step) (word (Some step)) (move (Some step))
    → FollowsBy plan h (script_after_steps at_start (take next plan.steps)) (word (slice_get plan.steps n)) (move (slice_get plan.steps n))
by_step plan h word move n next step d told f =
    subst (λ p. FollowsBy plan h p (word (slice_get plan.steps n)) (move (slice_get plan.steps n))) (sym d.script)
    (subst (λ o. FollowsBy plan h (after_step (script_at plan h) step) (word o) (move o)) (sym told) f)

by_entry : (plan : Plan) (h : List Event) (sent : ℕ) (e : Entry) → StepFits plan (script_at plan h) sent (steps.Append e) → Follows plan.settings.hosts (script_at plan h) (state plan h).programmes.log (state plan h).ports
    → FollowsBy plan h (after_step (script_at plan h) (steps.Append e)) (word_of_step plan (state plan h) (Some (steps.Append e))) (ports_move_of_entry e)
unfolding programmes_after ports_after
by_entry plan h sent (entries.AddVm vm net mac ip host) fits f = vm_added plan (script_at plan h) _ (state plan h).ports (port_sizes plan h) f vm net mac ip host fits.0 fits.1.0
by_entry plan h sent (entries.RemoveVm vm) fits f = vm_removed plan (script_at plan h) _ (state plan h).ports (port_sizes plan h) f vm fits.0 fits.1
by_entry plan h sent (entries.Place vm host) fits f = absurd fits.2
by_entry plan h sent e fits f = other_entry plan (script_at plan h) _ (state plan h).ports (port_sizes plan h) f e tt tt

-- a step that leaves log, VMs and ports as they were
by_quiet : (plan : Plan) (h : List Event) (n next : ℕ) (step : Step) → Does plan h step next → slice_get plan.steps n ≡ Some step
    → FollowsBy plan h (after_step (script_at plan h) step) Quiet Unmoved → FollowsBy plan h (script_after_steps at_start (take next plan.steps)) Quiet Unmoved
by_quiet plan h n next step d told f = by_step plan h (λ o. Quiet) (λ o. Unmoved) n next step d told f

-- ---- a hairpin goes

unpinned : (hosts : ℕ) (p : Script) (k : List Entry) (ports : List (List Port)) (host vm to entry : ℕ) → port_at ports host vm ≡ Hairpin to entry → Follows hosts p k ports → Follows hosts p k (with_port ports host vm Absent)
unpinned hosts p k ports host vm to entry is f =
    let row : List Port = ports_of ports vm in
    let there : vm < length ports = within ports vm [] (λ none. absurd (let past : Absent ≡ Hairpin to entry = sym (ap (λ r. get_or r host Absent) none) ∙ is in cc)) in
    let here : FitsPorts hosts (is_live p.log vm) (place p.log vm) (target_of p vm) (ports_of (with_port ports host vm Absent) vm) =
    fits_as hosts refl refl refl (of_one ports vm (set row host Absent) there) (fits_unpinned row host to entry is hosts (is_live p.log vm) (place p.log vm) (target_of p vm) (f.ports vm))
    in
    let elsewhere : (v : ℕ) → vm ≢ v → FitsPorts hosts (is_live p.log v) (place p.log v) (target_of p v) (ports_of (with_port ports host vm Absent) v) =
    λ v n. fits_as hosts refl refl refl (of_other ports vm v (set row host Absent) n) (f.ports v)
    in
    record {
      log = f.log;
      ports = λ v. this_or_other vm v (λ u. FitsPorts hosts (is_live p.log u) (place p.log u) (target_of p u) (ports_of (with_port ports host vm Absent) u)) here (elsewhere v);
    }

-- ---- a run

pub follows : (plan : Plan) (h : List Event) → IsSound plan → Run plan h → Follows plan.settings.hosts (script_at plan h) (state plan h).programmes.log (state plan h).ports
unfolding Run Legal state start after step_of word_of ports_move_of programmes_after ports_after
follows plan [] sound r = record { log = refl; ports = λ v. (refl, all_absent (length plan.names) plan.settings.hosts v) }
follows plan (Append n ∷ h) sound r =
    let d = does plan h n (steps.Append r.1.0) sound r.1.1.0 r.1.1.1 in
    by_step plan h (word_of_step plan (state plan h)) (ports_move_of_step (state plan h)) n _ _ d r.1.1.1 (by_entry plan h (sent_at plan h) r.1.0 d.fits (follows plan h sound r.0))
follows plan (Review n ∷ h) sound r =
    let d = does plan h n steps.Review sound r.1.0 r.1.1 in
    by_step plan h (word_of_step plan (state plan h)) (λ o. Unmoved) n _ _ d r.1.1 (follows plan h sound r.0)
follows plan (Hold n ∷ h) sound r =
    let d = does plan h n (steps.Hold r.1.0 r.1.1) sound r.1.2.0 r.1.2.1 in
    let f = follows plan h sound r.0 in
    by_quiet plan h n _ _ d r.1.2.1 (record { log = f.log; ports = f.ports })
follows plan (Free n ∷ h) sound r =
    let d = does plan h n (steps.Free r.1.0 r.1.1) sound r.1.2.0 r.1.2.1 in
    let f = follows plan h sound r.0 in
    by_quiet plan h n _ _ d r.1.2.1 (record { log = f.log; ports = f.ports })
follows plan (Wait n ∷ h) sound r = by_quiet plan h n _ _ (does plan h n steps.Wait sound r.1.0 r.1.1) r.1.1 (follows plan h sound r.0)
follows plan (Inject n i full ∷ h) sound r = by_quiet plan h n _ _ (does plan h n (steps.Inject i) sound r.1.0.0 r.1.0.1) r.1.0.1 (follows plan h sound r.0)
follows plan (Blackout n ∷ h) sound r =
    let d = does plan h n (steps.Blackout r.1.0 r.1.1) sound r.1.2.0 r.1.2.1 in
    by_step plan h (λ o. Quiet) (ports_move_of_step (state plan h)) n _ _ d r.1.2.1
    (vm_paused plan (script_at plan h) _ (state plan h).ports (port_sizes plan h) (follows plan h sound r.0) r.1.0 r.1.1 d.fits.0 d.fits.1)
follows plan (Resume n ∷ h) sound r =
    let d = does plan h n (steps.Resume r.1.0) sound r.1.1.0 r.1.1.1 in
    by_step plan h (word_of_step plan (state plan h)) (ports_move_of_step (state plan h)) n _ _ d r.1.1.1
    (vm_resumed plan (script_at plan h) _ (state plan h).ports (port_sizes plan h) (follows plan h sound r.0) r.1.0 _ d.fits.0 d.fits.1)
follows plan (Finish n ∷ h) sound r = by_quiet plan h n _ _ (does plan h n steps.Finish sound r.1.0 r.1.1) r.1.1 (follows plan h sound r.0)
follows plan (Unpin host vm ∷ h) sound r = unpinned plan.settings.hosts _ _ (state plan h).ports host vm _ _ r.1.0.3 (follows plan h sound r.0)
follows plan (e ∷ h) sound r = follows plan h sound r.0

pub follows_steps : (plan : Plan) (h : List Event) → IsSound plan → Run plan h → FollowsSteps plan h
follows_steps plan h sound r = let f = follows plan h sound r in record { log = f.log; ports = f.ports }

-- ---- running ports

runs_by : (hosts : ℕ) (at to : Option ℕ) (ports : List Port) → FitsPorts hosts true at to ports → count_by is_running ports ≡ (if is_some to then 0 else 1)
runs_by hosts None to ports f = absurd f
runs_by hosts (Some home) None ports f = one_runs ports home f.1
runs_by hosts (Some home) (Some to) ports f = none_runs ports home to f.2 f.3

on_its_way : (p : Script) (v : ℕ) (b : Bool) → is_moving p v ≡ b → is_some (target_of p v) ≡ b
on_its_way p v true e = ap is_some (target_some p v e).1
on_its_way p v false e = ap is_some (target_none p v e)

pub running_ports : (plan : Plan) (h : List Event) → IsSound plan → Run plan h → HasRunningPorts plan h
running_ports plan h sound r vm live =
    let f = follows plan h sound r in
    let p = script_at plan h in
    let is : is_live p.log vm ≡ true = ap (λ k. is_live k vm) (sym f.log) ∙ live in
    runs_by plan.settings.hosts (place p.log vm) (target_of p vm) (ports_of (state plan h).ports vm) (fits_as plan.settings.hosts (sym is) refl refl refl (f.ports vm))
    ∙ ap (λ b. if b then 0 else 1) (on_its_way p vm (is_moving p vm) refl)
