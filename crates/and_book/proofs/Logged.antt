-- The log of a run of a sound plan is a log, and so are the entries among the first operations of a programme.
use Rattle.std.proofs.Common.{◌≡◌, ℕ, Bool, true, false, not, List, [], ◌∷◌, take, drop, refl, sym, ap, ◌∙◌, subst, Option, Some, None}
use Rattle.std.specs.List.{list_any}
use Rattle.std.specs.Prelude.{slice_get, if◌then◌else◌, ◌==◌}
use Rattle.std.proofs.lemmas.List.{take-append-drop}
use Rattle.and_policy.specs.declared.entry.Entry.{Entry}
use Rattle.and_policy.specs.declared.entry.Entry.TheVariants as entries
use Rattle.and_policy.specs.declared.entry.EntryFault.{EntryFault}
use Rattle.and_policy.specs.declared.entry.EntryFault.TheVariants.{NoNet, NoVm, VmTaken, NoHost}
use Rattle.and_policy.specs.Checks.{first_failing}
use Rattle.and_policy.specs.Fitting.{entry_checks, fits, no_host, IsLog}
use Rattle.and_policy.specs.Logs.{added, has_net, is_live}
use Rattle.and_policy.specs.Programmes as programmes
use Rattle.and_policy.proofs.Logging.{log-push, log-front, entries-append}
use Rattle.and_events.specs.declared.event.Event.{Event}
use Rattle.and_events.specs.declared.event.Event.TheVariants.{Append, Review, Resume}
use Rattle.and_events.specs.declared.event.Node.{Node}
use Rattle.and_events.specs.declared.plan.ItemFault.{ItemFault}
use Rattle.and_events.specs.declared.plan.Plan.{Plan}
use Rattle.and_events.specs.declared.plan.Step.{Step}
use Rattle.and_events.specs.declared.plan.Step.TheVariants as steps
use Rattle.and_events.specs.Legal.{Legal}
use Rattle.and_events.specs.Places.{IsNode}
use Rattle.and_events.specs.Ports.{comes_to, ports_of}
use Rattle.and_events.specs.Programming.{Programmes, Word, Quiet, Logs, Orders, Announces, Installs, programmes_after}
use Rattle.and_events.specs.Run.{Run}
use Rattle.and_events.specs.Script.{entry_first}
use Rattle.and_events.specs.Sound.{IsSound}
use Rattle.and_events.specs.State.{state, start, after, word_of, word_of_step, programme_of}
use Rattle.and_laws.specs.Scripted.{script_at}
use Rattle.and_laws.proofs.Following.{follows}
use Rattle.and_laws.proofs.Programmed.{programmed}
use Rattle.and_laws.proofs.StepFacts.{resumed_on_its_way}
use Rattle.and_laws.proofs.Steps.{does}

-- ---- an entry that fits with a number of hosts fits without one

third_out : {F : Type 0} (a b c : Bool) (f g h : F) (rest : Option F) → (if a then Some f else (if b then Some g else (if c then Some h else rest))) ≡ None
    → (if a then Some f else (if b then Some g else rest)) ≡ None
third_out true b c f g h rest e = absurd (cc)
third_out false true c f g h rest e = absurd (cc)
third_out false false true f g h rest e = absurd (cc)
third_out false false false f g h rest e = e

second_out : {F : Type 0} (a b : Bool) (f g : F) (rest : Option F) → (if a then Some f else (if b then Some g else rest)) ≡ None → (if a then Some f else rest) ≡ None
second_out true b f g rest e = absurd (cc)
second_out false true f g rest e = absurd (cc)
second_out false false f g rest e = e

pub anywhere : (hosts : ℕ) (k : List Entry) (e : Entry) → fits (Some hosts) k e ≡ None → fits None k e ≡ None
anywhere hosts k (entries.AddVm vm net mac ip host) f =
    third_out (not (has_net k net)) (list_any (λ v. v.number == vm) (added k)) (no_host (Some hosts) host) NoNet VmTaken NoHost
    (first_failing (drop 3 (entry_checks None k (entries.AddVm vm net mac ip host)))) f
anywhere hosts k (entries.Place vm host) f = second_out (not (is_live k vm)) (no_host (Some hosts) host) NoVm NoHost None f
anywhere hosts k e f = f

-- ---- by words

none_first : (fault : Option EntryFault) (other : Option ItemFault) → entry_first fault other ≡ None → fault ≡ None
none_first None other e = refl
none_first (Some fault) other e = absurd (cc)

place_fits : (k : List Entry) (vm host : ℕ) → is_live k vm ≡ true → fits None k (entries.Place vm host) ≡ None
place_fits k vm host live = rw live

-- what the word says fits the log
abbrev FitsLog : List Entry → Word → Type 0
FitsLog k (Logs e) = fits None k e ≡ None
FitsLog k _ = Unit {0}

logged_after : (p : Programmes) (w : Word) → FitsLog p.log w → IsLog None p.log → IsLog None (programmes_after p w).log
unfolding programmes_after
logged_after p (Logs e) f l = log-push None p.log e l f
logged_after p Quiet f l = l
logged_after p (Orders os) f l = l
logged_after p (Announces n upto) f l = l
logged_after p (Installs n upto) f l = l

module _ (plan : Plan) (h : List Event) (sound : IsSound plan) (r : Run plan h) where
  fits_step : (n : ℕ) (o : Option Step) → n ≡ (state plan h).next → slice_get plan.steps n ≡ o → FitsLog (state plan h).programmes.log (word_of_step plan (state plan h) o)
  fits_step n (Some (steps.Append e)) at told =
      let d = (does plan h n (steps.Append e) sound at told).fits in
      ap (λ k. fits None k e) (follows plan h sound r).log
      ∙ anywhere plan.settings.hosts (script_at plan h).log e (none_first (fits (Some plan.settings.hosts) (script_at plan h).log e) _ d.0)
  fits_step n (Some (steps.Resume vm)) at told =
      let d = (does plan h n (steps.Resume vm) sound at told).fits in
      place_fits (state plan h).programmes.log vm (comes_to (ports_of (state plan h).ports vm))
      (ap (λ k. is_live k vm) (follows plan h sound r).log ∙ (resumed_on_its_way plan (script_at plan h) vm d.0).0)
  fits_step n (Some step) at told = tt
  fits_step n None at told = tt

  fits_word : (e : Event) → Legal plan (state plan h) e → FitsLog (state plan h).programmes.log (word_of plan (state plan h) e)
  unfolding Legal word_of
  fits_word (Append n) l = fits_step n (slice_get plan.steps n) l.1.0 refl
  fits_word (Review n) l = fits_step n (slice_get plan.steps n) l.0 refl
  fits_word (Resume n) l = fits_step n (slice_get plan.steps n) l.1.0 refl
  fits_word e l = tt

empty_log : IsLog None []
empty_log j entry there = absurd (cc)

pub logged : (plan : Plan) (h : List Event) → IsSound plan → Run plan h → IsLog None (state plan h).programmes.log
unfolding Run state start after
logged plan [] sound r = empty_log
logged plan (e ∷ h) sound r = logged_after (state plan h).programmes (word_of plan (state plan h) e) (fits_word plan h sound r.0 e r.1) (logged plan h sound r.0)

-- the entries among the first operations of a node's programme
pub prefix_logged : (plan : Plan) (h : List Event) → IsSound plan → Run plan h → (node : Node) → IsNode plan.settings node → (j : ℕ) → IsLog None (programmes.prefix (programme_of plan (state plan h) node) j)
prefix_logged plan h sound r node is j =
    let p = programme_of plan (state plan h) node in
    log-front None (programmes.entries (take j p)) (programmes.entries (drop j p))
    (subst (IsLog None)
    (sym (programmed plan h r node is).log ∙ (ap programmes.entries (sym (take-append-drop j p)) ∙ entries-append (take j p) (drop j p))) (logged plan h sound r))
