-- Blackouts, resumes and the ends of hairpins: what the ports are before, that the event is legal, and what is kept after it.
use Rattle.std.proofs.Common.{◌≡◌, ◌≢◌, ℕ, ◌+◌, ◌<◌, false, true, List, length, get_or, refl, sym, ap, ◌∙◌, subst, arith, Option, Some, None}
use Rattle.std.specs.Prelude.{◌==◌, slice_get, unwrap_or}
use Rattle.std.proofs.lemmas.Grind.{common_steps}
use Rattle.and_policy.specs.declared.entry.Entry.{Entry}
use Rattle.and_policy.specs.declared.entry.Entry.TheVariants as entries
use Rattle.and_policy.specs.declared.port.Port.{Port}
use Rattle.and_policy.specs.declared.port.Port.TheVariants.{Absent, Running, Paused, Arriving, Hairpin}
use Rattle.and_policy.specs.Owners.{place}
use Rattle.and_events.specs.declared.event.Event.{Event}
use Rattle.and_events.specs.declared.event.Event.TheVariants.{Blackout, Resume, Unpin}
use Rattle.and_events.specs.declared.plan.Plan.{Plan}
use Rattle.and_events.specs.declared.plan.Step.TheVariants as steps
use Rattle.and_events.specs.Flow.{flow_after}
use Rattle.and_events.specs.Legal.{Legal, CanUnpin, KnowsVm}
use Rattle.and_events.specs.Ports.{Pause, Arrive, Unpinned, comes_to, leaves_host, port_at, ports_after, ports_of}
use Rattle.and_events.specs.Programming.{Logs, programmes_after}
use Rattle.and_events.specs.Run.{Run}
use Rattle.and_events.specs.Script.{Script, target_of}
use Rattle.and_events.specs.Sound.{IsSound}
use Rattle.and_events.specs.State.{State, state, after, move_of, word_of, word_of_step, ports_move_of, ports_move_of_step, step_of, usage_move_of, holds_after}
use Rattle.and_events.specs.Usage.{usage_after}
use Rattle.and_laws.specs.LivePorts.{FitsPorts, moving_port, resting_port, without_hairpin}
use Rattle.and_laws.specs.Scripted.{script_at}
use Rattle.and_laws.proofs.Following.{follows_steps}
use Rattle.and_laws.proofs.Moving.{target_none, target_some}
use Rattle.and_laws.proofs.PortFits.{fits_as}
use Rattle.and_laws.proofs.PortMoves.{comes, leaves}
use Rattle.and_laws.proofs.Sizes.{port_sizes}
use Rattle.and_laws.proofs.StepFacts.{added_anew, paused_at_rest, resumed_on_its_way}
use Rattle.and_laws.proofs.Steps.{does}
use Rattle.and_kept.specs.Nodes.{Progressed}
use Rattle.and_pins.specs.Pinned.{PinsView, hairpin_entry}
use Rattle.and_book.specs.Inside.{BootsAnew, Kept, PinsFollow, Stands}
use Rattle.and_book.proofs.More.{IsAfter}
use Rattle.and_book.proofs.Pinning.{pins_follow}

-- ---- one VM's ports

-- a port that is seen is no hairpin
seen_is_none : (port seen : Port) → seen ≢ Absent → without_hairpin port ≡ seen → hairpin_entry port ≡ None
seen_is_none Absent seen some e = refl
seen_is_none Running seen some e = refl
seen_is_none Paused seen some e = refl
seen_is_none Arriving seen some e = refl
seen_is_none (Hairpin host entry) seen some e = absurd (some (sym e))

itself : (n : ℕ) → (n == n) ≡ true
itself n = grind arith

rests_here : (home : ℕ) → resting_port home home ≡ Running
rests_here home = let e = itself home in rw e refl

arrives_there : (home to : ℕ) → home ≢ to → moving_port home to to ≡ Arriving
arrives_there home to apart = grind (arith, common_steps)

running_some : Running ≢ Absent
running_some e = absurd (cc)

arriving_some : Arriving ≢ Absent
arriving_some e = absurd (cc)

-- a VM that rests has no hairpin where it is
rests_at : (hosts : ℕ) (at : Option ℕ) (row : List Port) → FitsPorts hosts true at None row → hairpin_entry (get_or row (unwrap_or at 0) Absent) ≡ None
rests_at hosts None row f = absurd f
rests_at hosts (Some home) row f = seen_is_none (get_or row home Absent) Running running_some (f.1 home ∙ rests_here home)

-- one on its way leaves its place, and has no hairpin where it arrives
pub record IsOnItsWay (home : ℕ) (row : List Port) : Type 0 where
  pub leaves : home ≡ leaves_host row
  pub within : home < length row
  pub apart : comes_to row ≢ home
  pub arriving : hairpin_entry (get_or row (comes_to row) Absent) ≡ None

on_its_way : (hosts to : ℕ) (at : Option ℕ) (row : List Port) → length row ≡ hosts → FitsPorts hosts true at (Some to) row → IsOnItsWay (unwrap_or at 0) row
on_its_way hosts to None row all f = absurd f
on_its_way hosts to (Some home) row all (inside, there, apart, moves) =
    let at : comes_to row ≡ to = comes row home to apart moves in
    record {
      leaves = sym (leaves row home to apart moves);
      within = omega (arith, inside, all);
      apart = λ e. apart (sym e ∙ at);
      arriving = subst (λ x. hairpin_entry (get_or row x Absent) ≡ None) (sym at) (seen_is_none (get_or row to Absent) Arriving arriving_some (moves to ∙ arrives_there home to apart));
    }

-- ---- in a run

module _ (plan : Plan) (h : List Event) (sound : IsSound plan) (r : Run plan h) where
  abbrev p : Script
  p = script_at plan h

  abbrev s : State
  s = state plan h

  -- a VM that is added has no port yet
  pub boots_anew : (n : ℕ) (e : Entry) → n ≡ s.next → slice_get plan.steps n ≡ Some (steps.Append e) → BootsAnew s.ports e
  boots_anew n (entries.AddVm vm net mac ip host) is told =
      let fits = (does plan h n (steps.Append (entries.AddVm vm net mac ip host)) sound is told).fits in
      let dead = (added_anew plan p vm net mac ip host fits.0).0 in
      let none : FitsPorts plan.settings.hosts false (place p.log vm) (target_of p vm) (ports_of s.ports vm) = fits_as plan.settings.hosts (sym dead) refl refl refl ((follows_steps plan h sound r).ports vm) in
      ap hairpin_entry (none.1 host)
  boots_anew n e is told = tt

  -- one that a blackout stops has no hairpin where it is
  pub stops_at : (n vm host : ℕ) → n ≡ s.next → slice_get plan.steps n ≡ Some (steps.Blackout vm host) → hairpin_entry (port_at s.ports (unwrap_or (place s.programmes.log vm) 0) vm) ≡ None
  stops_at n vm host is told =
      let facts = paused_at_rest plan p vm host (does plan h n (steps.Blackout vm host) sound is told).fits.0 in
      let f = follows_steps plan h sound r in
      rests_at plan.settings.hosts (place s.programmes.log vm) (ports_of s.ports vm)
      (fits_as plan.settings.hosts (sym facts.0) (ap (λ k. place k vm) f.log) (sym (target_none p vm facts.2)) refl (f.ports vm))

  -- one that goes on is on its way from there
  pub goes_on : (n vm : ℕ) → n ≡ s.next → slice_get plan.steps n ≡ Some (steps.Resume vm) → (vm < length s.ports) × (length (ports_of s.ports vm) ≡ plan.settings.hosts) × IsOnItsWay (unwrap_or (place s.programmes.log vm) 0) (ports_of s.ports vm)
  goes_on n vm is told =
      let fits = (does plan h n (steps.Resume vm) sound is told).fits in
      let facts = resumed_on_its_way plan p vm fits.0 in
      let target = target_some p vm facts.1 in
      let f = follows_steps plan h sound r in
      let sizes = port_sizes plan h in (
        omega (arith, fits.1, sizes.vms),
        sizes.hosts vm fits.1,
        on_its_way plan.settings.hosts target.0 (place s.programmes.log vm) (ports_of s.ports vm) (sizes.hosts vm fits.1)
            (fits_as plan.settings.hosts (sym facts.0) (ap (λ k. place k vm) f.log) (sym target.1) refl (f.ports vm)),
      )

-- ---- the events

pub legal_blackout : (plan : Plan) (s : State) (n vm host : ℕ) → n ≡ s.next → slice_get plan.steps n ≡ Some (steps.Blackout vm host) → KnowsVm plan s host vm → Legal plan s (Blackout n)
unfolding Legal
legal_blackout plan s n vm host is due knows = (vm, host, (is, due, knows))

pub legal_resume : (plan : Plan) (s : State) (n vm : ℕ) → n ≡ s.next → slice_get plan.steps n ≡ Some (steps.Resume vm) → Legal plan s (Resume n)
unfolding Legal
legal_resume plan s n vm is due = (vm, (is, due, tt))

pub legal_unpin : (plan : Plan) (s : State) (host vm : ℕ) → CanUnpin plan s host vm → Legal plan s (Unpin host vm)
unfolding Legal
legal_unpin plan s host vm can = can

pub after_blackout : (plan : Plan) (s : State) (k : Kept) (ports : List (List Port)) (pins : PinsView) (n vm home host : ℕ) → Stands k s → slice_get plan.steps n ≡ Some (steps.Blackout vm host) → home ≡ unwrap_or (place s.programmes.log vm) 0
    → ports ≡ ports_after k.ports (Pause vm home host) → PinsFollow k.pins pins k.ports ports 0 → IsAfter plan s (Blackout n) k (record k { next = k.next + 1; ports = ports; pins = pins })
unfolding after holds_after move_of word_of ports_move_of step_of usage_move_of usage_after flow_after programmes_after
after_blackout plan s k ports pins n vm home host st due at moved follows =
    record {
      stands = record {
        next = ap (λ m. m + 1) st.next;
        programmes = st.programmes;
        ports = moved
            ∙ (ap (λ rows. ports_after rows (Pause vm home host)) st.ports
            ∙ (ap (λ x. ports_after s.ports (Pause vm x host)) at ∙ ap (λ o. ports_after s.ports (ports_move_of_step s o)) (sym due)));
        flow = st.flow;
        holds = st.holds;
        usage = st.usage;
      };
      settings = refl;
      limit = refl;
      room = omega arith;
      known = refl;
      pins = pins_follow plan k (record k { next = k.next + 1; ports = ports; pins = pins }) 0 follows refl (omega arith);
    }

pub after_resume : (plan : Plan) (s : State) (k : Kept) (q : Progressed) (ports : List (List Port)) (pins : PinsView) (n vm home host entry : ℕ) → Stands k s → slice_get plan.steps n ≡ Some (steps.Resume vm) → k.next < length plan.steps
    → home ≡ leaves_host (ports_of s.ports vm) → host ≡ comes_to (ports_of s.ports vm) → entry ≡ length s.programmes.log + 1
    → q.programmes ≡ programmes_after k.progress.programmes (Logs (entries.Place vm host)) → ports ≡ ports_after k.ports (Arrive vm home host entry) → PinsFollow k.pins pins k.ports ports 1
    → q.limit ≡ k.progress.limit → q.held ≡ k.progress.held → q.least ≡ k.progress.least → IsAfter plan s (Resume n) k (record k { next = k.next + 1; progress = q; ports = ports; pins = pins })
unfolding after holds_after move_of word_of ports_move_of step_of usage_move_of usage_after flow_after
after_resume plan s k q ports pins n vm home host entry st due within from to number logged moved follows limit marks least =
    record {
      stands = record {
        next = ap (λ m. m + 1) st.next;
        programmes = logged
            ∙ (ap (λ x. programmes_after x (Logs (entries.Place vm host))) st.programmes
            ∙ (ap (λ x. programmes_after s.programmes (Logs (entries.Place vm x))) to ∙ ap (λ o. programmes_after s.programmes (word_of_step plan s o)) (sym due)));
        ports = moved
            ∙ (ap (λ rows. ports_after rows (Arrive vm home host entry)) st.ports
            ∙ (ap (λ x. ports_after s.ports (Arrive vm x host entry)) from
            ∙ (ap (λ x. ports_after s.ports (Arrive vm (leaves_host (ports_of s.ports vm)) x entry)) to
            ∙ (ap (λ x. ports_after s.ports (Arrive vm (leaves_host (ports_of s.ports vm)) (comes_to (ports_of s.ports vm)) x)) number
            ∙ ap (λ o. ports_after s.ports (ports_move_of_step s o)) (sym due)))));
        flow = st.flow;
        holds = ap (λ marks. record { install = marks; forward = k.roads.held }) marks ∙ st.holds;
        usage = st.usage;
      };
      settings = refl;
      limit = limit;
      room = omega arith;
      known = refl;
      pins = pins_follow plan k (record k { next = k.next + 1; progress = q; ports = ports; pins = pins }) 1 follows least (omega (arith, within));
    }

pub after_unpin : (plan : Plan) (s : State) (k : Kept) (ports : List (List Port)) (pins : PinsView) (host vm : ℕ) → Stands k s → ports ≡ ports_after k.ports (Unpinned host vm) → PinsFollow k.pins pins k.ports ports 0
    → IsAfter plan s (Unpin host vm) k (record k { ports = ports; pins = pins })
unfolding after holds_after move_of word_of ports_move_of step_of usage_move_of usage_after flow_after programmes_after
after_unpin plan s k ports pins host vm st moved follows =
    record {
      stands = record {
        next = st.next;
        programmes = st.programmes;
        ports = moved ∙ ap (λ rows. ports_after rows (Unpinned host vm)) st.ports;
        flow = st.flow;
        holds = st.holds;
        usage = st.usage;
      };
      settings = refl;
      limit = refl;
      room = omega arith;
      known = refl;
      pins = pins_follow plan k (record k { ports = ports; pins = pins }) 0 follows refl (omega arith);
    }
