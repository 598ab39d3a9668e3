-- No run of a sound plan is stuck before its end.
use Rattle.std.proofs.Common.{◌≡◌, ◌≢◌, ℕ, ◌<◌, ◌≤◌, Bool, true, false, List, [], ◌∷◌, length, get_or, refl, sym, ap, ◌∙◌, subst, arith, Some, None, ⊎_elim, inl, inr, ◌⊎◌}
use Rattle.std.specs.Prelude.{slice_get, unwrap_or, ◌==◌}
use Rattle.std.specs.List.{list_any}
use Rattle.std.proofs.lemmas.List.{take_all}
use Rattle.std.proofs.lemmas.Option.{slice_get_cases, unwrap_or-slice_get}
use Rattle.and_policy.specs.declared.entry.Entry.{Entry}
use Rattle.and_policy.specs.declared.port.Port.{Port}
use Rattle.and_policy.specs.declared.port.Port.TheVariants.{Absent, Running, Paused, Arriving, Hairpin}
use Rattle.and_policy.specs.Logs.{vms, is_live}
use Rattle.and_policy.specs.Owners.{place}
use Rattle.and_policy.specs.Programmes.{entries, prefix}
use Rattle.and_events.specs.declared.event.Actor.TheVariants.{Controller, Driver}
use Rattle.and_events.specs.declared.event.Event.{Event}
use Rattle.and_events.specs.declared.event.Event.TheVariants.{Hold, Free}
use Rattle.and_events.specs.declared.event.Node.{Node}
use Rattle.and_events.specs.declared.event.Node.TheVariants.{Host}
use Rattle.and_events.specs.declared.plan.What.{What}
use Rattle.and_events.specs.declared.plan.What.TheVariants.{Install, Forward}
use Rattle.and_events.specs.declared.plan.Step.{Step}
use Rattle.and_events.specs.declared.plan.Step.TheVariants as steps
use Rattle.and_events.specs.declared.plan.Plan.{Plan}
use Rattle.and_events.specs.Places.{node_count, node_place, IsNode}
use Rattle.and_events.specs.Ports.{ports_of, port_at, ports_after, IsHairpin}
use Rattle.and_events.specs.Programming.{programme_at, installed_at, entries_installed}
use Rattle.and_events.specs.Script.{is_hold, is_moving}
use Rattle.and_events.specs.State.{state, start, after, holds_after, holds_by, with_hold, ports_move_of, word_of, packet_at, no_packet, home, programme_of, installed_of}
use Rattle.and_events.specs.Legal.{Legal, IsAtRest, IsOver, CanStep, CanHold, KnowsVm, install_held, forward_held}
use Rattle.and_events.specs.Run.{Run}
use Rattle.and_events.specs.Sound.{IsSound}
use Rattle.and_laws.specs.LivePorts.{FitsPorts}
use Rattle.and_laws.specs.Scripted.{script_at}
use Rattle.and_laws.specs.Progress.{GoesOn}
use Rattle.and_laws.proofs.Enabling.{search_below, install_or}
use Rattle.and_laws.proofs.Following.{follows}
use Rattle.and_laws.proofs.GoingOn.{AreFree, over_or, rest_or, knows_all, number_of, find_live, home_of}
use Rattle.and_laws.proofs.Hairpins.{hairpin_pins, pin_within, row_within}
use Rattle.and_laws.proofs.Holding.{hold_of, holding}
use Rattle.and_laws.proofs.Knowing.{knows_after}
use Rattle.and_laws.proofs.Needed.{raises}
use Rattle.and_laws.proofs.Moving.{target_none}
use Rattle.and_laws.proofs.PortFits.{fits_as}
use Rattle.and_laws.proofs.Programmed.{programmed}
use Rattle.and_laws.proofs.Rows.{replicate_at, set_at}
use Rattle.and_laws.proofs.Sizes.{nodes, port_sizes}
use Rattle.and_laws.proofs.Standing.{PinIn, home_stands, stands_live, not_held, stood, pins_logged}
use Rattle.and_laws.proofs.StepFacts.{held_there, not_held_before, paused_at_rest}
use Rattle.and_laws.proofs.Steps.{does}

-- ---- what a host whose installs are held knows

-- the installs of the node at this place were held before an event, or it holds them now, and then all was installed and no port moves
abbrev WasHeld : Plan → Event → List Event → ℕ → Type 0
WasHeld plan e h k =
    (get_or (state plan h).node_holds.install k false ≡ true)
    ⊎ ((installed_at (state plan h).programmes k ≡ length (programme_at (state plan h).programmes k)) × ((state plan (e ∷ h)).ports ≡ (state plan h).ports))

was_held : (plan : Plan) (e : Event) (h : List Event) → Run plan (e ∷ h) → (k : ℕ) → get_or (state plan (e ∷ h)).node_holds.install k false ≡ true → WasHeld plan e h k
unfolding Run Legal state after holds_after ports_move_of ports_after
was_held plan (Hold n) h r k held =
    let s = state plan h in
    by_hold r.1.0 r.1.1 r.1.2.2 (subst (λ o. get_or (holds_by plan.settings s.node_holds o).install k false ≡ true) r.1.2.1 held)
  where
    by_hold : (node : Node) (what : What) → CanHold plan (state plan h) node what → get_or (with_hold (state plan h).node_holds (node_place plan.settings node) what true).install k false ≡ true
        → (get_or (state plan h).node_holds.install k false ≡ true)
        ⊎ ((installed_at (state plan h).programmes k ≡ length (programme_at (state plan h).programmes k)) × ((state plan h).ports ≡ (state plan h).ports))
    by_hold node Forward can e = inl e
    by_hold node Install can e =
        let s = state plan h in
        set_at s.node_holds.install (node_place plan.settings node) k true false
        (λ b. b ≡ true → (get_or s.node_holds.install k false ≡ true) ⊎ ((installed_at s.programmes k ≡ length (programme_at s.programmes k)) × (s.ports ≡ s.ports))) (λ f. inl f)
        (λ is f. inr (subst (λ x. installed_at s.programmes x ≡ length (programme_at s.programmes x)) is can.1, refl)) e
was_held plan (Free n) h r k held =
    let s = state plan h in
    inl (by_free r.1.0 r.1.1 (subst (λ o. get_or (holds_by plan.settings s.node_holds o).install k false ≡ true) r.1.2.1 held))
  where
    by_free : (node : Node) (what : What) → get_or (with_hold (state plan h).node_holds (node_place plan.settings node) what false).install k false ≡ true → get_or (state plan h).node_holds.install k false ≡ true
    by_free node Forward e = e
    by_free node Install e =
        let s = state plan h in
        set_at s.node_holds.install (node_place plan.settings node) k false false (λ b. b ≡ true → get_or s.node_holds.install k false ≡ true) (λ f. f) (λ is f. absurd (cc)) e
was_held plan e h r k held = inl held

-- all log entries are installed where all is
all_entries : (plan : Plan) (h : List Event) → Run plan h → (node : Node) → IsNode plan.settings node → installed_of plan (state plan h) node ≡ length (programme_of plan (state plan h) node)
    → entries_installed (state plan h).programmes (node_place plan.settings node) ≡ length (state plan h).programmes.log
all_entries plan h r node there installed =
    let p = programme_of plan (state plan h) node in
    ap (λ n. length (prefix p n)) installed ∙ ap (λ xs. length (entries xs)) (take_all (length p) p (omega arith)) ∙ ap (length {A = Entry}) (programmed plan h r node there).log

-- a hairpin is at a host of the plan, and its VM has a name
pub pin_there : (plan : Plan) (h : List Event) (host vm : ℕ) → IsHairpin (port_at (state plan h).ports host vm) → (host < plan.settings.hosts) × (vm < length plan.names)
pin_there plan h host vm is =
    let ports = (state plan h).ports in
    let some = hairpin_pins (port_at ports host vm) is in
    let named : vm < length plan.names = omega (arith, row_within ports host vm some, (port_sizes plan h).vms) in
    (omega (arith, pin_within (ports_of ports vm) host some, (port_sizes plan h).hosts vm named), named)

-- nothing is held at the end
pub free_at_end : (plan : Plan) (h : List Event) → IsSound plan → Run plan h → (script_at plan h).holds ≡ [] → AreFree plan (state plan h)
free_at_end plan h sound r none =
    record {
      install = λ node there. by_held node Install there (install_held plan (state plan h) node) refl;
      forward = λ node there. by_held node Forward there (forward_held plan (state plan h) node) refl;
    }
  where
    by_held : (node : Node) (what : What) → IsNode plan.settings node → (b : Bool) → hold_of (state plan h).node_holds (node_place plan.settings node) what ≡ b → b ≡ false
    by_held node what there false e = refl
    by_held node what there true e =
        absurd (let no_way : false ≡ true = sym (ap (list_any (is_hold node what)) none) ∙ holding plan h sound r node what there e in cc)

-- a live VM's number, where the host has all installed
knows_live : (plan : Plan) (h : List Event) → IsSound plan → Run plan h → (host vm : ℕ) → host < plan.settings.hosts → is_live (state plan h).programmes.log vm ≡ true
    → installed_of plan (state plan h) (Host host) ≡ length (programme_of plan (state plan h) (Host host)) → KnowsVm plan (state plan h) host vm
knows_live plan h sound r host vm there live installed =
    let q = number_of (state plan h).programmes.log vm live in
    knows_all plan h sound r host vm q.number there q.is q.within installed

-- what a host knows it knows after an event
knows_later : (plan : Plan) (e : Event) (h : List Event) → Run plan (e ∷ h) → (host vm : ℕ) → host < plan.settings.hosts → KnowsVm plan (state plan h) host vm → KnowsVm plan (state plan (e ∷ h)) host vm
unfolding Run state after
knows_later plan e h r host vm there k =
    let s = state plan h in
    let p = programmed plan h r.0 (Host host) there in
    let short : installed_of plan s (Host host) ≤ length (programme_of plan s (Host host)) = omega (arith, p.installed, p.announced) in
    let within : host < length s.programmes.ops = omega (arith, there, (nodes plan h).ops) in
    let now = knows_after s.programmes (word_of plan s e) host vm within short (raises plan s e r.1) (k.0, k.1, k.3) in
    (now.0, now.1, there, now.2)

-- where its installs are held, a host knows each VM that has a port there
knows_held : (plan : Plan) (h : List Event) → IsSound plan → Run plan h → (host vm : ℕ) → host < plan.settings.hosts → install_held plan (state plan h) (Host host) ≡ true
    → port_at (state plan h).ports host vm ≢ Absent → KnowsVm plan (state plan h) host vm
unfolding Run state start
knows_held plan [] sound r host vm there held stands = absurd (let no_way : false ≡ true = sym (replicate_at (node_count plan.settings) host false) ∙ held in cc)
knows_held plan (e ∷ h) sound r host vm there held stands =
    let s = state plan h in
    ⊎_elim
    (λ (was : get_or s.node_holds.install host false ≡ true).
    ⊎_elim
    (λ (before : port_at s.ports host vm ≢ Absent). knows_later plan e h r host vm there (knows_held plan h sound r.0 host vm there was before))
    (λ (free : install_held plan s (Host host) ≡ false). absurd (let no_way : false ≡ true = sym free ∙ was in cc))
    (stood plan e h sound r host vm stands))
    (λ (it : (installed_at s.programmes host ≡ length (programme_at s.programmes host)) × ((state plan (e ∷ h)).ports ≡ s.ports)).
    let f = follows plan h sound r.0 in
    let before : port_at s.ports host vm ≢ Absent = subst (λ ports. port_at ports host vm ≢ Absent) it.1 stands in
    let live : is_live (script_at plan h).log vm ≡ true = stands_live plan.settings.hosts _ _ _ _ host (f.ports vm) before in
    knows_later plan e h r host vm there (knows_live plan h sound r.0 host vm there (ap (λ k. is_live k vm) f.log ∙ live) it.0))
    (was_held plan e h r host held)

-- ---- the step that is due

module _ (plan : Plan) (h : List Event) (sound : IsSound plan) (r : Run plan h) where
  driver_goes : (step : Step) → slice_get plan.steps (state plan h).next ≡ Some step → CanStep plan (state plan h) step → GoesOn plan (state plan h)
  driver_goes step told can = record { actor = Driver; is = tt; enabled = (step, told, can) }

  -- the host has all installed, or its installer is enabled, where its installs are not held
  knows_or : (host vm : ℕ) → host < plan.settings.hosts → is_live (state plan h).programmes.log vm ≡ true → install_held plan (state plan h) (Host host) ≡ false
      → KnowsVm plan (state plan h) host vm ⊎ GoesOn plan (state plan h)
  knows_or host vm there live free =
      ⊎_elim
      (λ (installed : installed_of plan (state plan h) (Host host) ≡ length (programme_of plan (state plan h) (Host host))).
      inl (knows_live plan h sound r host vm there live installed))
      (λ (g : GoesOn plan (state plan h)). inr g) (install_or plan h r (Host host) there free)

  -- a host knows the VMs that have a port there, or goes on with its installs
  knows_port : (host vm : ℕ) → host < plan.settings.hosts → is_live (state plan h).programmes.log vm ≡ true → port_at (state plan h).ports host vm ≢ Absent → (b : Bool)
      → install_held plan (state plan h) (Host host) ≡ b → KnowsVm plan (state plan h) host vm ⊎ GoesOn plan (state plan h)
  knows_port host vm there live stands true held = inl (knows_held plan h sound r host vm there held stands)
  knows_port host vm there live stands false free = knows_or host vm there live free

  -- the packet's VM is live and runs at its host
  inject_goes : (i : ℕ) → slice_get plan.steps (state plan h).next ≡ Some (steps.Inject i) → GoesOn plan (state plan h)
  inject_goes i told =
      let s = state plan h in
      let d = (does plan h s.next (steps.Inject i) sound refl told).fits in
      let packet = d.1.0 in
      let sent = d.1.2 in
      let f = follows plan h sound r in
      let p = script_at plan h in
      let vm : ℕ = (packet_at plan i).vm in
      let there : packet_at plan i ≡ packet = sym (unwrap_or-slice_get plan.packets i no_packet) ∙ ap (λ o. unwrap_or o no_packet) d.1.1 in
      let named : vm ≡ packet.vm = ap (λ x. x.vm) there in
      let number : vm ≡ sent.vm.number = named ∙ sym sent.number in
      let live : is_live p.log vm ≡ true =
      subst (λ n. is_live p.log n ≡ true) (sym number) (find_live (λ v. v.mac == sent.mac) (vms p.log) sent.vm sent.source) in
      let live_now : is_live s.programmes.log vm ≡ true = ap (λ k. is_live k vm) f.log ∙ live in
      let resting : is_moving p vm ≡ false = ap (is_moving p) named ∙ sent.resting in
      let rests : FitsPorts plan.settings.hosts true (place s.programmes.log vm) None (ports_of s.ports vm) =
      fits_as plan.settings.hosts (sym live) (ap (λ k. place k vm) f.log) (sym (target_none p vm resting)) refl (f.ports vm) in
      let home_is = home_of plan.settings.hosts true (place s.programmes.log vm) None (ports_of s.ports vm) refl rests in
      let at_home : home plan s i ≡ home_is.0 = ap (λ o. unwrap_or o 0) home_is.1 in
      ⊎_elim (λ (knows : KnowsVm plan s (home plan s i) vm). driver_goes (steps.Inject i) told knows)
      (λ (g : GoesOn plan s). g)
      (knows_port (home plan s i) vm (subst (λ x. x < plan.settings.hosts) (sym at_home) home_is.2) live_now
      (home_stands plan.settings.hosts (place s.programmes.log vm) (ports_of s.ports vm) rests) (install_held plan s (Host (home plan s i))) refl)

  hold_goes : (node : Node) (what : What) → slice_get plan.steps (state plan h).next ≡ Some (steps.Hold node what) → GoesOn plan (state plan h)
  hold_goes node Forward told = driver_goes (steps.Hold node Forward) told tt
  hold_goes node Install told =
      let s = state plan h in
      let fits = (does plan h s.next (steps.Hold node Install) sound refl told).fits in
      let there : IsNode plan.settings node = held_there plan (script_at plan h) node Install fits in
      let free : install_held plan s node ≡ false = not_held plan h sound r node there (not_held_before plan (script_at plan h) node Install fits) in
      ⊎_elim
      (λ (installed : installed_of plan s node ≡ length (programme_of plan s node)).
      let p = programmed plan h r node there in
      driver_goes (steps.Hold node Install) told (omega (arith, p.installed, p.announced, installed), installed))
      (λ (g : GoesOn plan s). g) (install_or plan h r node there free)

  blackout_goes : (vm host : ℕ) → slice_get plan.steps (state plan h).next ≡ Some (steps.Blackout vm host) → GoesOn plan (state plan h)
  blackout_goes vm host told =
      let s = state plan h in
      let fits = (does plan h s.next (steps.Blackout vm host) sound refl told).fits in
      let facts = paused_at_rest plan (script_at plan h) vm host fits.0 in
      let f = follows plan h sound r in
      ⊎_elim (λ (knows : KnowsVm plan s host vm). driver_goes (steps.Blackout vm host) told knows) (λ (g : GoesOn plan s). g)
      (knows_or host vm facts.1 (ap (λ k. is_live k vm) f.log ∙ facts.0) (not_held plan h sound r (Host host) facts.1 facts.4))

  -- a hairpin is ripe where all is installed
  ripe_goes : (host vm : ℕ) → ((node : Node) → IsNode plan.settings node → installed_of plan (state plan h) node ≡ length (programme_of plan (state plan h) node)) → host < plan.settings.hosts
      → (port : Port) → port_at (state plan h).ports host vm ≡ port → (IsHairpin port → ⊥) ⊎ GoesOn plan (state plan h)
  ripe_goes host vm installed there Absent is = inl (λ x. x)
  ripe_goes host vm installed there Running is = inl (λ x. x)
  ripe_goes host vm installed there Paused is = inl (λ x. x)
  ripe_goes host vm installed there Arriving is = inl (λ x. x)
  ripe_goes host vm installed there (Hairpin to entry) is =
      let s = state plan h in
      let logged : entry ≤ length s.programmes.log = subst (PinIn (length s.programmes.log)) is (pins_logged plan h r host vm) in
      inr (record {
        actor = Controller;
        is = tt;
        enabled = (host, vm, (to, entry, there, is, λ node at. omega (arith, logged, all_entries plan h r node at (installed node at))));
      })

  pins_or : ((node : Node) → IsNode plan.settings node → installed_of plan (state plan h) node ≡ length (programme_of plan (state plan h) node))
      → ((host vm : ℕ) → IsHairpin (port_at (state plan h).ports host vm) → ⊥) ⊎ GoesOn plan (state plan h)
  pins_or installed =
      let s = state plan h in
      ⊎_elim
      (λ (none : (host : ℕ) → host < plan.settings.hosts → (vm : ℕ) → vm < length plan.names → IsHairpin (port_at s.ports host vm) → ⊥).
      inl (λ host vm is. let at = pin_there plan h host vm is in none host at.0 vm at.1 is))
      (λ (g : GoesOn plan s). inr g)
      (search_below plan.settings.hosts (λ host. (vm : ℕ) → vm < length plan.names → IsHairpin (port_at s.ports host vm) → ⊥)
      (λ host there. search_below (length plan.names) (λ vm. IsHairpin (port_at s.ports host vm) → ⊥) (λ vm named. ripe_goes host vm installed there (port_at s.ports host vm) refl)))

  finish_goes : slice_get plan.steps (state plan h).next ≡ Some steps.Finish → GoesOn plan (state plan h)
  finish_goes told =
      let s = state plan h in
      let fits = (does plan h s.next steps.Finish sound refl told).fits in
      ⊎_elim (λ (over : IsOver plan s). driver_goes steps.Finish told over) (λ (g : GoesOn plan s). g) (over_or plan h sound r (free_at_end plan h sound r fits.holds) pins_or)

  step_goes : (step : Step) → slice_get plan.steps (state plan h).next ≡ Some step → GoesOn plan (state plan h)
  step_goes (steps.Append e) told = driver_goes (steps.Append e) told tt
  step_goes steps.Review told = driver_goes steps.Review told tt
  step_goes (steps.Hold node what) told = hold_goes node what told
  step_goes (steps.Free node what) told = driver_goes (steps.Free node what) told tt
  step_goes steps.Wait told =
      ⊎_elim (λ (rest : IsAtRest plan (state plan h)). driver_goes steps.Wait told rest) (λ (g : GoesOn plan (state plan h)). g) (rest_or plan h sound r)
  step_goes (steps.Inject i) told = inject_goes i told
  step_goes (steps.Blackout vm host) told = blackout_goes vm host told
  step_goes (steps.Resume vm) told = driver_goes (steps.Resume vm) told tt
  step_goes steps.Finish told = finish_goes told

  pub goes_on : (state plan h).next < length plan.steps → GoesOn plan (state plan h)
  goes_on l =
      ⊎_elim
      (λ (it : (step : Step) × ((state plan h).next < length plan.steps) × (slice_get plan.steps (state plan h).next ≡ Some step) × (get_or plan.steps (state plan h).next step ≡ step)).
      step_goes it.0 it.2)
      (λ (it : (length plan.steps ≤ (state plan h).next) × (slice_get plan.steps (state plan h).next ≡ None)). absurd (omega (arith, l, it.0)))
      (slice_get_cases plan.steps (state plan h).next).1
