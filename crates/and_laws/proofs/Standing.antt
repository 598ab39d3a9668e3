-- Where a port can come to stand: where one stood, or at a host whose installs are not held. And the entries of hairpins.
use Rattle.std.proofs.Common.{◌≡◌, ◌≢◌, ℕ, zero, suc, ◌+◌, ◌≤◌, Bool, true, false, List, [], ◌∷◌, ◌++◌, length, get_or, set, replicate, refl, sym, ap, ◌∙◌, subst, arith, Option, Some, None, inl, inr, ◌⊎◌}
use Rattle.std.specs.Prelude.{◌==◌, unwrap_or}
use Rattle.std.proofs.lemmas.Grind.{common_steps}
use Rattle.std.proofs.lemmas.List.{length-append}
use Rattle.and_policy.specs.declared.entry.Entry.{Entry}
use Rattle.and_policy.specs.declared.entry.Entry.TheVariants as entry_kinds
use Rattle.and_policy.specs.declared.port.Port.{Port}
use Rattle.and_policy.specs.declared.port.Port.TheVariants.{Absent, Running, Paused, Arriving, Hairpin}
use Rattle.and_policy.specs.Owners.{place}
use Rattle.and_events.specs.declared.event.Event.{Event}
use Rattle.and_events.specs.declared.event.Event.TheVariants.{Append, Review, Blackout, Resume, Announce, Installed, Unpin}
use Rattle.and_events.specs.declared.event.Node.{Node}
use Rattle.and_events.specs.declared.event.Node.TheVariants.{Host}
use Rattle.and_events.specs.declared.plan.What.TheVariants.{Install}
use Rattle.and_events.specs.declared.plan.Item.TheVariants as items
use Rattle.and_events.specs.declared.plan.Step.TheVariants as steps
use Rattle.and_events.specs.declared.plan.Plan.{Plan}
use Rattle.and_events.specs.Places.{IsNode}
use Rattle.and_events.specs.Ports.{Pause, Arrive, ports_of, port_at, with_port, ports_after, leaves_host, comes_to}
use Rattle.and_events.specs.Programming.{programmes_after}
use Rattle.and_events.specs.Script.{holds_at}
use Rattle.and_events.specs.Sound.{IsSound, Fits}
use Rattle.and_events.specs.State.{state, start, after, word_of, word_of_step, ports_move_of, ports_move_of_step, ports_move_of_entry}
use Rattle.and_events.specs.Legal.{Legal, install_held}
use Rattle.and_events.specs.Run.{Run}
use Rattle.and_laws.specs.LivePorts.{FitsPorts, without_hairpin, port_seen, resting_port, moving_port}
use Rattle.and_laws.specs.Scripted.{script_at}
use Rattle.and_laws.proofs.Following.{follows}
use Rattle.and_laws.proofs.Holding.{holding}
use Rattle.and_laws.proofs.Moving.{target_none, target_some}
use Rattle.and_laws.proofs.PortFits.{fits_as}
use Rattle.and_laws.proofs.PortMoves.{leaves, comes}
use Rattle.and_laws.proofs.Rows.{set_at, replicate_at}
use Rattle.and_laws.proofs.StepFacts.{added_anew, added_where_free, paused_at_rest, resumed_on_its_way}
use Rattle.and_laws.proofs.Steps.{does}

-- ---- one port that is written

port_moved : (ports : List (List Port)) (host vm h v : ℕ) (x : Port) (Q : Port → Type 0) → Q (port_at ports h v) → (host ≡ h → vm ≡ v → Q x) → Q (port_at (with_port ports host vm x) h v)
port_moved ports host vm h v x Q old new =
    let none : List Port = [] in
    set_at ports vm v (set (ports_of ports vm) host x) none (λ row. Q (get_or row h Absent)) old
    (λ is. set_at (ports_of ports vm) host h x Absent Q (subst (λ u. Q (port_at ports h u)) (sym is) old) (λ at. new at is))

port_halted : (ports : List (List Port)) (n vm h v : ℕ) (Q : Port → Type 0) → Q (port_at ports h v) → Q Absent → Q (port_at (set ports vm (replicate n Absent)) h v)
port_halted ports n vm h v Q old absent =
    let none : List Port = [] in
    set_at ports vm v (replicate n Absent) none (λ row. Q (get_or row h Absent)) old (λ is. subst Q (sym (replicate_at n h Absent)) absent)

-- ---- where a live VM's ports stand

stands_there : (ports : List Port) (host : ℕ) (port : Port) → port_seen ports host ≡ port → port ≢ Absent → get_or ports host Absent ≢ Absent
stands_there ports host port seen stands none = stands (sym seen ∙ ap without_hairpin none)

pub home_stands : (hosts : ℕ) (at : Option ℕ) (ports : List Port) → FitsPorts hosts true at None ports → get_or ports (unwrap_or at 0) Absent ≢ Absent
home_stands hosts None ports f = absurd f
home_stands hosts (Some home) ports (inside, rests) =
    let same : resting_port home home ≡ Running = let is : (home == home) ≡ true = grind arith in rw is refl in
    stands_there ports home Running (rests home ∙ same) (λ e. absurd (cc))

record BothStand (ports : List Port) : Type 0 where
  pub old : get_or ports (leaves_host ports) Absent ≢ Absent
  pub new : get_or ports (comes_to ports) Absent ≢ Absent

both_stand : (hosts to : ℕ) (at : Option ℕ) (ports : List Port) → FitsPorts hosts true at (Some to) ports → BothStand ports
both_stand hosts to None ports f = absurd f
both_stand hosts to (Some home) ports (inside, there, apart, moves) =
    let first : moving_port home to home ≡ Paused = let is : (home == home) ≡ true = grind arith in rw is refl in
    let second : moving_port home to to ≡ Arriving =
    let no : (to == home) ≡ false = grind (arith, common_steps) in
    let is : (to == to) ≡ true = grind arith in rw (no, is) refl in
    record {
      old = subst (λ k. get_or ports k Absent ≢ Absent) (sym (leaves ports home to apart moves)) (stands_there ports home Paused (moves home ∙ first) (λ e. absurd (cc)));
      new = subst (λ k. get_or ports k Absent ≢ Absent) (sym (comes ports home to apart moves)) (stands_there ports to Arriving (moves to ∙ second) (λ e. absurd (cc)));
    }

-- a VM that has a port is live
pub stands_live : (hosts : ℕ) (live : Bool) (at to : Option ℕ) (ports : List Port) (host : ℕ) → FitsPorts hosts live at to ports → get_or ports host Absent ≢ Absent → live ≡ true
stands_live hosts true at to ports host f stands = refl
stands_live hosts false at to ports host f stands = absurd (stands (f.1 host))

-- ---- a run

module _ (plan : Plan) (h : List Event) (sound : IsSound plan) (r : Run plan h) where
  abbrev Stood : ℕ → ℕ → Type 0
  Stood host vm = (port_at (state plan h).ports host vm ≢ Absent) ⊎ (install_held plan (state plan h) (Host host) ≡ false)

  -- installs are held at no node where the plain state holds none
  pub not_held : (node : Node) → IsNode plan.settings node → holds_at (script_at plan h) node Install ≡ false → install_held plan (state plan h) node ≡ false
  not_held node there free = by_held (install_held plan (state plan h) node) refl
    where
      by_held : (b : Bool) → install_held plan (state plan h) node ≡ b → b ≡ false
      by_held false e = refl
      by_held true e = absurd (let no_way : false ≡ true = sym free ∙ holding plan h sound r node Install there e in cc)

  by_entry : (e : Entry) → Fits plan (script_at plan h) (items.Entry e) → (host vm : ℕ) → port_at (ports_after (state plan h).ports (ports_move_of_entry e)) host vm ≢ Absent → Stood host vm
  unfolding ports_after
  by_entry (entry_kinds.AddVm v net mac ip to) fits host vm =
      port_moved (state plan h).ports to v host vm Running (λ p. p ≢ Absent → Stood host vm) (λ n. inl n)
      (λ at is n.
      inr (subst (λ x. install_held plan (state plan h) (Host x) ≡ false) at
      (not_held (Host to) (added_anew plan (script_at plan h) v net mac ip to fits).1 (added_where_free plan (script_at plan h) v net mac ip to fits))))
  by_entry (entry_kinds.RemoveVm v) fits host vm =
      port_halted (state plan h).ports _ v host vm (λ p. p ≢ Absent → Stood host vm) (λ n. inl n) (λ n. absurd (n refl))
  by_entry e fits host vm = λ n. inl n

  by_pause : (v to : ℕ) → Fits plan (script_at plan h) (items.Blackout v to) → (host vm : ℕ)
      → port_at (ports_after (state plan h).ports (Pause v (unwrap_or (place (state plan h).programmes.log v) 0) to)) host vm ≢ Absent → Stood host vm
  unfolding ports_after
  by_pause v to fits host vm =
      let s = state plan h in
      let p = script_at plan h in
      let f = follows plan h sound r in
      let facts = paused_at_rest plan p v to fits in
      let old : ℕ = unwrap_or (place s.programmes.log v) 0 in
      let rests : FitsPorts plan.settings.hosts true (place s.programmes.log v) None (ports_of s.ports v) =
      fits_as plan.settings.hosts (sym facts.0) (ap (λ k. place k v) f.log) (sym (target_none p v facts.2)) refl (f.ports v) in
      let stands : port_at s.ports old v ≢ Absent = home_stands plan.settings.hosts (place s.programmes.log v) (ports_of s.ports v) rests in
      port_moved (with_port s.ports old v Paused) to v host vm Arriving (λ x. x ≢ Absent → Stood host vm)
      (port_moved s.ports old v host vm Paused (λ x. x ≢ Absent → Stood host vm) (λ n. inl n)
      (λ at is n. inl (subst (λ x. port_at s.ports x vm ≢ Absent) at (subst (λ u. port_at s.ports old u ≢ Absent) is stands))))
      (λ at is n. inr (subst (λ x. install_held plan s (Host x) ≡ false) at (not_held (Host to) facts.1 facts.4)))

  by_arrival : (v entry : ℕ) → Fits plan (script_at plan h) (items.Resume v) → (host vm : ℕ)
      → port_at (ports_after (state plan h).ports (Arrive v (leaves_host (ports_of (state plan h).ports v)) (comes_to (ports_of (state plan h).ports v)) entry)) host vm ≢ Absent → Stood host vm
  unfolding ports_after
  by_arrival v entry fits host vm =
      let s = state plan h in
      let p = script_at plan h in
      let row : List Port = ports_of s.ports v in
      let f = follows plan h sound r in
      let facts = resumed_on_its_way plan p v fits in
      let target = target_some p v facts.1 in
      let moves : FitsPorts plan.settings.hosts true (place p.log v) (Some target.0) row =
      fits_as plan.settings.hosts (sym facts.0) refl (sym target.1) refl (f.ports v) in
      let stand = both_stand plan.settings.hosts target.0 (place p.log v) row moves in
      let hairpin : Port = Hairpin (comes_to row) entry in
      port_moved (with_port s.ports (leaves_host row) v hairpin) (comes_to row) v host vm Running (λ x. x ≢ Absent → Stood host vm)
      (port_moved s.ports (leaves_host row) v host vm hairpin (λ x. x ≢ Absent → Stood host vm) (λ n. inl n)
      (λ at is n. inl (subst (λ x. port_at s.ports x vm ≢ Absent) at (subst (λ u. port_at s.ports (leaves_host row) u ≢ Absent) is stand.old))))
      (λ at is n. inl (subst (λ x. port_at s.ports x vm ≢ Absent) at (subst (λ u. port_at s.ports (comes_to row) u ≢ Absent) is stand.new)))

-- a port that stands after an event stood before, or its host's installs are not held
pub stood : (plan : Plan) (e : Event) (h : List Event) → IsSound plan → Run plan (e ∷ h) → (host vm : ℕ) → port_at (state plan (e ∷ h)).ports host vm ≢ Absent
    → (port_at (state plan h).ports host vm ≢ Absent) ⊎ (install_held plan (state plan h) (Host host) ≡ false)
unfolding Run Legal state after ports_move_of ports_after
stood plan (Append n) h sound r host vm stands =
    let d = does plan h n (steps.Append r.1.0) sound r.1.1.0 r.1.1.1 in
    by_entry plan h sound r.0 r.1.0 d.fits.0 host vm
    (subst (λ o. port_at (ports_after (state plan h).ports (ports_move_of_step (state plan h) o)) host vm ≢ Absent) r.1.1.1 stands)
stood plan (Blackout n) h sound r host vm stands =
    let d = does plan h n (steps.Blackout r.1.0 r.1.1) sound r.1.2.0 r.1.2.1 in
    by_pause plan h sound r.0 r.1.0 r.1.1 d.fits.0 host vm
    (subst (λ o. port_at (ports_after (state plan h).ports (ports_move_of_step (state plan h) o)) host vm ≢ Absent) r.1.2.1 stands)
stood plan (Resume n) h sound r host vm stands =
    let d = does plan h n (steps.Resume r.1.0) sound r.1.1.0 r.1.1.1 in
    by_arrival plan h sound r.0 r.1.0 _ d.fits.0 host vm
    (subst (λ o. port_at (ports_after (state plan h).ports (ports_move_of_step (state plan h) o)) host vm ≢ Absent) r.1.1.1 stands)
stood plan (Unpin at v) h sound r host vm stands =
    port_moved (state plan h).ports at v host vm Absent
    (λ x. x ≢ Absent → (port_at (state plan h).ports host vm ≢ Absent) ⊎ (install_held plan (state plan h) (Host host) ≡ false)) (λ n. inl n) (λ here is n. absurd (n refl)) stands
stood plan e h sound r host vm stands = inl stands

-- ---- the entries of hairpins

-- a hairpin's entry has a number in the log
abbrev pub PinIn : ℕ → Port → Type 0
PinIn n (Hairpin to entry) = entry ≤ n
PinIn n _ = Unit {0}

pin_longer : (m n : ℕ) (port : Port) → m ≤ n → PinIn m port → PinIn n port
pin_longer m n (Hairpin to entry) l p = omega (arith, l, p)
pin_longer m n Absent l p = tt
pin_longer m n Running l p = tt
pin_longer m n Paused l p = tt
pin_longer m n Arriving l p = tt

abbrev PinsIn : ℕ → List (List Port) → Type 0
PinsIn n ports = (host vm : ℕ) → PinIn n (port_at ports host vm)

entry_pins : (n : ℕ) (ports : List (List Port)) (e : Entry) → PinsIn n ports → PinsIn n (ports_after ports (ports_move_of_entry e))
unfolding ports_after
entry_pins n ports (entry_kinds.AddVm v net mac ip to) p host vm = port_moved ports to v host vm Running (PinIn n) (p host vm) (λ at is. tt)
entry_pins n ports (entry_kinds.RemoveVm v) p host vm = port_halted ports _ v host vm (PinIn n) (p host vm) tt
entry_pins n ports e p host vm = p host vm

pub pins_logged : (plan : Plan) (h : List Event) → Run plan h → (host vm : ℕ) → PinIn (length (state plan h).programmes.log) (port_at (state plan h).ports host vm)
unfolding Run Legal state start after word_of ports_move_of programmes_after ports_after
pins_logged plan [] r host vm = none_there (length plan.names) vm
  where
    none_there : (n v : ℕ) → PinIn 0 (port_at (replicate n (replicate plan.settings.hosts Absent)) host v)
    none_there n v = subst (PinIn 0) (sym (absent_at n v)) tt
      where
        absent_at : (n v : ℕ) → port_at (replicate n (replicate plan.settings.hosts Absent)) host v ≡ Absent
        absent_at zero v = refl
        absent_at (suc n) zero = replicate_at plan.settings.hosts host Absent
        absent_at (suc n) (suc v) = absent_at n v
pins_logged plan (Append n ∷ h) r host vm =
    let s = state plan h in
    let e : Entry = r.1.0 in
    let more : length s.programmes.log ≤ length (s.programmes.log ++ e ∷ []) = omega (arith, length-append s.programmes.log (e ∷ [])) in
    subst (λ o. PinIn (length (programmes_after s.programmes (word_of_step plan s o)).log) (port_at (ports_after s.ports (ports_move_of_step s o)) host vm)) (sym r.1.1.1)
    (entry_pins (length (s.programmes.log ++ e ∷ [])) s.ports e (λ a b. pin_longer _ _ (port_at s.ports a b) more (pins_logged plan h r.0 a b)) host vm)
pins_logged plan (Review n ∷ h) r host vm =
    let s = state plan h in
    subst (λ o. PinIn (length (programmes_after s.programmes (word_of_step plan s o)).log) (port_at s.ports host vm)) (sym r.1.1) (pins_logged plan h r.0 host vm)
pins_logged plan (Blackout n ∷ h) r host vm =
    let s = state plan h in
    let k : ℕ = length s.programmes.log in
    subst (λ o. PinIn k (port_at (ports_after s.ports (ports_move_of_step s o)) host vm)) (sym r.1.2.1)
    (port_moved (with_port s.ports (unwrap_or (place s.programmes.log r.1.0) 0) r.1.0 Paused) r.1.1 r.1.0 host vm Arriving (PinIn k)
    (port_moved s.ports (unwrap_or (place s.programmes.log r.1.0) 0) r.1.0 host vm Paused (PinIn k) (pins_logged plan h r.0 host vm) (λ at is. tt)) (λ at is. tt))
pins_logged plan (Resume n ∷ h) r host vm =
    let s = state plan h in
    let v : ℕ = r.1.0 in
    let row : List Port = ports_of s.ports v in
    let e : Entry = entry_kinds.Place v (comes_to row) in
    let k : ℕ = length (s.programmes.log ++ e ∷ []) in
    let more : length s.programmes.log + 1 ≤ k = omega (arith, length-append s.programmes.log (e ∷ [])) in
    let before : PinIn k (port_at s.ports host vm) = pin_longer (length s.programmes.log) k (port_at s.ports host vm) (omega (arith, more)) (pins_logged plan h r.0 host vm) in
    let hairpin : Port = Hairpin (comes_to row) (length s.programmes.log + 1) in
    subst (λ o. PinIn (length (programmes_after s.programmes (word_of_step plan s o)).log) (port_at (ports_after s.ports (ports_move_of_step s o)) host vm)) (sym r.1.1.1)
    (port_moved (with_port s.ports (leaves_host row) v hairpin) (comes_to row) v host vm Running (PinIn k)
    (port_moved s.ports (leaves_host row) v host vm hairpin (PinIn k) before (λ at is. more)) (λ at is. tt))
pins_logged plan (Unpin at v ∷ h) r host vm = port_moved (state plan h).ports at v host vm Absent (PinIn (length (state plan h).programmes.log)) (pins_logged plan h r.0 host vm) (λ here is. tt)
pins_logged plan (Announce node upto ∷ h) r host vm = pins_logged plan h r.0 host vm
pins_logged plan (Installed node upto ∷ h) r host vm = pins_logged plan h r.0 host vm
pins_logged plan (e ∷ h) r host vm = pins_logged plan h r.0 host vm
