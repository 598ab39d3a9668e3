-- What the steps of a sound plan do to the log and the ports: both go on following the plain state.
use Rattle.std.proofs.Common.{◌≡◌, ◌≢◌, ℕ, ◌<◌, Bool, true, false, ◌&&◌, ◌||◌, not, List, [], ◌∷◌, ◌++◌, length, set, replicate, refl, sym, ap, ◌∙◌, subst, arith, Some, None, length-set, ⊎_elim}
use Rattle.std.specs.Prelude.{if◌then◌else◌, ◌==◌, unwrap_or}
use Rattle.std.proofs.lemmas.Bool.{cases_eq}
use Rattle.std.proofs.lemmas.Grind.{common_steps}
use Rattle.std.proofs.lemmas.List.{get_or-set_same, get_or-set_other}
use Rattle.and_policy.specs.declared.entry.Entry.{Entry}
use Rattle.and_policy.specs.declared.entry.Entry.TheVariants as entries
use Rattle.and_policy.specs.declared.port.Port.{Port}
use Rattle.and_policy.specs.declared.port.Port.TheVariants.{Absent, Running, Paused, Arriving, Hairpin}
use Rattle.and_policy.specs.Logs.{is_live}
use Rattle.and_policy.specs.Owners.{place, or_else}
use Rattle.and_events.specs.declared.plan.Item.TheVariants as items
use Rattle.and_events.specs.declared.plan.Plan.{Plan}
use Rattle.and_events.specs.Ports.{ports_of, with_port, leaves_host, comes_to}
use Rattle.and_events.specs.Script.{Script, script_after, target_of}
use Rattle.and_events.specs.Sound.{Fits}
use Rattle.and_laws.specs.Sizes.{HasPorts}
use Rattle.and_laws.specs.LivePorts.{FitsPorts}
use Rattle.and_laws.proofs.Lives.{KeepsVms, KeepsPlaces, live_added, live_removed, live_kept, place_more, place_kept}
use Rattle.and_laws.proofs.Moving.{target_none, target_some, target_added, target_kept, target_gone, target_left}
use Rattle.and_laws.proofs.PortFits.{fits_as, fits_added, fits_removed, fits_paused, fits_arrived, comes_where}
use Rattle.and_laws.proofs.StepFacts.{added_anew, removed_at_rest, paused_at_rest, resumed_on_its_way}

-- the log and the ports are what the plain state says
pub record Follows (hosts : ℕ) (p : Script) (k : List Entry) (rows : List (List Port)) : Type 0 where
  pub log : k ≡ p.log
  pub ports : (v : ℕ) → FitsPorts hosts (is_live p.log v) (place p.log v) (target_of p v) (ports_of rows v)

-- ---- one VM's ports among all

pub of_one : (ports : List (List Port)) (vm : ℕ) (new : List Port) → vm < length ports → ports_of (set ports vm new) vm ≡ new
of_one ports vm new there = get_or-set_same ports vm new [] there

pub of_other : (ports : List (List Port)) (vm v : ℕ) (new : List Port) → vm ≢ v → ports_of (set ports vm new) v ≡ ports_of ports v
of_other ports vm v new n = get_or-set_other ports vm v new [] (λ e. n (sym e))

of_one_twice : (ports : List (List Port)) (vm a b : ℕ) (x y : Port) → vm < length ports → ports_of (with_port (with_port ports a vm x) b vm y) vm ≡ set (set (ports_of ports vm) a x) b y
of_one_twice ports vm a b x y there =
    let once : List (List Port) = with_port ports a vm x in
    of_one once vm (set (ports_of once vm) b y) (rw length-set there) ∙ ap (λ row. set row b y) (of_one ports vm (set (ports_of ports vm) a x) there)

of_other_twice : (ports : List (List Port)) (vm v a b : ℕ) (x y : Port) → vm ≢ v → ports_of (with_port (with_port ports a vm x) b vm y) v ≡ ports_of ports v
of_other_twice ports vm v a b x y n = of_other (with_port ports a vm x) vm v _ n ∙ of_other ports vm v _ n

-- what holds of this VM and of every other
pub this_or_other : (vm v : ℕ) (P : ℕ → Type 0) → P vm → (vm ≢ v → P v) → P v
this_or_other vm v P this other = ⊎_elim (λ (is : vm ≡ v). subst P is this) other (cases_eq vm v)

-- ---- tests of numbers

is_one : (vm : ℕ) → (vm == vm) ≡ true
is_one vm = grind arith

is_other : (vm v : ℕ) → vm ≢ v → (vm == v) ≡ false
is_other vm v n = grind (arith, common_steps)

or_true : (b c : Bool) → c ≡ true → (b || c) ≡ true
or_true true c e = refl
or_true false c e = e

or_as : (b c : Bool) → c ≡ false → (b || c) ≡ b
or_as true c e = refl
or_as false c e = e

and_not : (b c : Bool) → c ≡ true → (b && not c) ≡ false
and_not true true e = refl
and_not true false e = absurd (cc)
and_not false c e = refl

and_as : (b c : Bool) → c ≡ false → (b && not c) ≡ b
and_as true true e = absurd (cc)
and_as true false e = refl
and_as false c e = refl

-- ---- entries

module _ (plan : Plan) (p : Script) (k : List Entry) (ports : List (List Port)) (sizes : HasPorts plan ports) (follows : Follows plan.settings.hosts p k ports) where
  vm_there : (vm : ℕ) → vm < length plan.names → vm < length ports
  vm_there vm there = subst (λ n. vm < n) (sym sizes.vms) there

  one_more : (e : Entry) → k ++ e ∷ [] ≡ p.log ++ e ∷ []
  one_more e = ap (λ xs. xs ++ e ∷ []) follows.log

  pub other_entry : (e : Entry) → KeepsVms e → KeepsPlaces e → Follows plan.settings.hosts (script_after p (items.Entry e)) (k ++ e ∷ []) ports
  other_entry e vms places =
      record {
        log = one_more e;
        ports = λ v. fits_as plan.settings.hosts (live_kept p.log e v vms) (place_kept p.log e v places) refl refl (follows.ports v);
      }

  pub vm_added : (vm net mac ip host : ℕ) → Fits plan p (items.Entry (entries.AddVm vm net mac ip host)) → vm < length plan.names → Follows plan.settings.hosts (script_after p (items.Entry (entries.AddVm vm net mac ip host))) (k ++ entries.AddVm vm net mac ip host ∷ []) (with_port ports host vm Running)
  vm_added vm net mac ip host fits named =
      let e : Entry = entries.AddVm vm net mac ip host in
      let facts = added_anew plan p vm net mac ip host fits in
      let live : (v : ℕ) → is_live (p.log ++ e ∷ []) v ≡ (is_live p.log v || (vm == v)) = live_added p.log vm net mac ip host in
      let before : FitsPorts plan.settings.hosts false (place p.log vm) (target_of p vm) (ports_of ports vm) = fits_as plan.settings.hosts (sym facts.0) refl refl refl (follows.ports vm) in
      let at : place (p.log ++ e ∷ []) vm ≡ Some host = place_more p.log e vm ∙ ap (λ b. or_else (if b then Some host else None) (place p.log vm)) (is_one vm) in
      let here : FitsPorts plan.settings.hosts (is_live (p.log ++ e ∷ []) vm) (place (p.log ++ e ∷ []) vm) (target_of p vm) (ports_of (with_port ports host vm Running) vm) =
      fits_as plan.settings.hosts (live vm ∙ or_true (is_live p.log vm) (vm == vm) (is_one vm)) at before.0
      (of_one ports vm (set (ports_of ports vm) host Running) (vm_there vm named))
      (fits_added plan.settings.hosts host (place p.log vm) (target_of p vm) (ports_of ports vm) facts.1 (sizes.hosts vm named) before)
      in
      let elsewhere : (v : ℕ) → vm ≢ v → FitsPorts plan.settings.hosts (is_live (p.log ++ e ∷ []) v) (place (p.log ++ e ∷ []) v) (target_of p v) (ports_of (with_port ports host vm Running) v) =
      λ v n. fits_as plan.settings.hosts (live v ∙ or_as (is_live p.log v) (vm == v) (is_other vm v n))
      (place_more p.log e v ∙ ap (λ b. or_else (if b then Some host else None) (place p.log v)) (is_other vm v n))
      refl (of_other ports vm v (set (ports_of ports vm) host Running) n) (follows.ports v)
      in
      record {
        log = one_more e;
        ports = λ v. this_or_other vm v (λ u. FitsPorts plan.settings.hosts (is_live (p.log ++ e ∷ []) u) (place (p.log ++ e ∷ []) u) (target_of p u) (ports_of (with_port ports host vm Running) u)) here (elsewhere v);
      }

  pub vm_removed : (vm : ℕ) → Fits plan p (items.Entry (entries.RemoveVm vm)) → vm < length plan.names → Follows plan.settings.hosts (script_after p (items.Entry (entries.RemoveVm vm))) (k ++ entries.RemoveVm vm ∷ []) (set ports vm (replicate (length (ports_of ports vm)) Absent))
  vm_removed vm fits named =
      let e : Entry = entries.RemoveVm vm in
      let gone : List Port = replicate (length (ports_of ports vm)) Absent in
      let facts = removed_at_rest plan p vm fits in
      let live : (v : ℕ) → is_live (p.log ++ e ∷ []) v ≡ (is_live p.log v && not (vm == v)) = live_removed p.log vm in
      let at : (v : ℕ) → place (p.log ++ e ∷ []) v ≡ place p.log v = λ v. place_kept p.log e v tt in
      let here : FitsPorts plan.settings.hosts (is_live (p.log ++ e ∷ []) vm) (place (p.log ++ e ∷ []) vm) (target_of p vm) (ports_of (set ports vm gone) vm) =
      fits_as plan.settings.hosts (live vm ∙ and_not (is_live p.log vm) (vm == vm) (is_one vm)) (at vm) (target_none p vm facts.1)
      (of_one ports vm gone (vm_there vm named)) (fits_removed plan.settings.hosts (length (ports_of ports vm)) (place p.log vm))
      in
      let elsewhere : (v : ℕ) → vm ≢ v → FitsPorts plan.settings.hosts (is_live (p.log ++ e ∷ []) v) (place (p.log ++ e ∷ []) v) (target_of p v) (ports_of (set ports vm gone) v) =
      λ v n. fits_as plan.settings.hosts (live v ∙ and_as (is_live p.log v) (vm == v) (is_other vm v n)) (at v) refl (of_other ports vm v gone n) (follows.ports v)
      in
      record {
        log = one_more e;
        ports = λ v. this_or_other vm v (λ u. FitsPorts plan.settings.hosts (is_live (p.log ++ e ∷ []) u) (place (p.log ++ e ∷ []) u) (target_of p u) (ports_of (set ports vm gone) u)) here (elsewhere v);
      }

  -- ---- steps of a blackout

  pub vm_paused : (vm host : ℕ) → Fits plan p (items.Blackout vm host) → vm < length plan.names → Follows plan.settings.hosts (script_after p (items.Blackout vm host)) k (with_port (with_port ports (unwrap_or (place k vm) 0) vm Paused) host vm Arriving)
  vm_paused vm host fits named =
      let q : Script = script_after p (items.Blackout vm host) in
      let facts = paused_at_rest plan p vm host fits in
      let old : ℕ = unwrap_or (place k vm) 0 in
      let old_is : unwrap_or (place p.log vm) 0 ≡ old = ap (λ xs. unwrap_or (place xs vm) 0) (sym follows.log) in
      let new : List (List Port) = with_port (with_port ports old vm Paused) host vm Arriving in
      let before : FitsPorts plan.settings.hosts true (place p.log vm) None (ports_of ports vm) =
      fits_as plan.settings.hosts (sym facts.0) refl (sym (target_none p vm facts.2)) refl (follows.ports vm)
      in
      let paused : FitsPorts plan.settings.hosts true (place p.log vm) (Some host) (set (set (ports_of ports vm) old Paused) host Arriving) =
      subst (λ x. FitsPorts plan.settings.hosts true (place p.log vm) (Some host) (set (set (ports_of ports vm) x Paused) host Arriving)) old_is
      (fits_paused plan.settings.hosts host (place p.log vm) (ports_of ports vm) facts.1 (sizes.hosts vm named) facts.3 before)
      in
      let here : FitsPorts plan.settings.hosts (is_live p.log vm) (place p.log vm) (target_of q vm) (ports_of new vm) =
      fits_as plan.settings.hosts facts.0 refl (target_added p vm host facts.2) (of_one_twice ports vm old host Paused Arriving (vm_there vm named)) paused
      in
      let elsewhere : (v : ℕ) → vm ≢ v → FitsPorts plan.settings.hosts (is_live p.log v) (place p.log v) (target_of q v) (ports_of new v) =
      λ v n. fits_as plan.settings.hosts refl refl (target_kept p vm host v n) (of_other_twice ports vm v old host Paused Arriving n) (follows.ports v)
      in
      record {
        log = follows.log;
        ports = λ v. this_or_other vm v (λ u. FitsPorts plan.settings.hosts (is_live p.log u) (place p.log u) (target_of q u) (ports_of new u)) here (elsewhere v);
      }

  pub vm_resumed : (vm entry : ℕ) → Fits plan p (items.Resume vm) → vm < length plan.names → Follows plan.settings.hosts (script_after p (items.Resume vm)) (k ++ entries.Place vm (comes_to (ports_of ports vm)) ∷ [])
      (with_port (with_port ports (leaves_host (ports_of ports vm)) vm (Hairpin (comes_to (ports_of ports vm)) entry)) (comes_to (ports_of ports vm)) vm Running)
  vm_resumed vm entry fits named =
      let row : List Port = ports_of ports vm in
      let q : Script = script_after p (items.Resume vm) in
      let to : ℕ = unwrap_or (target_of p vm) 0 in
      let e : Entry = entries.Place vm to in
      let facts = resumed_on_its_way plan p vm fits in
      let target = target_some p vm facts.1 in
      let to_is : to ≡ target.0 = ap (λ o. unwrap_or o 0) target.1 in
      let before : FitsPorts plan.settings.hosts true (place p.log vm) (Some target.0) row = fits_as plan.settings.hosts (sym facts.0) refl (sym target.1) refl (follows.ports vm) in
      let there : comes_to row ≡ to = comes_where plan.settings.hosts target.0 (place p.log vm) row before ∙ sym to_is in
      let hairpin : Port = Hairpin (comes_to row) entry in
      let new : List (List Port) = with_port (with_port ports (leaves_host row) vm hairpin) (comes_to row) vm Running in
      let live : (v : ℕ) → is_live (p.log ++ e ∷ []) v ≡ is_live p.log v = λ v. live_kept p.log e v tt in
      let at : (v : ℕ) → place (p.log ++ e ∷ []) v ≡ or_else (if vm == v then Some to else None) (place p.log v) = λ v. place_more p.log e v in
      let arrived : FitsPorts plan.settings.hosts true (Some target.0) None (set (set row (leaves_host row) hairpin) (comes_to row) Running) =
      fits_arrived plan.settings.hosts entry target.0 (place p.log vm) row (sizes.hosts vm named) before
      in
      let here : FitsPorts plan.settings.hosts (is_live (p.log ++ e ∷ []) vm) (place (p.log ++ e ∷ []) vm) (target_of q vm) (ports_of new vm) =
      fits_as plan.settings.hosts (live vm ∙ facts.0) (at vm ∙ (ap (λ b. or_else (if b then Some to else None) (place p.log vm)) (is_one vm) ∙ ap Some to_is)) (target_gone p vm)
      (of_one_twice ports vm (leaves_host row) (comes_to row) hairpin Running (vm_there vm named)) arrived
      in
      let elsewhere : (v : ℕ) → vm ≢ v → FitsPorts plan.settings.hosts (is_live (p.log ++ e ∷ []) v) (place (p.log ++ e ∷ []) v) (target_of q v) (ports_of new v) =
      λ v n. fits_as plan.settings.hosts (live v) (at v ∙ ap (λ b. or_else (if b then Some to else None) (place p.log v)) (is_other vm v n)) (target_left p vm v n)
      (of_other_twice ports vm v (leaves_host row) (comes_to row) hairpin Running n) (follows.ports v)
      in
      record {
        log = ap (λ xs. xs ++ entries.Place vm (comes_to row) ∷ []) follows.log ∙ ap (λ x. p.log ++ entries.Place vm x ∷ []) there;
        ports = λ v. this_or_other vm v (λ u. FitsPorts plan.settings.hosts (is_live (p.log ++ e ∷ []) u) (place (p.log ++ e ∷ []) u) (target_of q u) (ports_of new u)) here (elsewhere v);
      }
