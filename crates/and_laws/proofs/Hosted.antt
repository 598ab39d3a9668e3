-- Every entry of a sound plan's log names a host of the plan, so a route and a look-up lead to one.
use Rattle.std.proofs.Common.{◌≡◌, ℕ, ◌<◌, Bool, true, false, ◌&&◌, not, cond, List, [], ◌∷◌, ◌++◌, refl, subst, arith, Option, Some, None}
use Rattle.std.specs.Prelude.{◌==◌, if◌then◌else◌, unwrap_or}
use Rattle.std.specs.List.{find, filter}
use Rattle.and_policy.specs.declared.entry.Entry.{Entry}
use Rattle.and_policy.specs.declared.entry.Entry.TheVariants.{AddVm, Place}
use Rattle.and_policy.specs.declared.decision.Name.{Name}
use Rattle.and_policy.specs.declared.decision.Routing.{Routing}
use Rattle.and_policy.specs.declared.decision.Routing.TheVariants as routings
use Rattle.and_policy.specs.declared.decision.Routed.TheVariants as routeds
use Rattle.and_policy.specs.declared.decision.Located.TheVariants as locateds
use Rattle.and_policy.specs.Logs.{Vm, vms}
use Rattle.and_policy.specs.Routes.{route}
use Rattle.and_policy.specs.Owners.{place, host_by, or_else, owner_place, routed_at, routed_by, routed, located_at, located}
use Rattle.and_events.specs.declared.plan.Step.{Step}
use Rattle.and_events.specs.declared.plan.Step.TheVariants as steps
use Rattle.and_events.specs.declared.plan.Plan.{Plan}
use Rattle.and_events.specs.Script.{Script, Moving, at_start, target_of}
use Rattle.and_events.specs.Sound.{IsSound, StepsFit, StepFits, after_step, sent_after}
use Rattle.and_laws.proofs.StepFacts.{added_anew, paused_at_rest}

-- each host that an entry names is one of so many
abbrev pub IsHosted : ℕ → Entry → Type 0
IsHosted hosts (AddVm vm net mac ip host) = host < hosts
IsHosted hosts (Place vm host) = host < hosts
IsHosted hosts _ = Unit {0}

abbrev pub AreHosted : ℕ → List Entry → Type 0
AreHosted hosts [] = Unit {0}
AreHosted hosts (e ∷ later) = IsHosted hosts e × AreHosted hosts later

pub hosted_front : (hosts : ℕ) (xs ys : List Entry) → AreHosted hosts (xs ++ ys) → AreHosted hosts xs
hosted_front hosts [] ys all = tt
hosted_front hosts (x ∷ xs) ys all = (all.0, hosted_front hosts xs ys all.1)

hosted_more : (hosts : ℕ) (k : List Entry) (e : Entry) → AreHosted hosts k → IsHosted hosts e → AreHosted hosts (k ++ e ∷ [])
hosted_more hosts [] e all is = (is, tt)
hosted_more hosts (x ∷ k) e all is = (all.0, hosted_more hosts k e all.1 is)

-- ---- places

-- the host, where there is one
abbrev Within : ℕ → Option ℕ → Type 0
Within hosts None = Unit {0}
Within hosts (Some host) = host < hosts

by_entry : (hosts vm : ℕ) (e : Entry) → IsHosted hosts e → Within hosts (host_by vm e)
by_entry hosts vm (AddVm v net mac ip host) is = chosen (v == vm)
  where
    chosen : (b : Bool) → Within hosts (if b then Some host else None)
    chosen true = is
    chosen false = tt
by_entry hosts vm (Place v host) is = chosen (v == vm)
  where
    chosen : (b : Bool) → Within hosts (if b then Some host else None)
    chosen true = is
    chosen false = tt
by_entry hosts vm e is = tt

either : (hosts : ℕ) (a b : Option ℕ) → Within hosts a → Within hosts b → Within hosts (or_else a b)
either hosts (Some host) b w v = w
either hosts None b w v = v

place_within : (hosts : ℕ) (k : List Entry) (vm : ℕ) → AreHosted hosts k → Within hosts (place k vm)
place_within hosts [] vm all = tt
place_within hosts (e ∷ k) vm all = either hosts (place k vm) (host_by vm e) (place_within hosts k vm all.1) (by_entry hosts vm e all.0)

owner_within : (hosts : ℕ) (k : List Entry) (net ip : ℕ) (o : Option Vm) → find (λ v. (v.net == net) && (v.ip == ip)) (vms k) ≡ o → AreHosted hosts k → Within hosts (owner_place k net ip)
owner_within hosts k net ip None f all = rw f tt
owner_within hosts k net ip (Some v) f all = rw f (place_within hosts k v.number all)

leads_within : (hosts : ℕ) (b by : Name) (n net host : ℕ) (o : Option ℕ) → Within hosts o → routed_at b n o ≡ routeds.To by net host → host < hosts
leads_within hosts b by n net host None w said = absurd (let no_way : routeds.NoOwner b ≡ routeds.To by net host = said in cc)
leads_within hosts b by n net host (Some h) w said = let same : h ≡ host = cc in subst (λ x. x < hosts) same w

pub routed_within : (hosts : ℕ) (k : List Entry) (own ip : ℕ) (by : Name) (net host : ℕ) → AreHosted hosts k → routed k own ip ≡ routeds.To by net host → host < hosts
routed_within hosts k own ip by net host all said = by_route (route k own ip) said
  where
    by_route : (r : Routing) → routed_by k ip r ≡ routeds.To by net host → host < hosts
    by_route (routings.Dropped b) said = absurd (let no_way : routeds.Dropped b ≡ routeds.To by net host = said in cc)
    by_route (routings.Into b n) said = leads_within hosts b by n net host (owner_place k n ip) (owner_within hosts k n ip _ refl all) said

pub located_within : (hosts : ℕ) (k : List Entry) (net ip host : ℕ) → AreHosted hosts k → located k net ip ≡ locateds.To host → host < hosts
located_within hosts k net ip host all said = by_place (owner_place k net ip) (owner_within hosts k net ip _ refl all) said
  where
    by_place : (o : Option ℕ) → Within hosts o → located_at o ≡ locateds.To host → host < hosts
    by_place None w said = absurd (let no_way : locateds.NoOwner ≡ locateds.To host = said in cc)
    by_place (Some h) w said = let same : h ≡ host = cc in subst (λ x. x < hosts) same w

-- ---- the log of a sound plan

-- the VMs on their way go to hosts of the plan
abbrev AreBound : ℕ → List Moving → Type 0
AreBound hosts [] = Unit {0}
AreBound hosts (m ∷ later) = (m.to < hosts) × AreBound hosts later

bound_more : (hosts : ℕ) (ms : List Moving) (m : Moving) → AreBound hosts ms → m.to < hosts → AreBound hosts (ms ++ m ∷ [])
bound_more hosts [] m all is = (is, tt)
bound_more hosts (x ∷ ms) m all is = (all.0, bound_more hosts ms m all.1 is)

bound_filtered : (hosts : ℕ) (keep : Moving → Bool) (ms : List Moving) → AreBound hosts ms → AreBound hosts (filter keep ms)
bound_filtered hosts keep [] all = tt
bound_filtered hosts keep (m ∷ ms) all = kept (keep m) (bound_filtered hosts keep ms all.1)
  where
    kept : (b : Bool) → AreBound hosts (filter keep ms) → AreBound hosts (cond b (m ∷ filter keep ms) (filter keep ms))
    kept true later = (all.0, later)
    kept false later = later

found_bound : (hosts : ℕ) (q : Moving → Bool) (ms : List Moving) (m : Moving) → AreBound hosts ms → find q ms ≡ Some m → m.to < hosts
found_bound hosts q [] m all f = absurd (let nothing : None ≡ Some m = f in cc)
found_bound hosts q (x ∷ ms) m all f = found (q x) f (λ g. found_bound hosts q ms m all.1 g)
  where
    found : (b : Bool) → cond b (Some x) (find q ms) ≡ Some m → (find q ms ≡ Some m → m.to < hosts) → m.to < hosts
    found true g later = let same : x ≡ m = cc in subst (λ (y : Moving). y.to < hosts) same all.0
    found false g later = later g

target_within : (hosts : ℕ) (p : Script) (vm : ℕ) (o : Option Moving) → 0 < hosts → AreBound hosts p.moving → find (λ m. m.vm == vm) p.moving ≡ o → unwrap_or (target_of p vm) 0 < hosts
target_within hosts p vm None some all f = rw f some
target_within hosts p vm (Some m) some all f = rw f (found_bound hosts (λ m. m.vm == vm) p.moving m all f)

-- the hosts that the plain state names
pub record Hosted (hosts : ℕ) (p : Script) : Type 0 where
  pub log : AreHosted hosts p.log
  pub moving : AreBound hosts p.moving

entry_hosted : (plan : Plan) (p : Script) (sent : ℕ) (e : Entry) → StepFits plan p sent (steps.Append e) → IsHosted plan.settings.hosts e
entry_hosted plan p sent (AddVm vm net mac ip host) f = (added_anew plan p vm net mac ip host f.0).1
entry_hosted plan p sent (Place vm host) f = absurd f.2
entry_hosted plan p sent e f = tt

step_hosted : (plan : Plan) (p : Script) (sent : ℕ) (step : Step) → 0 < plan.settings.hosts → StepFits plan p sent step → Hosted plan.settings.hosts p → Hosted plan.settings.hosts (after_step p step)
step_hosted plan p sent (steps.Append e) some f h = record { log = hosted_more plan.settings.hosts p.log e h.log (entry_hosted plan p sent e f); moving = h.moving }
step_hosted plan p sent (steps.Blackout vm host) some f h =
    record { log = h.log; moving = bound_more plan.settings.hosts p.moving (record { vm = vm; to = host }) h.moving (paused_at_rest plan p vm host f.0).1 }
step_hosted plan p sent (steps.Resume vm) some f h =
    record {
      log = hosted_more plan.settings.hosts p.log (Place vm (unwrap_or (target_of p vm) 0)) h.log (target_within plan.settings.hosts p vm _ some h.moving refl);
      moving = bound_filtered plan.settings.hosts (λ m. not (m.vm == vm)) p.moving h.moving;
    }
step_hosted plan p sent step some f h = record { log = h.log; moving = h.moving }

whole_hosted : (plan : Plan) (p : Script) (sent : ℕ) (ss : List Step) → 0 < plan.settings.hosts → StepsFit plan p sent ss → Hosted plan.settings.hosts p → AreHosted plan.settings.hosts plan.log
whole_hosted plan p sent [] some f h = absurd f
whole_hosted plan p sent (steps.Finish ∷ []) some f h = subst (AreHosted plan.settings.hosts) f.log h.log
whole_hosted plan p sent (steps.Finish ∷ other ∷ later) some f h = absurd f.0
whole_hosted plan p sent (step ∷ later) some f h =
    whole_hosted plan (after_step p step) (sent_after sent step) later some f.1 (step_hosted plan p sent step some f.0 h)

pub log_hosted : (plan : Plan) → IsSound plan → AreHosted plan.settings.hosts plan.log
log_hosted plan sound = whole_hosted plan at_start 0 plan.steps (omega (arith, sound.settings.hosts.0)) sound.steps (record { log = tt; moving = tt })
