-- What the log of a plan has: the numbers of its entries are in their ranges.
use Rattle.std.proofs.Common.{◌≡◌, ℕ, ◌<◌, ◌≤◌, ◌^◌, Bool, true, false, cond, List, [], ◌∷◌, ◌++◌, length, refl, sym, subst, arith}
use Rattle.std.specs.Prelude.{◌==◌, unwrap_or}
use Rattle.std.specs.List.{All}
use Rattle.std.proofs.lemmas.List.Elements.{All-nil, All-cons, All-push, All-head, All-tail}
use Rattle.and_policy.specs.declared.entry.Entry.{Entry}
use Rattle.and_policy.specs.declared.entry.Entry.TheVariants as entries
use Rattle.and_policy.specs.Programmes.{net_of_vm}
use Rattle.and_events.specs.declared.event.Event.{Event}
use Rattle.and_events.specs.declared.plan.Step.{Step}
use Rattle.and_events.specs.declared.plan.Step.TheVariants.{Append, Resume, Finish}
use Rattle.and_events.specs.declared.plan.Plan.{Plan}
use Rattle.and_events.specs.Script.{Script, at_start}
use Rattle.and_events.specs.Sound.{IsSound, StepFits, StepsFit, after_step, sent_after}
use Rattle.and_events.specs.State.{state, source_net, packet_at}
use Rattle.and_events.specs.Run.{Run}
use Rattle.and_laws.proofs.Hosted.{IsHosted, AreHosted, log_hosted}
use Rattle.and_laws.proofs.Numbers.{log_is_prefix}

-- a VM that is added has a name, a network within its 24 bits and a host that is there; one that moves goes to a host that is there
abbrev pub IsKnown : Plan → Entry → Type 0
IsKnown plan (entries.AddVm vm net mac ip host) = (vm < length plan.names) × (net ≤ 16777215) × (host < plan.settings.hosts)
IsKnown plan (entries.Place vm host) = host < plan.settings.hosts
IsKnown plan _ = Unit {0}

-- ---- all but the hosts

abbrev IsRanged : ℕ → Entry → Type 0
IsRanged names (entries.AddVm vm net mac ip host) = (vm < names) × (net ≤ 16777215)
IsRanged names _ = Unit {0}

ranged_entry : (plan : Plan) (p : Script) (sent : ℕ) (e : Entry) → StepFits plan p sent (Append e) → IsRanged (length plan.names) e
ranged_entry plan p sent (entries.AddVm vm net mac ip host) f = (f.1.0, f.1.1.1)
ranged_entry plan p sent e f = tt

-- one step more of the script
ranged_step : (plan : Plan) (p : Script) (sent : ℕ) (step : Step) → StepFits plan p sent step → All (IsRanged (length plan.names)) p.log → All (IsRanged (length plan.names)) (after_step p step).log
ranged_step plan p sent (Append e) f all = All-push (IsRanged (length plan.names)) p.log e all (ranged_entry plan p sent e f)
ranged_step plan p sent (Resume vm) f all = All-push (IsRanged (length plan.names)) p.log (entries.Place vm _) all tt
ranged_step plan p sent step f all = all

ranged_to_end : (plan : Plan) (p : Script) (sent : ℕ) (ss : List Step) → StepsFit plan p sent ss → All (IsRanged (length plan.names)) p.log → All (IsRanged (length plan.names)) plan.log
ranged_to_end plan p sent [] f all = absurd f
ranged_to_end plan p sent (Finish ∷ []) f all = subst (All (IsRanged (length plan.names))) f.log all
ranged_to_end plan p sent (Finish ∷ other ∷ later) f all = absurd f.0
ranged_to_end plan p sent (step ∷ later) f all =
    ranged_to_end plan (after_step p step) (sent_after sent step) later f.1 (ranged_step plan p sent step f.0 all)

-- ---- with the hosts

known_entry : (plan : Plan) (e : Entry) → IsRanged (length plan.names) e → IsHosted plan.settings.hosts e → IsKnown plan e
known_entry plan (entries.AddVm vm net mac ip host) ranged there = (ranged.0, ranged.1, there)
known_entry plan (entries.Place vm host) ranged there = there
known_entry plan e ranged there = tt

known_all : (plan : Plan) (k : List Entry) → All (IsRanged (length plan.names)) k → AreHosted plan.settings.hosts k → All (IsKnown plan) k
known_all plan [] ranged there = All-nil (IsKnown plan)
known_all plan (e ∷ k) ranged there =
    All-cons (IsKnown plan) e k (known_entry plan e (All-head (IsRanged (length plan.names)) e k ranged) there.0) (known_all plan k (All-tail (IsRanged (length plan.names)) e k ranged) there.1)

-- the whole log of the plan
pub known_plan : (plan : Plan) → IsSound plan → All (IsKnown plan) plan.log
known_plan plan sound =
    known_all plan plan.log (ranged_to_end plan at_start 0 plan.steps sound.steps (All-nil (IsRanged (length plan.names)))) (log_hosted plan sound)

front : (P : Entry → Type 0) (xs ys : List Entry) → All P (xs ++ ys) → All P xs
front P [] ys all = All-nil P
front P (x ∷ xs) ys all = All-cons P x xs (All-head P x (xs ++ ys) all) (front P xs ys (All-tail P x (xs ++ ys) all))

-- so is the log of a run, which is its beginning
pub known_log : (plan : Plan) (h : List Event) → IsSound plan → Run plan h → All (IsKnown plan) (state plan h).programmes.log
known_log plan h sound r =
    let begins = log_is_prefix plan h sound r in
    front (IsKnown plan) (state plan h).programmes.log begins.rest (subst (All (IsKnown plan)) (sym begins.whole) (known_plan plan sound))

-- ---- networks of the log

-- the network of the VM, as its entry of the log added it; 0 where none did
abbrev net_in : List Entry → ℕ → ℕ
net_in log vm = unwrap_or (net_of_vm log vm) 0

net_first : (k : List Entry) (v net mac ip host vm : ℕ) (b : Bool) → (v == vm) ≡ b → net_in (entries.AddVm v net mac ip host ∷ k) vm ≡ cond b net (net_in k vm)
net_first k v net mac ip host vm true e = rw e refl
net_first k v net mac ip host vm false e = rw e refl

either : (b : Bool) (x y : ℕ) → x ≤ 16777215 → y ≤ 16777215 → cond b x y ≤ 16777215
either true x y p q = p
either false x y p q = q

net_more : (plan : Plan) (k : List Entry) (e : Entry) (vm : ℕ) → IsKnown plan e → net_in k vm ≤ 16777215 → net_in (e ∷ k) vm ≤ 16777215
net_more plan k (entries.AddVm v net mac ip h) vm is fit =
    subst (λ n. n ≤ 16777215) (sym (net_first k v net mac ip h vm (v == vm) refl)) (either (v == vm) net (net_in k vm) is.1 fit)
net_more plan k (entries.AddNet net) vm is fit = fit
net_more plan k (entries.AddRule net rule) vm is fit = fit
net_more plan k (entries.RemoveVm v) vm is fit = fit
net_more plan k (entries.Place v h) vm is fit = fit
net_more plan k (entries.DelRule net number) vm is fit = fit
net_more plan k (entries.AddRoute net r) vm is fit = fit
net_more plan k (entries.DelRoute net number) vm is fit = fit
net_more plan k entries.Tick vm is fit = fit

net_fits : (plan : Plan) (k : List Entry) (vm : ℕ) → All (IsKnown plan) k → net_in k vm ≤ 16777215
net_fits plan [] vm known = omega arith
net_fits plan (e ∷ k) vm known = net_more plan k e vm (All-head (IsKnown plan) e k known) (net_fits plan k vm (All-tail (IsKnown plan) e k known))

-- the network of a packet's VM
pub own_fits : (plan : Plan) (i : ℕ) → IsSound plan → source_net plan i < 2 ^ 24
own_fits plan i sound = omega (arith, net_fits plan plan.log (packet_at plan i).vm (known_plan plan sound))
