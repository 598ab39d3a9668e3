-- Counts by VM, and the lines of VMs.
use Rattle.std.proofs.Common.{◌≡◌, ◌<◌, ℕ, suc, ◌+◌, Bool, true, false, ◌||◌, List, [], ◌∷◌, ◌++◌, length, take, drop, get_or, cond, Option, Some, None, refl, ap, ap₂, sym, ◌∙◌, add-one, append_assoc}
use Rattle.std.specs.Prelude.{◌==◌, if◌then◌else◌, option_map}
use Rattle.std.specs.Option.{is_some}
use Rattle.std.specs.List.{list_any, count_by, find}
use Rattle.std.proofs.Math.Seq.{drop-cons}
use Rattle.std.proofs.lemmas.List.Sums.{sum_by_more}
use Rattle.and_policy.specs.Logs.{Vm, added}
use Rattle.and_policy.specs.Programmes.{net_of_vm}
use Rattle.and_events.specs.declared.plan.Packet.{Packet}
use Rattle.and_events.specs.declared.plan.Plan.{Plan}
use Rattle.and_report.specs.Report as report
use Rattle.and_report.specs.Tally.{Tally}
use Rattle.and_report.specs.Counts.{one}
use Rattle.and_report.specs.Vms.{vm_counted, vm_counted_if}

-- one packet more is sent
pub sent_more : (packets : List Packet) (i vm old new : ℕ) (d : Packet) → i < length packets → old ≡ count_by (λ p. p.vm == vm) (take i packets)
    → new ≡ old + (if (get_or packets i d).vm == vm then 1 else 0) → new ≡ count_by (λ p. p.vm == vm) (take (i + 1) packets)
sent_more packets i vm old new d here was is =
    is ∙ ap (λ n. n + one ((get_or packets i d).vm == vm)) was ∙ sym (sum_by_more (λ (p : Packet). cond (p.vm == vm) 1 0) packets i d here)

any_found : (vm : ℕ) (vms : List Vm) → list_any (λ v. v.number == vm) vms ≡ is_some (option_map (λ (v : Vm). v.net) (find (λ v. v.number == vm) vms))
any_found vm [] = refl
any_found vm (v ∷ vms) = by_test (v.number == vm) v (list_any (λ v. v.number == vm) vms) (find (λ v. v.number == vm) vms) (any_found vm vms)
  where
    by_test : (b : Bool) (v : Vm) (any : Bool) (rest : Option Vm) → any ≡ is_some (option_map (λ (x : Vm). x.net) rest)
        → (b || any) ≡ is_some (option_map (λ (x : Vm). x.net) (cond b (Some v) rest))
    by_test true v any rest h = refl
    by_test false v any rest h = h

line_by : (net : Option ℕ) (name : List ℕ) (sent received : ℕ) → vm_counted_if net name sent received ≡ (if is_some net then vm_counted name sent received else [])
line_by None name sent received = refl
line_by (Some net) name sent received = refl

-- the line of a VM, by the network in which the log adds it
pub line_is : (plan : Plan) (t : Tally) (vm : ℕ) (name : List ℕ) (net : Option ℕ) (sent received : ℕ) → net ≡ net_of_vm plan.log vm
    → sent ≡ count_by (λ p. p.vm == vm) plan.packets → received ≡ count_by (report.is_received vm) t.fates
    → vm_counted_if net name sent received ≡ report.vm_line plan t vm name
line_is plan t vm name net sent received net_is sent_is received_is =
    line_by net name sent received
    ∙ ap (λ b. if b then vm_counted name sent received else []) (ap is_some net_is ∙ sym (any_found vm (added plan.log)))
    ∙ ap₂ (λ a b. if report.is_added plan vm then vm_counted name a b else []) sent_is received_is

-- the lines of the VMs after one name more
pub next_vm : (old text more : List ℕ) (plan : Plan) (t : Tally) (names : List (List ℕ)) (i : ℕ) (name : List ℕ) → i < length names → name ≡ get_or names i name →
    old ++ report.vm_lines plan t 0 names ≡ text ++ report.vm_lines plan t i (drop i names) → more ≡ text ++ report.vm_line plan t i name →
    old ++ report.vm_lines plan t 0 names ≡ more ++ report.vm_lines plan t (i + 1) (drop (i + 1) names)
next_vm old text more plan t names i name lt is so new =
    let rest : List (List ℕ) = drop (suc i) names in
    so ∙ ap (λ l. text ++ report.vm_lines plan t i l) (drop-cons names i name lt)
    ∙ ap (λ n. text ++ (report.vm_line plan t i n ++ report.vm_lines plan t (suc i) rest)) (sym is)
    ∙ sym (append_assoc text (report.vm_line plan t i name) (report.vm_lines plan t (suc i) rest))
    ∙ ap₂ (λ l j. l ++ report.vm_lines plan t j (drop j names)) (sym new) (sym (add-one i))
