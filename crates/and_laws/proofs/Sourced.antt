-- The source VM of a packet in hand is in the log so far, in the network that the plan's whole log gives it.
use Rattle.std.proofs.Common.{◌≡◌, ℕ, zero, suc, ◌<◌, ◌≤◌, true, false, List, [], ◌∷◌, ◌++◌, take, refl, sym, ap, ◌∙◌, subst, arith, Option, Some, None, ⊎_elim}
use Rattle.std.specs.Prelude.{◌==◌, is_some, unwrap_or}
use Rattle.std.specs.List.{list_any}
use Rattle.std.proofs.lemmas.Bool.{cases_lt}
use Rattle.std.proofs.lemmas.Option.{unwrap_or-slice_get}
use Rattle.and_policy.specs.declared.entry.Entry.{Entry}
use Rattle.and_policy.specs.declared.entry.Entry.TheVariants.{Place}
use Rattle.and_policy.specs.Logs.{added, vms, is_live}
use Rattle.and_policy.specs.Owners.{or_else}
use Rattle.and_policy.specs.Placements.{net_by}
use Rattle.and_policy.specs.Programmes.{net_of_vm}
use Rattle.and_policy.proofs.Placing.{net-append}
use Rattle.and_policy.proofs.Registering.{added-is}
use Rattle.and_policy.proofs.Unique.{not_both}
use Rattle.and_events.specs.declared.event.Event.{Event}
use Rattle.and_events.specs.declared.plan.Plan.{Plan}
use Rattle.and_events.specs.declared.plan.Step.{Step}
use Rattle.and_events.specs.declared.plan.Step.TheVariants.{Append, Inject, Resume, Finish}
use Rattle.and_events.specs.Flow.{Holds}
use Rattle.and_events.specs.Run.{Run}
use Rattle.and_events.specs.Script.{Script, at_start, target_of}
use Rattle.and_events.specs.Sound.{IsSound, StepFits, StepsFit, after_step, sent_after}
use Rattle.and_events.specs.State.{state, packet_at, no_packet}
use Rattle.and_laws.specs.Scripted.{script_after_steps, sent_after_steps}
use Rattle.and_laws.proofs.Following.{follows_steps}
use Rattle.and_laws.proofs.GoingOn.{find_live}
use Rattle.and_laws.proofs.Lives.{not_added}
use Rattle.and_laws.proofs.Losses.{held_is_sent}

-- ---- a network that the log gives stays

stays : (k : List Entry) (e : Entry) (vm net : ℕ) → net_of_vm k vm ≡ Some net → net_of_vm (k ++ e ∷ []) vm ≡ Some net
stays k e vm net is = net-append vm k e ∙ ap (λ o. or_else o (net_by vm e)) is

stays_after : (p : Script) (step : Step) (vm net : ℕ) → net_of_vm p.log vm ≡ Some net → net_of_vm (after_step p step).log vm ≡ Some net
stays_after p (Append e) vm net is = stays p.log e vm net is
stays_after p (Resume v) vm net is = stays p.log (Place v (unwrap_or (target_of p v) 0)) vm net is
stays_after p step vm net is = is

stays_to_end : (plan : Plan) (p : Script) (sent : ℕ) (ss : List Step) (vm net : ℕ) → StepsFit plan p sent ss → net_of_vm p.log vm ≡ Some net → net_of_vm plan.log vm ≡ Some net
stays_to_end plan p sent [] vm net f is = absurd f
stays_to_end plan p sent (Finish ∷ []) vm net f is = subst (λ k. net_of_vm k vm ≡ Some net) f.log is
stays_to_end plan p sent (Finish ∷ other ∷ later) vm net f is = absurd f.0
stays_to_end plan p sent (step ∷ later) vm net f is = stays_to_end plan (after_step p step) (sent_after sent step) later vm net f.1 (stays_after p step vm net is)

-- ---- the log has the VM of each packet that was injected

abbrev HasNet : Plan → List Entry → ℕ → Type 0
HasNet plan k i = (net : ℕ) × (net_of_vm k (packet_at plan i).vm ≡ Some net)

live_net : (k : List Entry) (vm : ℕ) → is_live k vm ≡ true → (net : ℕ) × (net_of_vm k vm ≡ Some net)
live_net k vm live = some (net_of_vm k vm) refl
  where
    some : (o : Option ℕ) → net_of_vm k vm ≡ o → (net : ℕ) × (net_of_vm k vm ≡ Some net)
    some (Some net) is = (net, is)
    some None is =
        let none : list_any (λ v. v.number == vm) (added k) ≡ false = sym (added-is k vm) ∙ ap is_some is in
        absurd (not_both (is_live k vm) live (not_added k vm none))

sent_net : (plan : Plan) (p : Script) (sent j : ℕ) → StepFits plan p sent (Inject j) → HasNet plan p.log j
sent_net plan p sent j fits =
    let packet = fits.1.0 in
    let is = fits.1.2 in
    let there : packet_at plan j ≡ packet = sym (unwrap_or-slice_get plan.packets j no_packet) ∙ ap (λ o. unwrap_or o no_packet) fits.1.1 in
    let number : (packet_at plan j).vm ≡ is.vm.number = ap (λ x. x.vm) there ∙ sym is.number in
    live_net p.log (packet_at plan j).vm (subst (λ n. is_live p.log n ≡ true) (sym number) (find_live (λ v. v.mac == is.mac) (vms p.log) is.vm is.source))

one_more : (plan : Plan) (p : Script) (sent j : ℕ) → StepFits plan p sent (Inject j) → ((i : ℕ) → i < sent → HasNet plan p.log i) → (i : ℕ) → i < suc sent → HasNet plan p.log i
one_more plan p sent j fits was i l =
    ⊎_elim
    (λ (h : i < sent). was i h)
    (λ (h : sent ≤ i). subst (HasNet plan p.log) (omega (arith, h, l, fits.0)) (sent_net plan p sent j fits))
    (cases_lt i sent)

abbrev IsSourced : Plan → List Entry → ℕ → Type 0
IsSourced plan k i = (net : ℕ) × (net_of_vm k (packet_at plan i).vm ≡ Some net) × (net_of_vm plan.log (packet_at plan i).vm ≡ Some net)

sourced_now : (plan : Plan) (p : Script) (sent : ℕ) (ss : List Step) (i : ℕ) → StepsFit plan p sent ss → HasNet plan p.log i → IsSourced plan p.log i
sourced_now plan p sent ss i f (net, is) = (net, is, stays_to_end plan p sent ss (packet_at plan i).vm net f is)

sourced : (plan : Plan) (p : Script) (sent : ℕ) (ss : List Step) (n i : ℕ) → StepsFit plan p sent ss → ((j : ℕ) → j < sent → HasNet plan p.log j) → i < sent_after_steps sent (take n ss) → IsSourced plan (script_after_steps p (take n ss)).log i
sourced plan p sent [] n i f was l = absurd f
sourced plan p sent (Finish ∷ []) zero i f was l = sourced_now plan p sent (Finish ∷ []) i f (was i l)
sourced plan p sent (Finish ∷ []) (suc zero) i f was l = sourced_now plan p sent (Finish ∷ []) i f (was i l)
sourced plan p sent (Finish ∷ []) (suc (suc n)) i f was l = sourced_now plan p sent (Finish ∷ []) i f (was i l)
sourced plan p sent (Finish ∷ other ∷ later) n i f was l = absurd f.0
sourced plan p sent (step ∷ later) zero i f was l = sourced_now plan p sent (step ∷ later) i f (was i l)
sourced plan p sent (Inject j ∷ later) (suc n) i f was l = sourced plan p (suc sent) later n i f.1 (one_more plan p sent j f.0 was) l
sourced plan p sent (step ∷ later) (suc n) i f was l =
    sourced plan (after_step p step) (sent_after sent step) later n i f.1 (λ j h. let w = was j h in (w.0, stays_after p step (packet_at plan j).vm w.0 w.1)) l

-- the network of its VM
pub source_stays : (plan : Plan) (h : List Event) (a i : ℕ) → IsSound plan → Run plan h → Holds (state plan h).flow a i
    → net_of_vm (state plan h).programmes.log (packet_at plan i).vm ≡ net_of_vm plan.log (packet_at plan i).vm
source_stays plan h a i sound r held =
    let s = sourced plan at_start 0 plan.steps (state plan h).next i sound.steps (λ j l. absurd (omega (arith, l))) (held_is_sent plan h a i sound r held) in
    ap (λ k. net_of_vm k (packet_at plan i).vm) (follows_steps plan h sound r).log ∙ s.1 ∙ sym s.2
