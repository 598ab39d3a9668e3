-- The networks of VMs and of packets, one entry or one event further.
use Rattle.std.proofs.Common.{◌≡◌, ℕ, zero, suc, ◌+◌, ◌<◌, Bool, true, false, List, [], ◌∷◌, ◌++◌, map, length, get_or, set, replicate, take, None, refl, ap, ap₂, sym, subst, ◌∙◌}
use Rattle.std.proofs.lemmas.List.{map-set, set-get_or, take_more}
use Rattle.and_policy.specs.declared.entry.Entry.{Entry}
use Rattle.and_policy.specs.Owners.{or_else}
use Rattle.and_policy.specs.declared.placements.Placements.{Placements}
use Rattle.and_policy.specs.Placements.{ArePlacements, net_by}
use Rattle.and_policy.specs.Programmes.{net_of_vm}
use Rattle.and_policy.proofs.Placing.{net-append}
use Rattle.and_events.specs.declared.event.Node.{Node}
use Rattle.and_events.specs.declared.event.Endpoint.{Endpoint}
use Rattle.and_events.specs.declared.event.Carried.{Carried}
use Rattle.and_events.specs.declared.event.End.{End}
use Rattle.and_events.specs.declared.event.End.TheVariants.{Queued, Full, Hops}
use Rattle.and_events.specs.declared.event.Departure.{Departure}
use Rattle.and_events.specs.declared.event.Departure.TheVariants.{NoVm, Spoofed, Denied, Allowed}
use Rattle.and_events.specs.declared.event.Passage.{Passage}
use Rattle.and_events.specs.declared.event.Passage.TheVariants as passages
use Rattle.and_events.specs.declared.event.Return.{Return}
use Rattle.and_events.specs.declared.event.Return.TheVariants as returns
use Rattle.and_events.specs.declared.event.Arrival.{Arrival}
use Rattle.and_events.specs.declared.event.Arrival.TheVariants as arrivals
use Rattle.and_events.specs.declared.event.Event.{Event}
use Rattle.and_events.specs.declared.event.Event.TheVariants.{Inject, Take, Egress, Sealed, Route, Redirect, Ingress}
use Rattle.and_events.specs.declared.plan.Settings.{Settings}
use Rattle.and_events.specs.declared.plan.Plan.{Plan}
use Rattle.and_events.specs.Flow.{Flow, flow_after, send_by, carried_in, enter_by, sent}
use Rattle.and_events.specs.State.{state, start, after, move_of, source_net, departs, passes, goes_back, arrives}
use Rattle.and_report.specs.Fates.{fate_by, passage_fate, arrival_fate}
use Rattle.and_report.specs.Nets.{net_of, nets_in, departs_under, passes_under, nets_after, fate_under}

-- ---- VMs

pub net_more : (vm : ℕ) (log : List Entry) (i : ℕ) (d : Entry) → i < length log → net_of_vm (take (i + 1) log) vm ≡ or_else (net_of_vm (take i log) vm) (net_by vm (get_or log i d))
net_more vm log i d here = ap (λ k. net_of_vm k vm) (take_more log i d here) ∙ net-append vm (take i log) (get_or log i d)

pub placed_next : (new : Placements) (log items : List Entry) (i : ℕ) (d : Entry) → items ≡ log → i < length items
    → ArePlacements new (take i log ++ get_or items i d ∷ []) → ArePlacements new (take (i + 1) log)
placed_next new log items i d same here placed =
    subst (ArePlacements new)
    (ap (λ (l : List Entry). take i log ++ get_or l i d ∷ []) same ∙ sym (take_more log i d (subst (λ (l : List Entry). i < length l) same here))) placed

pub short_next : (vm : ℕ) (log items : List Entry) (i : ℕ) (d : Entry) → items ≡ log → i < length items
    → net_of_vm (take i log) vm ≡ None → net_by vm (get_or items i d) ≡ None → net_of_vm (take (i + 1) log) vm ≡ None
short_next vm log items i d same here before by =
    net_more vm log i d (subst (λ (l : List Entry). i < length l) same here)
    ∙ ap₂ or_else before (ap (λ (l : List Entry). net_by vm (get_or l i d)) (sym same) ∙ by)

-- ---- packets

map_replicate : {A B : Type 0} (f : A → B) (n : ℕ) (x : A) → map f (replicate n x) ≡ replicate n (f x)
map_replicate f zero x = refl
map_replicate f (suc n) x = ap (λ l. f x ∷ l) (map_replicate f n x)

pub nets_start : (plan : Plan) → nets_in plan [] ≡ replicate (length plan.packets) 0
unfolding state start
nets_start plan = map_replicate net_of (length plan.packets) _

-- what a packet carries, in the list of networks
pub net_in : (carried : List Carried) (i : ℕ) → get_or (map net_of carried) i 0 ≡ (carried_in carried i).net
net_in [] i = refl
net_in (c ∷ carried) zero = refl
net_in (c ∷ carried) (suc i) = net_in carried i

sent_same : (f : Flow) (i : ℕ) (target : Endpoint) → map net_of (set f.carried i (sent (carried_in f.carried i) (carried_in f.carried i).net target)) ≡ map net_of f.carried
sent_same f i target =
    map-set net_of f.carried i (sent (carried_in f.carried i) (carried_in f.carried i).net target)
    ∙ ap (λ n. set (map net_of f.carried) i n) (sym (net_in f.carried i)) ∙ set-get_or (map net_of f.carried) i 0

-- a send under the network that the packet has
sends_on : (f : Flow) (a q i : ℕ) (end : End) (target : Endpoint) → map net_of (flow_after f (send_by a q i end (carried_in f.carried i).net target)).carried ≡ map net_of f.carried
unfolding flow_after
sends_on f a q i Queued target = sent_same f i target
sends_on f a q i Full target = refl
sends_on f a q i Hops target = refl

departing : (f : Flow) (s : Settings) (own a i : ℕ) (here : Node) (d : Departure) → map net_of (flow_after f (departs s own a i here d)).carried ≡ departs_under own (map net_of f.carried) i d
unfolding flow_after
departing f s own a i here NoVm = refl
departing f s own a i here Spoofed = refl
departing f s own a i here (Denied n) = refl
departing f s own a i here (Allowed by true dest Queued) = map-set net_of f.carried i _
departing f s own a i here (Allowed by true dest Full) = refl
departing f s own a i here (Allowed by true dest Hops) = refl
departing f s own a i here (Allowed by false dest Queued) = map-set net_of f.carried i _
departing f s own a i here (Allowed by false dest Full) = refl
departing f s own a i here (Allowed by false dest Hops) = refl

passing : (f : Flow) (s : Settings) (a i : ℕ) (p : Passage) → map net_of (flow_after f (passes s a i p)).carried ≡ passes_under (map net_of f.carried) i p
unfolding flow_after
passing f s a i (passages.Dropped by) = refl
passing f s a i (passages.NoOwner by) = refl
passing f s a i (passages.Send by net host Queued) = map-set net_of f.carried i _
passing f s a i (passages.Send by net host Full) = refl
passing f s a i (passages.Send by net host Hops) = refl
passing f s a i (passages.Hops by) = refl

going_back : (f : Flow) (s : Settings) (a i : ℕ) (back : Return) → map net_of (flow_after f (goes_back s (carried_in f.carried i) a i back)).carried ≡ map net_of f.carried
unfolding flow_after
going_back f s a i returns.NoOwner = refl
going_back f s a i (returns.Send host end) = sends_on f a _ i end _
going_back f s a i returns.Hops = refl

arriving : (f : Flow) (s : Settings) (a i : ℕ) (arrival : Arrival) → map net_of (flow_after f (arrives s (carried_in f.carried i) a i arrival)).carried ≡ map net_of f.carried
unfolding flow_after
arriving f s a i arrivals.NoOwner = refl
arriving f s a i (arrivals.Running vm by pass) = refl
arriving f s a i (arrivals.Blackout vm) = refl
arriving f s a i (arrivals.Hairpin vm host end) = sends_on f a _ i end _
arriving f s a i (arrivals.Absent vm gateway end) = sends_on f a _ i end _

entering : (f : Flow) (q i : ℕ) (full : Bool) → map net_of (flow_after f (enter_by q i full)).carried ≡ map net_of f.carried
unfolding flow_after
entering f q i true = refl
entering f q i false = refl

-- the networks after one event more
pub nets_next : (plan : Plan) (h : List Event) (e : Event) → nets_in plan (e ∷ h) ≡ nets_after plan (nets_in plan h) e
unfolding state after move_of flow_after
nets_next plan h (Inject n i full) = entering (state plan h).flow _ i full
nets_next plan h (Take a q i) = refl
nets_next plan h (Egress a i at way d) = departing (state plan h).flow plan.settings (source_net plan i) _ i _ d
nets_next plan h (Sealed a i end) = sends_on (state plan h).flow _ _ i end _
nets_next plan h (Route a i at p) = passing (state plan h).flow plan.settings _ i p
nets_next plan h (Redirect a i at back) = going_back (state plan h).flow plan.settings _ i back
nets_next plan h (Ingress a i at way arrival) = arriving (state plan h).flow plan.settings _ i arrival
nets_next plan h _ = refl

-- the fate that an event is, by the networks
pub fate_is : (plan : Plan) (h : List Event) (e : Event) → fate_under plan (nets_in plan h) e ≡ fate_by plan (state plan h) e
unfolding fate_by
fate_is plan h (Route a i at p) = ap (λ n. passage_fate n p) (net_in (state plan h).flow.carried i)
fate_is plan h (Ingress a i at way arrival) = ap (λ n. arrival_fate n arrival) (net_in (state plan h).flow.carried i)
fate_is plan h _ = refl
