-- In a run of a sound plan every live order, and so every offload, leads where the route leads.
use Rattle.std.proofs.Common.{◌≡◌, ℕ, ◌<◌, Bool, true, false, List, [], ◌∷◌, ◌++◌, length, take, drop, get_or, set, refl, sym, ap, ◌∙◌, subst, arith, append_assoc, append-nil, Option, Some, None, ⊎_elim}
use Rattle.std.specs.Prelude.{◌==◌, slice_get, unwrap_or, nat_le}
use Rattle.std.specs.List.{list_any, find, filter, filter_map, cons_option}
use Rattle.std.proofs.lemmas.List.{get_or-map, get_or-replicate, take-append-drop}
use Rattle.std.proofs.lemmas.Grind.{common_steps}
use Rattle.and_policy.specs.declared.packet.Tuple.{Tuple}
use Rattle.and_policy.specs.declared.port.UsageKey.{UsageKey}
use Rattle.and_policy.specs.declared.entry.Entry.{Entry}
use Rattle.and_policy.specs.declared.entry.Entry.TheVariants.{AddVm}
use Rattle.and_policy.specs.declared.entry.Order.{Order}
use Rattle.and_policy.specs.declared.entry.Op.{Op}
use Rattle.and_policy.specs.declared.entry.Op.TheVariants as ops
use Rattle.and_policy.specs.declared.decision.Name.{Name}
use Rattle.and_policy.specs.declared.decision.Dest.{Dest}
use Rattle.and_policy.specs.declared.decision.Dest.TheVariants.{Offload, Hover}
use Rattle.and_policy.specs.declared.decision.Exit.{Exit}
use Rattle.and_policy.specs.declared.decision.Exit.TheVariants as exits
use Rattle.and_policy.specs.declared.decision.Leaving.TheVariants as leavings
use Rattle.and_policy.specs.declared.decision.Routed.{Routed}
use Rattle.and_policy.specs.declared.decision.Routed.TheVariants as routeds
use Rattle.and_policy.specs.Logs.{Vm, vms, vm_of, removes}
use Rattle.and_policy.specs.Egress.{egress, exit_of}
use Rattle.and_policy.specs.Owners.{routed}
use Rattle.and_policy.specs.Programmes.{entries, prefix, live, leaving, leaving_by, dest_by, own_net, net_of_vm}
use Rattle.and_events.specs.declared.event.Actor.{Actor}
use Rattle.and_events.specs.declared.event.Actor.TheVariants.{HostInstall, GateInstall, Worker, Coproc, Gateway, Controller, Driver}
use Rattle.and_events.specs.declared.event.Node.{Node}
use Rattle.and_events.specs.declared.event.Node.TheVariants.{Host, Gate}
use Rattle.and_events.specs.declared.event.Departure.TheVariants.{NoVm, Spoofed, Denied, Allowed}
use Rattle.and_events.specs.declared.event.Event.{Event}
use Rattle.and_events.specs.declared.event.Event.TheVariants.{Append, Review, Resume, Egress}
use Rattle.and_events.specs.declared.plan.Step.{Step}
use Rattle.and_events.specs.declared.plan.Step.TheVariants as steps
use Rattle.and_events.specs.declared.plan.Settings.{Settings}
use Rattle.and_events.specs.declared.plan.Plan.{Plan}
use Rattle.and_events.specs.Places.{node_count, node_place, node_of, IsNode, IsActor, IsWorker}
use Rattle.and_events.specs.declared.event.Given.{Given}
use Rattle.and_events.specs.Programming.{Programmes, Word, Quiet, Logs, Orders, Announces, Installs, programmes_after, programme_at, with_orders}
use Rattle.and_events.specs.Usage.{Used, order_to, order_for}
use Rattle.and_events.specs.State.{State, state, start, after, word_of, word_of_step, programme_of, packet_at, tuple_at, source_net}
use Rattle.and_events.specs.Legal.{Legal, entries_at}
use Rattle.and_events.specs.Run.{Run}
use Rattle.and_events.specs.Just.{address}
use Rattle.and_events.specs.Sound.{IsSound}
use Rattle.and_laws.specs.Offloads.{IsRouted, AllRouted, HasRightOrders, LeadsRight, HasRightOffloads}
use Rattle.and_laws.proofs.Rows.{set_at}
use Rattle.and_laws.proofs.Sizes.{nodes}
use Rattle.and_laws.proofs.Programmed.{entries-append}
use Rattle.and_laws.proofs.Apart.{Knows, knows_front, found_among}
use Rattle.and_laws.proofs.LiveOrders.{entry_added, order_added, live_leads}
use Rattle.and_laws.proofs.Numbers.{AreDistinct, knows_itself, distinct_front, log_is_prefix}
use Rattle.and_laws.proofs.Trails.{allowed_by}

-- ---- every order of a programme was routed

-- the programme without its orders is the log, and each of its orders was routed
record Is (log : List Entry) (p : List Op) : Type 0 where
  pub log_of : entries p ≡ log
  pub routed : AllRouted [] p

abbrev AreGiven : List Entry → List Given → Type 0
AreGiven log [] = Unit {0}
AreGiven log (g ∷ gs) = IsRouted log g.order × AreGiven log gs

one_given : (s : Settings) (log : List Entry) (key : UsageKey) (r : Routed) (gs : List Given) → routed log key.net key.ip ≡ r → AreGiven log gs → AreGiven log (cons_option (order_to s log key r) gs)
one_given s log key (routeds.To by net host) gs said all = ((by, said), all)
one_given s log key (routeds.NoOwner by) gs said all = all
one_given s log key (routeds.Dropped by) gs said all = all

all_given : (s : Settings) (log : List Entry) (usage : List Used) → AreGiven log (filter_map (order_for s log) usage)
all_given s log [] = tt
all_given s log (u ∷ usage) = one_given s log u.key (routed log u.key.net u.key.ip) _ refl (all_given s log usage)

with_one : (log : List Entry) (p : List Op) (o : Order) → Is log p → IsRouted log o → Is log (p ++ ops.Offload o ∷ [])
with_one log p o is routes =
    record {
      log_of = entries-append p (ops.Offload o ∷ []) ∙ append-nil (entries p) ∙ is.log_of;
      routed = order_added p o is.routed (subst (λ k. IsRouted k o) (sym is.log_of) routes);
    }

with_given : (log : List Entry) (gs : List Given) (programmes : List (List Op)) (n : ℕ) → AreGiven log gs → Is log (get_or programmes n []) → Is log (get_or (with_orders programmes gs) n [])
with_given log [] programmes n all is = is
with_given log (g ∷ gs) programmes n all is =
    let new = get_or programmes g.host [] ++ ops.Offload g.order ∷ [] in
    let none : List Op = [] in
    with_given log gs (set programmes g.host new) n all.1
    (set_at programmes g.host n new none (Is log) is
    (λ same. with_one log (get_or programmes g.host []) g.order (subst (λ m. Is log (get_or programmes m [])) (sym same) is) all.0))

abbrev GivesRouted : Programmes → Word → Type 0
GivesRouted p (Orders gs) = AreGiven p.log gs
GivesRouted p _ = Unit {0}

is_after : (p : Programmes) (w : Word) (n : ℕ) → GivesRouted p w → n < length p.ops → Is p.log (programme_at p n) → Is (programmes_after p w).log (programme_at (programmes_after p w) n)
unfolding programmes_after
is_after p Quiet n g within is = is
is_after p (Logs e) n g within is =
    let there = get_or-map (λ xs. xs ++ ops.Entry e ∷ []) p.ops n [] [] within in
    record {
      log_of = ap entries there ∙ entries-append (programme_at p n) (ops.Entry e ∷ []) ∙ ap (λ k. k ++ e ∷ []) is.log_of;
      routed = subst (AllRouted []) (sym there) (entry_added (programme_at p n) e is.routed);
    }
is_after p (Orders gs) n g within is = with_given p.log gs p.ops n g is
is_after p (Announces node upto) n g within is = is
is_after p (Installs node upto) n g within is = is

step_gives : (plan : Plan) (s : State) (o : Option Step) → GivesRouted s.programmes (word_of_step plan s o)
step_gives plan s (Some (steps.Append e)) = tt
step_gives plan s (Some steps.Review) = all_given plan.settings s.programmes.log (filter (λ u. nat_le plan.settings.threshold u.bytes) s.usage)
step_gives plan s (Some (steps.Resume vm)) = tt
step_gives plan s (Some step) = tt
step_gives plan s None = tt

word_gives : (plan : Plan) (s : State) (e : Event) → GivesRouted s.programmes (word_of plan s e)
unfolding word_of
word_gives plan s (Append n) = step_gives plan s (slice_get plan.steps n)
word_gives plan s (Review n) = step_gives plan s (slice_get plan.steps n)
word_gives plan s (Resume n) = step_gives plan s (slice_get plan.steps n)
word_gives plan s e = tt

programme_is : (plan : Plan) (h : List Event) (n : ℕ) → n < node_count plan.settings → Is (state plan h).programmes.log (programme_at (state plan h).programmes n)
unfolding state start after
programme_is plan [] n within =
    let none : List Op = [] in
    let there = get_or-replicate (node_count plan.settings) n none none within in
    record { log_of = ap entries there; routed = subst (AllRouted []) (sym there) tt }
programme_is plan (e ∷ h) n within =
    is_after (state plan h).programmes (word_of plan (state plan h) e) n (word_gives plan (state plan h) e)
    (subst (λ k. n < k) (sym (nodes plan h).ops) within) (programme_is plan h n within)

-- ---- what a prefix of a programme knows

place_is_there : (s : Settings) (node : Node) → IsNode s node → node_place s node < node_count s
place_is_there s (Host h) is = omega arith
place_is_there s (Gate g) is = omega arith

-- the entries of a prefix come first in the plan's log
pub record Begins (plan : Plan) (k : List Entry) : Type 0 where
  pub rest : List Entry
  pub whole : k ++ rest ≡ plan.log
  pub distinct : AreDistinct plan.log

pub begins : (plan : Plan) (h : List Event) (node : Node) (j : ℕ) → IsSound plan → Run plan h → IsNode plan.settings node → Begins plan (prefix (programme_of plan (state plan h) node) j)
begins plan h node j sound r is_node =
    let p = programme_of plan (state plan h) node in
    let is = programme_is plan h (node_place plan.settings node) (place_is_there plan.settings node is_node) in
    let log = log_is_prefix plan h sound r in
    let parts : entries (take j p) ++ entries (drop j p) ≡ (state plan h).programmes.log =
    sym (entries-append (take j p) (drop j p)) ∙ ap entries (take-append-drop j p) ∙ is.log_of in
    record {
      rest = entries (drop j p) ++ log.rest;
      whole = sym (append_assoc (prefix p j) (entries (drop j p)) log.rest) ∙ ap (λ k. k ++ log.rest) parts ∙ log.whole;
      distinct = log.distinct;
    }

prefix_knows_itself : (plan : Plan) (k : List Entry) → Begins plan k → Knows k k
prefix_knows_itself plan k b = knows_itself k (distinct_front k b.rest (subst AreDistinct (sym b.whole) b.distinct))

plan_knows_prefix : (plan : Plan) (k : List Entry) → Begins plan k → Knows plan.log k
plan_knows_prefix plan k b = knows_front plan.log k b.rest (subst (Knows plan.log) (sym b.whole) (knows_itself plan.log b.distinct))

pub right_orders : (plan : Plan) (h : List Event) → IsSound plan → Run plan h → HasRightOrders plan h
right_orders plan h sound r node is_node j net ip order alive =
    let p = programme_of plan (state plan h) node in
    let is = programme_is plan h (node_place plan.settings node) (place_is_there plan.settings node is_node) in
    let there = live_leads p j net ip order (prefix_knows_itself plan (prefix p j) (begins plan h node j sound r is_node)) is.routed alive in
    (there.by, there.routes)

-- ---- offloads

equal_numbers : (a b : ℕ) → (a == b) ≡ true → a ≡ b
equal_numbers a b e = grind (arith, common_steps)

-- a live VM has the network that the entries t say
net_found : (t k : List Entry) (vm : ℕ) (x : Vm) → Knows t k → vm_of k vm ≡ Some x → net_of_vm t vm ≡ Some x.net
net_found t [] vm x knows f = absurd (let nothing : None ≡ Some x = f in cc)
net_found t (AddVm w n mac ip host ∷ k) vm x knows f =
    let v : Vm = record { number = w; net = n; mac = mac; ip = ip; host = host } in
    let q : Vm → Bool = λ v. v.number == vm in
    ⊎_elim (λ (later : find q (vms k) ≡ Some x). net_found t k vm x knows.1 later)
    (λ (it : (q v ≡ true) × (v ≡ x)).
    subst (λ m. net_of_vm t m ≡ Some x.net) (equal_numbers w vm it.0) (knows.0 ∙ ap (λ (y : Vm). Some y.net) it.1))
    (found_among q (list_any (removes w) k) (q v) (vms k) v x refl f)
net_found t (_ ∷ k) vm x knows f = net_found t k vm x knows f

pub dest_of : (x : Exit) (d dest : Dest) (by : Name) (sealed : Bool) → leaving_by x d ≡ leavings.Allowed by sealed dest → d ≡ dest
dest_of exits.NoVm d dest by sealed e = cc
dest_of exits.Spoofed d dest by sealed e = cc
dest_of (exits.Denied m) d dest by sealed e = cc
dest_of (exits.Allowed b s) d dest by sealed e = cc

-- an offload has an order behind it
pub record ByOrder (o : Option Order) (host net : ℕ) : Type 0 where
  pub order : Order
  pub is : o ≡ Some order
  pub host_is : order.to_host ≡ host
  pub net_is : order.to_net ≡ net

pub by_order : (gateways : ℕ) (x : Tuple) (o : Option Order) (host net : ℕ) → dest_by gateways x o ≡ Offload host net → ByOrder o host net
by_order gateways x None host net e = absurd (let no_way : Hover _ ≡ Offload host net = e in cc)
by_order gateways x (Some order) host net e = record { order = order; is = refl; host_is = cc; net_is = cc }

-- who may leave is live
leaver : (k : List Entry) (x : Tuple) (o : Option Vm) (by : Name) (sealed : Bool) → exit_of k x o ≡ exits.Allowed by sealed → (v : Vm) × (o ≡ Some v)
leaver k x None by sealed e = absurd (let no_way : exits.NoVm ≡ exits.Allowed by sealed = e in cc)
leaver k x (Some v) by sealed e = (v, refl)

pub worker_node : (s : Settings) (a : Actor) → IsActor s a → IsWorker a → IsNode s (node_of a)
worker_node s (Worker h w) is t = is.0
worker_node s (HostInstall h) is t = absurd t
worker_node s (GateInstall g) is t = absurd t
worker_node s (Coproc h) is t = absurd t
worker_node s (Gateway g) is t = absurd t
worker_node s Controller is t = absurd t
worker_node s Driver is t = absurd t

offload_leads : (plan : Plan) (h : List Event) (a : Actor) (i at : ℕ) (by : Name) (sealed : Bool) (host net : ℕ) → IsSound plan → Run plan h → IsActor plan.settings a → IsWorker a → leaving plan.settings.gateways (programme_of plan (state plan h) (node_of a)) at (packet_at plan i).vm (tuple_at plan i) ≡ leavings.Allowed by sealed (Offload host net) → (route : Name) × (routed (entries_at plan (state plan h) a at) (source_net plan i) (address plan i) ≡ routeds.To route net host)
offload_leads plan h a i at by sealed host net sound r is_actor is_worker said =
    let p = programme_of plan (state plan h) (node_of a) in
    let k = prefix p at in
    let vm = (packet_at plan i).vm in
    let x = tuple_at plan i in
    let is_node = worker_node plan.settings a is_actor is_worker in
    let leaves = leaver k x (vm_of k vm) by sealed (allowed_by (egress k vm x) _ (Offload host net) by sealed said) in
    let of = by_order plan.settings.gateways x (live p at (own_net (vm_of k vm)) x.destination) host net (dest_of (egress k vm x) _ (Offload host net) by sealed said) in
    let leads = right_orders plan h sound r (node_of a) is_node at (own_net (vm_of k vm)) x.destination of.order of.is in
    let own : own_net (vm_of k vm) ≡ source_net plan i =
    ap own_net leaves.1 ∙ sym (ap (λ o. unwrap_or o 0) (net_found plan.log k vm leaves.0 (plan_knows_prefix plan k (begins plan h (node_of a) at sound r is_node)) leaves.1)) in
    let there = subst (λ n. routed k n x.destination ≡ routeds.To leads.0 of.order.to_net of.order.to_host) own leads.1 in (
      leads.0,
      subst (λ n. routed k (source_net plan i) x.destination ≡ routeds.To leads.0 n host) of.net_is
          (subst (λ m. routed k (source_net plan i) x.destination ≡ routeds.To leads.0 of.order.to_net m) of.host_is there),
    )

leads_right : (plan : Plan) (h : List Event) (e : Event) → IsSound plan → Run plan h → Legal plan (state plan h) e → LeadsRight plan h e
unfolding Legal
leads_right plan h (Egress a i at way (Allowed by true (Offload host net) end)) sound r l = offload_leads plan h a i at by true host net sound r l.0.actor l.1 l.2.0
leads_right plan h (Egress a i at way (Allowed by false (Offload host net) end)) sound r l = offload_leads plan h a i at by false host net sound r l.0.actor l.1 l.2.0
leads_right plan h (Egress a i at way (Allowed by sealed (Hover g) end)) sound r l = tt
leads_right plan h (Egress a i at way NoVm) sound r l = tt
leads_right plan h (Egress a i at way Spoofed) sound r l = tt
leads_right plan h (Egress a i at way (Denied n)) sound r l = tt
leads_right plan h e sound r l = tt

pub right_offloads : (plan : Plan) (h : List Event) → IsSound plan → Run plan h → HasRightOffloads plan h
unfolding Run HasRightOffloads
right_offloads plan [] sound r = tt
right_offloads plan (e ∷ h) sound r = (right_offloads plan h sound r.0, leads_right plan h e sound r.0 r.1)
