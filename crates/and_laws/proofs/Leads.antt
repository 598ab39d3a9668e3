-- In a run of a sound plan every packet is sent to a node of the plan.
use Rattle.std.proofs.Common.{◌≡◌, ℕ, zero, suc, ◌<◌, Bool, true, false, List, [], ◌∷◌, length, replicate, sym, subst, arith, Option, Some, None}
use Rattle.std.proofs.lemmas.Nat.{mod_below}
use Rattle.and_policy.specs.declared.packet.Tuple.{Tuple}
use Rattle.and_policy.specs.declared.entry.Order.{Order}
use Rattle.and_policy.specs.declared.decision.Name.{Name}
use Rattle.and_policy.specs.declared.decision.Way.{Way}
use Rattle.and_policy.specs.declared.decision.Dest.{Dest}
use Rattle.and_policy.specs.declared.decision.Dest.TheVariants.{Offload, Hover}
use Rattle.and_policy.specs.declared.decision.Leaving.TheVariants as leavings
use Rattle.and_policy.specs.FlowHash.{gateway_of, flow_hash}
use Rattle.and_policy.specs.Logs.{vm_of}
use Rattle.and_policy.specs.Egress.{egress}
use Rattle.and_policy.specs.Programmes.{prefix, live, leaving, dest_by, own_net}
use Rattle.and_events.specs.declared.event.Actor.{Actor}
use Rattle.and_events.specs.declared.event.End.{End}
use Rattle.and_events.specs.declared.event.End.TheVariants.{Queued, Full, Hops}
use Rattle.and_events.specs.declared.event.Endpoint.{Endpoint}
use Rattle.and_events.specs.declared.event.Endpoint.TheVariants as endpoints
use Rattle.and_events.specs.declared.event.Carried.{Carried}
use Rattle.and_events.specs.declared.event.Node.{Node}
use Rattle.and_events.specs.declared.event.Departure.{Departure}
use Rattle.and_events.specs.declared.event.Departure.TheVariants.{NoVm, Spoofed, Denied, Allowed}
use Rattle.and_events.specs.declared.event.Passage.TheVariants as passages
use Rattle.and_events.specs.declared.event.Return.TheVariants as returns
use Rattle.and_events.specs.declared.event.Arrival.TheVariants as arrivals
use Rattle.and_events.specs.declared.event.Event.{Event}
use Rattle.and_events.specs.declared.event.Event.TheVariants.{Inject, Take, Egress, Sealed, Route, Redirect, Ingress}
use Rattle.and_events.specs.declared.plan.Plan.{Plan}
use Rattle.and_events.specs.Places.{hand_place, node_of, IsNode, IsActor, IsWorker}
use Rattle.and_events.specs.Flow.{Flow, Move, Stay, Enter, Lose, Grab, Send, SealLater, Stop, flow_after, carried_in, nothing_carried, sent, to_be_sealed}
use Rattle.and_events.specs.State.{State, state, start, after, move_of, send, departs, source_net, carried_at, node_at, dest_endpoint, dest_net, programme_of, packet_at, tuple_at}
use Rattle.and_events.specs.Legal.{Legal, Sends}
use Rattle.and_events.specs.Run.{Run}
use Rattle.and_events.specs.Sound.{IsSound}
use Rattle.and_laws.specs.Targets.{LeadsToHosts, LeadsToNodes}
use Rattle.and_laws.proofs.Rows.{set_at}
use Rattle.and_laws.proofs.Hosted.{AreHosted, hosted_front, routed_within, located_within, log_hosted}
use Rattle.and_laws.proofs.PinnedTo.{PinsTo, pins_to_hosts}
use Rattle.and_laws.proofs.Offloading.{begins, right_orders, worker_node, by_order, dest_of}

-- ---- programmes

prefix_hosted : (plan : Plan) (h : List Event) (node : Node) (j : ℕ) → IsSound plan → Run plan h → IsNode plan.settings node → AreHosted plan.settings.hosts (prefix (programme_of plan (state plan h) node) j)
prefix_hosted plan h node j sound r is_node =
    let b = begins plan h node j sound r is_node in
    hosted_front plan.settings.hosts (prefix (programme_of plan (state plan h) node) j) b.rest (subst (AreHosted plan.settings.hosts) (sym b.whole) (log_hosted plan sound))

to_hosts : (plan : Plan) (h : List Event) (node : Node) (j : ℕ) → IsSound plan → Run plan h → IsNode plan.settings node → LeadsToHosts plan h node j
to_hosts plan h node j sound r is_node =
    let k = prefix (programme_of plan (state plan h) node) j in
    let all = prefix_hosted plan h node j sound r is_node in
    record {
      routes = λ net ip by to host said. routed_within plan.settings.hosts k net ip by to host all said;
      places = λ net ip host said. located_within plan.settings.hosts k net ip host all said;
      orders = λ net ip order alive.
          let leads = right_orders plan h sound r node is_node j net ip order alive in
          routed_within plan.settings.hosts k net ip leads.0 order.to_net order.to_host all leads.1;
    }

-- ---- packets

-- what is sent, or will be once it is sealed, goes to a node
abbrev GoesToNode : Plan → Move → Type 0
GoesToNode plan (Send a q i net target) = IsNode plan.settings (node_at target)
GoesToNode plan (SealLater a q i net target) = IsNode plan.settings (node_at target)
GoesToNode plan _ = Unit {0}

abbrev AllToNodes : Plan → List Carried → Type 0
AllToNodes plan carried = (i : ℕ) → IsNode plan.settings (node_at (carried_in carried i).target)

carried_after : (plan : Plan) (f : Flow) (m : Move) → GoesToNode plan m → AllToNodes plan f.carried → AllToNodes plan (flow_after f m).carried
unfolding flow_after
carried_after plan f Stay is all k = all k
carried_after plan f (Enter q i) is all k = all k
carried_after plan f (Lose i) is all k = all k
carried_after plan f (Grab a q g) is all k = all k
carried_after plan f (Send a q i net target) is all k =
    set_at f.carried i k (sent (carried_in f.carried i) net target) nothing_carried (λ c. IsNode plan.settings (node_at c.target)) (all k) (λ same. is)
carried_after plan f (SealLater a q i net target) is all k =
    set_at f.carried i k (to_be_sealed (carried_in f.carried i) net target) nothing_carried (λ c. IsNode plan.settings (node_at c.target)) (all k) (λ same. is)
carried_after plan f (Stop a i) is all k = all k

send_goes : (plan : Plan) (s : State) (a i : ℕ) (end : End) (target : Endpoint) (net : ℕ) → Sends plan s i target end → GoesToNode plan (send plan.settings a i end target net)
send_goes plan s a i Queued target net l = l.2
send_goes plan s a i Full target net l = tt
send_goes plan s a i Hops target net l = tt

gateway_within : (gateways : ℕ) (x : Tuple) → 0 < gateways → gateway_of gateways x < gateways
gateway_within gateways x some = mod_below (flow_hash x) gateways some

hovers_at : (gateways : ℕ) (x : Tuple) (o : Option Order) (g : ℕ) → dest_by gateways x o ≡ Hover g → gateway_of gateways x ≡ g
hovers_at gateways x None g e = cc
hovers_at gateways x (Some order) g e = cc

module _ (plan : Plan) (h : List Event) (sound : IsSound plan) (r : Run plan h) where
  -- what the policy says of a packet that leaves its VM leads to a node
  dest_goes : (a : Actor) (i at : ℕ) (by : Name) (sealed : Bool) (dest : Dest) → IsActor plan.settings a → IsWorker a → leaving plan.settings.gateways (programme_of plan (state plan h) (node_of a)) at (packet_at plan i).vm (tuple_at plan i) ≡ leavings.Allowed by sealed dest → IsNode plan.settings (node_at (dest_endpoint dest))
  dest_goes a i at by sealed (Hover g) is_actor is_worker said =
      let p = programme_of plan (state plan h) (node_of a) in
      let k = prefix p at in
      let vm = (packet_at plan i).vm in
      let x = tuple_at plan i in
      let g_is = hovers_at plan.settings.gateways x (live p at (own_net (vm_of k vm)) x.destination) g (dest_of (egress k vm x) _ (Hover g) by sealed said) in
      subst (λ n. n < plan.settings.gateways) g_is (gateway_within plan.settings.gateways x (omega (arith, sound.settings.gateways.0)))
  dest_goes a i at by sealed (Offload host net) is_actor is_worker said =
      let p = programme_of plan (state plan h) (node_of a) in
      let k = prefix p at in
      let vm = (packet_at plan i).vm in
      let x = tuple_at plan i in
      let of = by_order plan.settings.gateways x (live p at (own_net (vm_of k vm)) x.destination) host net (dest_of (egress k vm x) _ (Offload host net) by sealed said) in
      subst (λ n. n < plan.settings.hosts) of.host_is
      ((to_hosts plan h (node_of a) at sound r (worker_node plan.settings a is_actor is_worker)).orders (own_net (vm_of k vm)) x.destination of.order of.is)

  depart_goes : (a : Actor) (i at : ℕ) (way : Way) (d : Departure) → Legal plan (state plan h) (Egress a i at way d) → GoesToNode plan (departs plan.settings (source_net plan i) (hand_place plan.settings a) i (node_of a) d)
  unfolding Legal
  depart_goes a i at way NoVm l = tt
  depart_goes a i at way Spoofed l = tt
  depart_goes a i at way (Denied n) l = tt
  depart_goes a i at way (Allowed by true dest Queued) l = dest_goes a i at by true dest l.0.actor l.1 l.2.0
  depart_goes a i at way (Allowed by true dest Full) l = tt
  depart_goes a i at way (Allowed by true dest Hops) l = tt
  depart_goes a i at way (Allowed by false dest end) l =
      send_goes plan (state plan h) (hand_place plan.settings a) i end (dest_endpoint dest) (dest_net (source_net plan i) dest) l.2.2

  event_goes : (e : Event) → Legal plan (state plan h) e → GoesToNode plan (move_of plan (state plan h) e)
  unfolding Legal move_of
  event_goes (Inject n i true) l = tt
  event_goes (Inject n i false) l = tt
  event_goes (Take a q i) l = tt
  event_goes (Egress a i at way d) l = depart_goes a i at way d l
  event_goes (Sealed a i end) l = send_goes plan (state plan h) (hand_place plan.settings a) i end (carried_at (state plan h) i).target (carried_at (state plan h) i).net l.4
  event_goes (Route a i at (passages.Send by net host end)) l = send_goes plan (state plan h) (hand_place plan.settings a) i end (endpoints.Host host) net l.3.2
  event_goes (Route a i at (passages.Dropped by)) l = tt
  event_goes (Route a i at (passages.NoOwner by)) l = tt
  event_goes (Route a i at (passages.Hops by)) l = tt
  event_goes (Redirect a i at (returns.Send host end)) l = send_goes plan (state plan h) (hand_place plan.settings a) i end (endpoints.Host host) (carried_at (state plan h) i).net l.3.2
  event_goes (Redirect a i at returns.NoOwner) l = tt
  event_goes (Redirect a i at returns.Hops) l = tt
  event_goes (Ingress a i at way arrivals.NoOwner) l = tt
  event_goes (Ingress a i at way (arrivals.Running vm by pass)) l = tt
  event_goes (Ingress a i at way (arrivals.Blackout vm)) l = tt
  event_goes (Ingress a i at way (arrivals.Hairpin vm host end)) l = send_goes plan (state plan h) (hand_place plan.settings a) i end (endpoints.Host host) (carried_at (state plan h) i).net l.2.2
  event_goes (Ingress a i at way (arrivals.Absent vm gateway end)) l = send_goes plan (state plan h) (hand_place plan.settings a) i end (endpoints.Redirect gateway) (carried_at (state plan h) i).net l.2.3
  event_goes e l = tt

first_targets : (plan : Plan) (n hops i : ℕ) → 0 < plan.settings.hosts → IsNode plan.settings (node_at (carried_in (replicate n (record { hops = hops; sealed = false; net = 0; target = endpoints.Host 0 })) i).target)
first_targets plan zero hops i some = some
first_targets plan (suc n) hops zero some = some
first_targets plan (suc n) hops (suc i) some = first_targets plan n hops i some

targets : (plan : Plan) (h : List Event) → IsSound plan → Run plan h → AllToNodes plan (state plan h).flow.carried
unfolding Run state start after
targets plan [] sound r i = first_targets plan (length plan.packets) plan.settings.hop_limit i (omega (arith, sound.settings.hosts.0))
targets plan (e ∷ h) sound r i =
    carried_after plan (state plan h).flow (move_of plan (state plan h) e) (event_goes plan h sound r.0 e r.1) (targets plan h sound r.0) i

pub to_nodes : (plan : Plan) (h : List Event) → IsSound plan → Run plan h → LeadsToNodes plan h
to_nodes plan h sound r =
    let some : 0 < plan.settings.hosts = omega (arith, sound.settings.hosts.0) in
    record {
      programmes = λ node is_node j. to_hosts plan h node j sound r is_node;
      gateways = λ x. gateway_within plan.settings.gateways x (omega (arith, sound.settings.gateways.0));
      hairpins = λ host vm to entry is. subst (PinsTo plan.settings.hosts) is (pins_to_hosts plan h some vm host);
      carried = targets plan h sound r;
    }
