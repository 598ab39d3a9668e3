-- An enabled actor has a legal event.
use Rattle.std.proofs.Common.{◌≡◌, ◌≢◌, ℕ, zero, suc, ◌<◌, ◌≤◌, Bool, true, false, List, length, refl, sym, ap, ◌∙◌, subst, arith, Option, Some, None, ⊎_elim, inl, inr, ◌⊎◌}
use Rattle.std.specs.Prelude.{slice_get}
use Rattle.std.proofs.lemmas.Bool.{cases_eq, cases_lt}
use Rattle.and_policy.specs.declared.entry.Order.{Order}
use Rattle.and_policy.specs.declared.decision.Exit.{Exit}
use Rattle.and_policy.specs.declared.decision.Exit.TheVariants as exits
use Rattle.and_policy.specs.declared.decision.Dest.{Dest}
use Rattle.and_policy.specs.declared.decision.Name.{Name}
use Rattle.and_policy.specs.declared.decision.Leaving.{Leaving}
use Rattle.and_policy.specs.declared.decision.Leaving.TheVariants as leavings
use Rattle.and_policy.specs.declared.decision.Routed.{Routed}
use Rattle.and_policy.specs.declared.decision.Routed.TheVariants as routeds
use Rattle.and_policy.specs.declared.decision.Located.{Located}
use Rattle.and_policy.specs.declared.decision.Located.TheVariants as locateds
use Rattle.and_policy.specs.declared.decision.Landing.{Landing}
use Rattle.and_policy.specs.declared.decision.Landing.TheVariants as landings
use Rattle.and_policy.specs.declared.decision.Way.{Way}
use Rattle.and_policy.specs.declared.decision.Way.TheVariants.{Slow}
use Rattle.and_policy.specs.declared.packet.Tuple.{Tuple}
use Rattle.and_policy.specs.declared.port.Port.{Port}
use Rattle.and_policy.specs.declared.port.Port.TheVariants as port_states
use Rattle.and_policy.specs.Logs.{vm_of}
use Rattle.and_policy.specs.Egress.{egress}
use Rattle.and_policy.specs.Ingress.{landing}
use Rattle.and_policy.specs.Owners.{routed, located}
use Rattle.and_policy.specs.FlowHash.{gateway_of}
use Rattle.and_policy.specs.Programmes.{prefix, live, leaving, leaving_by, dest_by, own_net}
use Rattle.and_events.specs.declared.event.Actor.{Actor}
use Rattle.and_events.specs.declared.event.Actor.TheVariants.{HostInstall, GateInstall, Worker, Coproc, Gateway, Controller, Driver}
use Rattle.and_events.specs.declared.event.Arrival.{Arrival}
use Rattle.and_events.specs.declared.event.Arrival.TheVariants as arrivals
use Rattle.and_events.specs.declared.event.Departure.{Departure}
use Rattle.and_events.specs.declared.event.Departure.TheVariants as departures
use Rattle.and_events.specs.declared.event.End.{End}
use Rattle.and_events.specs.declared.event.End.TheVariants.{Queued, Full, Hops}
use Rattle.and_events.specs.declared.event.Endpoint.{Endpoint}
use Rattle.and_events.specs.declared.event.Endpoint.TheVariants as endpoints
use Rattle.and_events.specs.declared.event.Event.{Event}
use Rattle.and_events.specs.declared.event.Event.TheVariants.{Append, Review, Hold, Free, Wait, Inject, Blackout, Resume, Finish, Announce, Installed, Take, Egress, Sealed, Route, Redirect, Ingress, Unpin}
use Rattle.and_events.specs.declared.event.Held.{Held}
use Rattle.and_events.specs.declared.event.Node.{Node}
use Rattle.and_events.specs.declared.event.Node.TheVariants.{Host, Gate}
use Rattle.and_events.specs.declared.event.Passage.{Passage}
use Rattle.and_events.specs.declared.event.Passage.TheVariants as passages
use Rattle.and_events.specs.declared.event.Queue.{Queue}
use Rattle.and_events.specs.declared.event.Queue.TheVariants.{Out, Wire, Seal}
use Rattle.and_events.specs.declared.event.Return.{Return}
use Rattle.and_events.specs.declared.event.Return.TheVariants as returns
use Rattle.and_events.specs.declared.plan.Plan.{Plan}
use Rattle.and_events.specs.declared.plan.Step.{Step}
use Rattle.and_events.specs.declared.plan.Step.TheVariants as steps
use Rattle.and_events.specs.Places.{actor_of, installer_of, node_of, node_place, hand_place, queue_place, queue_count, capacity_at, IsActor, IsNode, HasQueue}
use Rattle.and_events.specs.Flow.{queue_at, hand_at}
use Rattle.and_events.specs.Ports.{port_at, IsHairpin}
use Rattle.and_events.specs.Programming.{HasInstalled, entries_installed}
use Rattle.and_events.specs.State.{State, state, node_at, dest_endpoint, carried_at, packet_at, tuple_at, home, programme_of, announced_of}
use Rattle.and_events.specs.Legal.{Legal, Enabled, EndsAt, Sends, Departs, Passes, GoesBack, Arrives, Decides, CanAnnounce, CanInstall, CanStep, CanTake, CanUnpin, IsRipe, IsRouteTarget, IsRedirectTarget, entries_at}
use Rattle.and_events.specs.Run.{Run}
use Rattle.and_events.specs.Sound.{IsSound}
use Rattle.and_laws.specs.Choices.{choice_of}
use Rattle.and_laws.specs.Having.{HasEvent, HasWay}
use Rattle.and_laws.specs.Stages.{Takes, MayTake, StageAt}
use Rattle.and_laws.proofs.Capacity.{queues_within}
use Rattle.and_laws.proofs.Enabling.{search_nodes}
use Rattle.and_laws.proofs.Hairpins.{pin}
use Rattle.and_laws.proofs.Hands.{right_hands}
use Rattle.and_laws.proofs.Leads.{to_nodes}
use Rattle.and_laws.proofs.Needed.{needed_installed}
use Rattle.and_laws.proofs.Programmed.{programmed}
use Rattle.and_laws.proofs.Queues.{queue_within, wire_there}
use Rattle.and_laws.proofs.Sizes.{sizes}
use Rattle.and_laws.proofs.Staged.{stages}
use Rattle.and_laws.proofs.Unstuck.{pin_there}

module _ (plan : Plan) (h : List Event) (sound : IsSound plan) (r : Run plan h) where
  abbrev Now : State
  Now = state plan h

  -- ---- ends

  record Ends (q : ℕ) : Type 0 where
    pub end : End
    pub is : EndsAt plan (state plan h) q end
    pub goes : end ≢ Hops

  -- a try at a queue that is there ends so or so
  ends : (q : ℕ) → q < queue_count plan.settings → Ends q
  ends q there =
      let within : q < length (state plan h).flow.queues = omega (arith, there, (sizes plan h).queues) in
      ⊎_elim
      (λ (room : length (queue_at (state plan h).flow.queues q) < capacity_at plan.settings q). record { end = Queued; is = (within, room); goes = λ e. absurd (cc) })
      (λ (none : capacity_at plan.settings q ≤ length (queue_at (state plan h).flow.queues q)).
      record { end = Full; is = (within, omega (arith, none, queues_within plan h r q)); goes = λ e. absurd (cc) })
      (cases_lt (length (queue_at (state plan h).flow.queues q)) (capacity_at plan.settings q))

  record Sent (i : ℕ) (target : Endpoint) : Type 0 where
    pub end : End
    pub is : Sends plan (state plan h) i target end
    pub goes : end ≢ Hops

  -- a packet that has hops is sent, or lost at a full queue
  sent : (i : ℕ) (target : Endpoint) → IsNode plan.settings (node_at target) → 0 < (carried_at (state plan h) i).hops → Sent i target
  sent i target there hops = by_end (ends (queue_place plan.settings (node_at target) Wire) (queue_within plan.settings (node_at target) Wire there (wire_there (node_at target))))
    where
      with_end : (e : End) → EndsAt plan (state plan h) (queue_place plan.settings (node_at target) Wire) e → e ≢ Hops → Sent i target
      with_end Queued is goes = record { end = Queued; is = (hops, is, there); goes = goes }
      with_end Full is goes = record { end = Full; is = (hops, is, there); goes = goes }
      with_end Hops is goes = absurd (goes refl)

      by_end : Ends (queue_place plan.settings (node_at target) Wire) → Sent i target
      by_end x = with_end x.end x.is x.goes

  record Tried (i : ℕ) (target : Endpoint) : Type 0 where
    pub end : End
    pub is : Sends plan (state plan h) i target end

  -- a send of any packet ends somehow
  tried : (i : ℕ) (target : Endpoint) → IsNode plan.settings (node_at target) → (n : ℕ) → (carried_at (state plan h) i).hops ≡ n → Tried i target
  tried i target there zero e = record { end = Hops; is = e }
  tried i target there (suc n) e = let s = sent i target there (omega (arith, e)) in record { end = s.end; is = s.is }

  -- ---- what a decision can be

  some_hops : 0 < plan.settings.hop_limit
  some_hops = omega (arith, sound.settings.hop_limit.0)

  record Departed (here : Node) (i : ℕ) (said : Leaving) : Type 0 where
    pub departure : Departure
    pub is : Departs plan (state plan h) here i said departure

  -- where a departure leads is a node
  abbrev LeadsOut : Leaving → Type 0
  LeadsOut (leavings.Allowed by sealed dest) = IsNode plan.settings (node_at (dest_endpoint dest))
  LeadsOut _ = Unit {0}

  departed : (here : Node) (i : ℕ) (said : Leaving) → IsNode plan.settings here → HasQueue here Seal → 0 < (carried_at (state plan h) i).hops → LeadsOut said → Departed here i said
  departed here i leavings.NoVm there seals hops out = record { departure = departures.NoVm; is = refl }
  departed here i leavings.Spoofed there seals hops out = record { departure = departures.Spoofed; is = refl }
  departed here i (leavings.Denied n) there seals hops out = record { departure = departures.Denied n; is = refl }
  departed here i (leavings.Allowed by true dest) there seals hops out =
      let e = ends (queue_place plan.settings here Seal) (queue_within plan.settings here Seal there seals) in
      record { departure = departures.Allowed by true dest e.end; is = (refl, e.is) }
  departed here i (leavings.Allowed by false dest) there seals hops out =
      let e = sent i (dest_endpoint dest) out hops in
      record { departure = departures.Allowed by false dest e.end; is = (refl, e.goes, e.is) }

  leads_out : (x : Exit) (dest : Dest) → IsNode plan.settings (node_at (dest_endpoint dest)) → LeadsOut (leaving_by x dest)
  leads_out exits.NoVm dest there = tt
  leads_out exits.Spoofed dest there = tt
  leads_out (exits.Denied n) dest there = tt
  leads_out (exits.Allowed by sealed) dest there = there

  dest_there : (x : Tuple) (o : Option Order) → ((order : Order) → o ≡ Some order → order.to_host < plan.settings.hosts) → IsNode plan.settings (node_at (dest_endpoint (dest_by plan.settings.gateways x o)))
  dest_there x None known = (to_nodes plan h sound r).gateways x
  dest_there x (Some order) known = known order refl

  leads : (node : Node) (at i : ℕ) → IsNode plan.settings node
      → LeadsOut (leaving plan.settings.gateways (programme_of plan (state plan h) node) at (packet_at plan i).vm (tuple_at plan i))
  leads node at i there =
      let p = programme_of plan (state plan h) node in
      let net = own_net (vm_of (prefix p at) (packet_at plan i).vm) in
      leads_out (egress (prefix p at) (packet_at plan i).vm (tuple_at plan i)) (dest_by plan.settings.gateways (tuple_at plan i) (live p at net (tuple_at plan i).destination))
      (dest_there (tuple_at plan i) (live p at net (tuple_at plan i).destination) (((to_nodes plan h sound r).programmes node there at).orders net (tuple_at plan i).destination))

  record Landed (here i : ℕ) (said : Landing) : Type 0 where
    pub arrival : Arrival
    pub is : Arrives plan (state plan h) here i said arrival

  landed_at : (here i vm : ℕ) (by : Name) (pass : Bool) (port : Port) → port_at (state plan h).ports here vm ≡ port → Landed here i (landings.Owned vm by pass)
  landed_at here i vm by pass port_states.Running e = record { arrival = arrivals.Running vm by pass; is = (refl, e) }
  landed_at here i vm by pass port_states.Paused e = record { arrival = arrivals.Blackout vm; is = ((by, pass, refl), inl e) }
  landed_at here i vm by pass port_states.Arriving e = record { arrival = arrivals.Blackout vm; is = ((by, pass, refl), inr e) }
  landed_at here i vm by pass (port_states.Hairpin host entry) e =
      let t = tried i (endpoints.Host host) ((to_nodes plan h sound r).hairpins here vm host entry e) (carried_at (state plan h) i).hops refl in
      record { arrival = arrivals.Hairpin vm host t.end; is = ((by, pass, refl), (entry, e), t.is) }
  landed_at here i vm by pass port_states.Absent e =
      let g = gateway_of plan.settings.gateways (tuple_at plan i) in
      let t = tried i (endpoints.Redirect g) ((to_nodes plan h sound r).gateways (tuple_at plan i)) (carried_at (state plan h) i).hops refl in
      record { arrival = arrivals.Absent vm g t.end; is = ((by, pass, refl), e, refl, t.is) }

  landed : (here i : ℕ) (said : Landing) → Landed here i said
  landed here i landings.NoOwner = record { arrival = arrivals.NoOwner; is = refl }
  landed here i (landings.Owned vm by pass) = landed_at here i vm by pass (port_at (state plan h).ports here vm) refl

  record Passed (i : ℕ) (said : Routed) : Type 0 where
    pub passage : Passage
    pub is : Passes plan (state plan h) i said passage

  passed : (i : ℕ) (said : Routed) → ((by : Name) (net host : ℕ) → said ≡ routeds.To by net host → host < plan.settings.hosts) → (n : ℕ) → (carried_at (state plan h) i).hops ≡ n → Passed i said
  passed i (routeds.Dropped by) known n e = record { passage = passages.Dropped by; is = refl }
  passed i (routeds.NoOwner by) known n e = record { passage = passages.NoOwner by; is = refl }
  passed i (routeds.To by net host) known zero e = record { passage = passages.Hops by; is = (net, host, refl, e) }
  passed i (routeds.To by net host) known (suc n) e =
      let t = sent i (endpoints.Host host) (known by net host refl) (omega (arith, e)) in
      record { passage = passages.Send by net host t.end; is = (refl, t.goes, t.is) }

  record Returned (i : ℕ) (said : Located) : Type 0 where
    pub back : Return
    pub is : GoesBack plan (state plan h) i said back

  returned : (i : ℕ) (said : Located) → ((host : ℕ) → said ≡ locateds.To host → host < plan.settings.hosts) → (n : ℕ) → (carried_at (state plan h) i).hops ≡ n → Returned i said
  returned i locateds.NoOwner known n e = record { back = returns.NoOwner; is = refl }
  returned i (locateds.To host) known zero e = record { back = returns.Hops; is = (host, refl, e) }
  returned i (locateds.To host) known (suc n) e =
      let t = sent i (endpoints.Host host) (known host refl) (omega (arith, e)) in
      record { back = returns.Send host t.end; is = (refl, t.goes, t.is) }

  -- ---- actors that decide

  held_is : (g : Held) (q : Queue) → g.queue ≡ q → g ≡ record { packet = g.packet; need = g.need; queue = q }
  held_is g q e = ap (λ z. record { packet = g.packet; need = g.need; queue = z }) e

  decides_at : (a : Actor) (g : Held) (q : Queue) (at : ℕ) → IsActor plan.settings a → hand_at (state plan h).flow.hands (hand_place plan.settings a) ≡ Some g → g.queue ≡ q → g.need ≤ at
      → at ≤ announced_of plan (state plan h) (node_of a) → Decides plan (state plan h) a g.packet q at
  decides_at a g q at is has from least most = record { actor = is; need = g.need; holds = has ∙ ap Some (held_is g q from); least = least; most = most }

  abbrev Decided : Actor → ℕ → Way → Type 0
  Decided a at way = (e : Event) × (actor_of e ≡ a) × (choice_of e ≡ Some (record { at = at; way = way })) × Legal plan (state plan h) e

  worker_decides : (x w : ℕ) (g : Held) (at : ℕ) (way : Way) (q : Queue) → IsActor plan.settings (Worker x w) → hand_at (state plan h).flow.hands (hand_place plan.settings (Worker x w)) ≡ Some g → g.queue ≡ q → g.need ≤ at
      → at ≤ announced_of plan (state plan h) (Host x) → MayTake (Worker x w) q → StageAt plan h g.packet q (Host x) → Decided (Worker x w) at way
  unfolding Legal
  worker_decides x w g at way Out is has from least most may stage =
      let a = Worker x w in
      let hops : 0 < (carried_at (state plan h) g.packet).hops = omega (arith, stage.1, some_hops) in
      let d = departed (Host x) g.packet (leaving plan.settings.gateways (programme_of plan (state plan h) (Host x)) at (packet_at plan g.packet).vm (tuple_at plan g.packet)) is.0 tt hops (leads (Host x) at g.packet is.0) in
      (Egress a g.packet at way d.departure, refl, refl, (decides_at a g Out at is has from least most, tt, d.is))
  worker_decides x w g at way Wire is has from least most may stage =
      let a = Worker x w in
      let l = landed x g.packet (landing (entries_at plan (state plan h) a at) (carried_at (state plan h) g.packet).net (tuple_at plan g.packet)) in
      (Ingress a g.packet at way l.arrival, refl, refl, (decides_at a g Wire at is has from least most, tt, l.is))
  worker_decides x w g at way Seal is has from least most may stage = absurd may

  gateway_decides : (x : ℕ) (g : Held) (at : ℕ) (q : Queue) (t : Endpoint) → IsActor plan.settings (Gateway x) → hand_at (state plan h).flow.hands (hand_place plan.settings (Gateway x)) ≡ Some g → g.queue ≡ q → g.need ≤ at
      → at ≤ announced_of plan (state plan h) (Gate x) → MayTake (Gateway x) q → (carried_at (state plan h) g.packet).target ≡ t → node_at t ≡ Gate x → Decided (Gateway x) at Slow
  unfolding Legal
  gateway_decides x g at Wire (endpoints.Route y) is has from least most may target there =
      let a = Gateway x in
      let c = carried_at (state plan h) g.packet in
      let p = passed g.packet (routed (entries_at plan (state plan h) a at) c.net (tuple_at plan g.packet).destination)
      (((to_nodes plan h sound r).programmes (Gate x) is at).routes c.net (tuple_at plan g.packet).destination) c.hops refl in
      (Route a g.packet at p.passage, refl, refl, (decides_at a g Wire at is has from least most, tt, subst IsRouteTarget (sym target) tt, p.is))
  gateway_decides x g at Wire (endpoints.Redirect y) is has from least most may target there =
      let a = Gateway x in
      let c = carried_at (state plan h) g.packet in
      let b = returned g.packet (located (entries_at plan (state plan h) a at) c.net (tuple_at plan g.packet).destination)
      (((to_nodes plan h sound r).programmes (Gate x) is at).places c.net (tuple_at plan g.packet).destination) c.hops refl in
      (Redirect a g.packet at b.back, refl, refl, (decides_at a g Wire at is has from least most, tt, subst IsRedirectTarget (sym target) tt, b.is))
  gateway_decides x g at Wire (endpoints.Host y) is has from least most may target there = absurd (cc)
  gateway_decides x g at Out t is has from least most may target there = absurd may
  gateway_decides x g at Seal t is has from least most may target there = absurd may

  gateway_stage : (x : ℕ) (g : Held) (q : Queue) → MayTake (Gateway x) q → StageAt plan h g.packet q (Gate x) → node_at (carried_at (state plan h) g.packet).target ≡ Gate x
  gateway_stage x g Wire may stage = stage.1
  gateway_stage x g Out may stage = absurd may
  gateway_stage x g Seal may stage = absurd may

  -- an actor with a packet in hand can decide at each number that it may, in each way
  pub anywhere : (a : Actor) (g : Held) (at : ℕ) (way : Way) → IsActor plan.settings a → HasWay a way → hand_at (state plan h).flow.hands (hand_place plan.settings a) ≡ Some g → g.need ≤ at
      → at ≤ announced_of plan (state plan h) (node_of a) → Decided a at way
  anywhere (Worker x w) g at way is ways has least most =
      worker_decides x w g at way g.queue is has refl least most (right_hands plan h r (Worker x w) g is tt has) ((stages plan h sound r).hands (Worker x w) g is tt has)
  anywhere (Gateway x) g at way is ways has least most =
      let may = right_hands plan h r (Gateway x) g is tt has in
      subst (Decided (Gateway x) at) (sym ways)
      (gateway_decides x g at g.queue (carried_at (state plan h) g.packet).target is has refl least most may refl
      (gateway_stage x g g.queue may ((stages plan h sound r).hands (Gateway x) g is tt has)))
  anywhere (Coproc x) g at way is ways has least most = absurd ways
  anywhere (HostInstall x) g at way is ways has least most = absurd ways
  anywhere (GateInstall x) g at way is ways has least most = absurd ways
  anywhere Controller g at way is ways has least most = absurd ways
  anywhere Driver g at way is ways has least most = absurd ways

  -- ---- the other actors

  coproc_seals : (x : ℕ) (g : Held) (q : Queue) → x < plan.settings.hosts → hand_at (state plan h).flow.hands (hand_place plan.settings (Coproc x)) ≡ Some g → g.queue ≡ q → MayTake (Coproc x) q → StageAt plan h g.packet q (Host x)
      → HasEvent plan (state plan h) (Coproc x)
  unfolding Legal
  coproc_seals x g Seal is has from may stage =
      let c = carried_at (state plan h) g.packet in
      let t = sent g.packet c.target ((to_nodes plan h sound r).carried g.packet) (omega (arith, stage.1, some_hops)) in
      record { event = Sealed (Coproc x) g.packet t.end; actor = refl; legal = (is, tt, (g.need, has ∙ ap Some (held_is g Seal from)), t.goes, t.is) }
  coproc_seals x g Out is has from may stage = absurd may
  coproc_seals x g Wire is has from may stage = absurd may

  of_decision : (a : Actor) (at : ℕ) (way : Way) → Decided a at way → HasEvent plan (state plan h) a
  of_decision a at way d = record { event = d.0; actor = d.1; legal = d.3 }

  -- what is in hand is decided of at what was needed
  now_decides : (a : Actor) (g : Held) → IsActor plan.settings a → Takes a → HasWay a Slow → IsNode plan.settings (node_of a) → hand_at (state plan h).flow.hands (hand_place plan.settings a) ≡ Some g → HasEvent plan (state plan h) a
  now_decides a g is takes ways node has =
      of_decision a g.need Slow
      (anywhere a g g.need Slow is ways has (omega arith) (omega (arith, needed_installed plan h r a g is takes has, (programmed plan h r (node_of a) node).installed)))

  takes_one : (a : Actor) (q : Queue) (i : ℕ) → CanTake plan (state plan h) a q i → HasEvent plan (state plan h) a
  unfolding Legal
  takes_one a q i can = record { event = Take a q i; actor = refl; legal = can }

  announces : (node : Node) → CanAnnounce plan (state plan h) node → HasEvent plan (state plan h) (installer_of node)
  unfolding Legal
  announces node can = record { event = Announce node (length (programme_of plan (state plan h) node)); actor = refl; legal = (can, refl) }

  installs : (node : Node) → CanInstall plan (state plan h) node → HasEvent plan (state plan h) (installer_of node)
  unfolding Legal
  installs node can = record { event = Installed node (announced_of plan (state plan h) node); actor = refl; legal = (can, refl) }

  -- the packet enters its host's queue, or is lost there
  injects : (i : ℕ) → slice_get plan.steps (state plan h).next ≡ Some (steps.Inject i) → CanStep plan (state plan h) (steps.Inject i) → HasEvent plan (state plan h) Driver
  unfolding Legal
  injects i told can =
      let s = state plan h in
      let q = queue_place plan.settings (Host (home plan s i)) Out in
      let within : q < length s.flow.queues = omega (arith, queue_within plan.settings (Host (home plan s i)) Out can.2 tt, (sizes plan h).queues) in
      ⊎_elim
      (λ (room : length (queue_at s.flow.queues q) < capacity_at plan.settings q).
      record { event = Inject s.next i false; actor = refl; legal = ((refl, told, can), (within, room)) })
      (λ (none : capacity_at plan.settings q ≤ length (queue_at s.flow.queues q)).
      record { event = Inject s.next i true; actor = refl; legal = ((refl, told, can), (within, omega (arith, none, queues_within plan h r q))) })
      (cases_lt (length (queue_at s.flow.queues q)) (capacity_at plan.settings q))

  drives : (step : Step) → slice_get plan.steps (state plan h).next ≡ Some step → CanStep plan (state plan h) step → HasEvent plan (state plan h) Driver
  unfolding Legal
  drives (steps.Append e) told can = record { event = Append (state plan h).next; actor = refl; legal = (e, (refl, told, can)) }
  drives steps.Review told can = record { event = Review (state plan h).next; actor = refl; legal = (refl, told, can) }
  drives (steps.Hold node what) told can = record { event = Hold (state plan h).next; actor = refl; legal = (node, what, (refl, told, can)) }
  drives (steps.Free node what) told can = record { event = Free (state plan h).next; actor = refl; legal = (node, what, (refl, told, can)) }
  drives steps.Wait told can = record { event = Wait (state plan h).next; actor = refl; legal = (refl, told, can) }
  drives (steps.Inject i) told can = injects i told can
  drives (steps.Blackout vm host) told can = record { event = Blackout (state plan h).next; actor = refl; legal = (vm, host, (refl, told, can)) }
  drives (steps.Resume vm) told can = record { event = Resume (state plan h).next; actor = refl; legal = (vm, (refl, told, can)) }
  drives steps.Finish told can = record { event = Finish (state plan h).next; actor = refl; legal = (refl, told, can) }

  -- ---- the controller

  abbrev Ripe : ℕ → ℕ → Type 0
  Ripe host vm = IsRipe plan (state plan h) host vm

  -- a node that has not installed the entry
  record Waits (entry : ℕ) : Type 0 where
    pub node : Node
    pub is : IsNode plan.settings node
    pub fewer : HasInstalled (state plan h).programmes (node_place plan.settings node) entry → ⊥

  waits_or : (entry : ℕ) → ((node : Node) → IsNode plan.settings node → HasInstalled (state plan h).programmes (node_place plan.settings node) entry) ⊎ Waits entry
  waits_or entry =
      search_nodes plan.settings (λ node. HasInstalled (state plan h).programmes (node_place plan.settings node) entry)
      (λ node is.
      ⊎_elim (λ (few : entries_installed (state plan h).programmes (node_place plan.settings node) < entry). inr (record { node = node; is = is; fewer = λ has. omega (arith, few, has) }))
      (λ (has : entry ≤ entries_installed (state plan h).programmes (node_place plan.settings node)). inl has)
      (cases_lt (entries_installed (state plan h).programmes (node_place plan.settings node)) entry))

  ripe_by : (host vm : ℕ) (port : Port) → port_at (state plan h).ports host vm ≡ port → Ripe host vm ⊎ (Ripe host vm → ⊥)
  ripe_by host vm port_states.Absent e = inr (λ x. absurd (let clash : port_states.Absent ≡ port_states.Hairpin x.0 x.1 = sym e ∙ x.3 in cc))
  ripe_by host vm port_states.Running e = inr (λ x. absurd (let clash : port_states.Running ≡ port_states.Hairpin x.0 x.1 = sym e ∙ x.3 in cc))
  ripe_by host vm port_states.Paused e = inr (λ x. absurd (let clash : port_states.Paused ≡ port_states.Hairpin x.0 x.1 = sym e ∙ x.3 in cc))
  ripe_by host vm port_states.Arriving e = inr (λ x. absurd (let clash : port_states.Arriving ≡ port_states.Hairpin x.0 x.1 = sym e ∙ x.3 in cc))
  ripe_by host vm (port_states.Hairpin to entry) e =
      let pins : pin (port_at (state plan h).ports host vm) ≡ 1 = ap pin e in
      let there : host < plan.settings.hosts = (pin_there plan h host vm (subst IsHairpin (sym e) tt)).0 in
      ⊎_elim
      (λ (all : (node : Node) → IsNode plan.settings node → HasInstalled (state plan h).programmes (node_place plan.settings node) entry). inl (to, entry, there, e, all))
      (λ (w : Waits entry).
      inr (λ x.
      let same : port_states.Hairpin to entry ≡ port_states.Hairpin x.0 x.1 = sym e ∙ x.3 in
      let one : x.1 ≡ entry = cc in
      w.fewer (subst (λ q. HasInstalled (state plan h).programmes (node_place plan.settings w.node) q) one (x.4 w.node w.is))))
      (waits_or entry)

  record FirstAt (host : ℕ) : Type 0 where
    pub vm : ℕ
    pub ripe : Ripe host vm
    pub least : (v : ℕ) → v < vm → Ripe host v → ⊥

  first_at : (host n : ℕ) → ((v : ℕ) → v < n → Ripe host v → ⊥) ⊎ FirstAt host
  first_at host zero = inl (λ v l x. absurd (omega (arith, l)))
  first_at host (suc n) =
      ⊎_elim
      (λ (none : (v : ℕ) → v < n → Ripe host v → ⊥).
      ⊎_elim (λ (ripe : Ripe host n). inr (record { vm = n; ripe = ripe; least = none }))
      (λ (no : Ripe host n → ⊥).
      inl (λ v l x. ⊎_elim (λ (e : v ≡ n). no (subst (Ripe host) e x)) (λ (other : v ≡ n → ⊥). none v (omega (arith, l, other)) x) (cases_eq v n)))
      (ripe_by host n (port_at (state plan h).ports host n) refl))
      (λ (f : FirstAt host). inr f) (first_at host n)

  record First : Type 0 where
    pub host : ℕ
    pub vm : ℕ
    pub can : CanUnpin plan (state plan h) host vm

  first_below : (n : ℕ) → ((host vm : ℕ) → host < n → Ripe host vm → ⊥) ⊎ First
  first_below zero = inl (λ host vm l x. absurd (omega (arith, l)))
  first_below (suc n) =
      ⊎_elim
      (λ (none : (host vm : ℕ) → host < n → Ripe host vm → ⊥).
      ⊎_elim
      (λ (no : (v : ℕ) → v < length plan.names → Ripe n v → ⊥).
      inl (λ host vm l x.
      ⊎_elim (λ (e : host ≡ n). let y = subst (λ k. Ripe k vm) e x in no vm (pin_there plan h n vm (subst IsHairpin (sym y.3) tt)).1 y)
      (λ (other : host ≡ n → ⊥). none host vm (omega (arith, l, other)) x) (cases_eq host n)))
      (λ (f : FirstAt n).
      inr (record {
        host = n;
        vm = f.vm;
        can = (
          f.ripe,
          λ host vm x before.
              ⊎_elim (λ (l : host < n). none host vm l x)
              (λ (same : (host ≡ n) × (vm < f.vm)). f.least vm same.1 (subst (λ k. Ripe k vm) same.0 x)) before,
        );
      }))
      (first_at n (length plan.names)))
      (λ (f : First). inr f) (first_below n)

  controls : (host vm : ℕ) → Ripe host vm → HasEvent plan (state plan h) Controller
  unfolding Legal
  controls host vm x =
      ⊎_elim (λ (none : (host' vm' : ℕ) → host' < plan.settings.hosts → Ripe host' vm' → ⊥). absurd (none host vm x.2 x))
      (λ (f : First). record { event = Unpin f.host f.vm; actor = refl; legal = f.can }) (first_below plan.settings.hosts)

  -- ---- any actor

  pub has_event : (a : Actor) → Enabled plan (state plan h) a → HasEvent plan (state plan h) a
  has_event (HostInstall x) e = ⊎_elim (λ (c : CanAnnounce plan (state plan h) (Host x)). announces (Host x) c) (λ (c : CanInstall plan (state plan h) (Host x)). installs (Host x) c) e
  has_event (GateInstall x) e = ⊎_elim (λ (c : CanAnnounce plan (state plan h) (Gate x)). announces (Gate x) c) (λ (c : CanInstall plan (state plan h) (Gate x)). installs (Gate x) c) e
  has_event Controller e = controls e.0 e.1 e.2
  has_event Driver e = drives e.0 e.1 e.2
  has_event (Worker x w) e = ⊎_elim (λ c. now_decides (Worker x w) c.1.0 c.0 tt tt c.0.0 c.1.1) (λ c. takes_one (Worker x w) c.0 c.1 c.2) e
  has_event (Coproc x) e =
      ⊎_elim
      (λ c.
      let g : Held = c.1.0 in
      coproc_seals x g g.queue c.0 c.1.1 refl (right_hands plan h r (Coproc x) g c.0 tt c.1.1) ((stages plan h sound r).hands (Coproc x) g c.0 tt c.1.1))
      (λ c. takes_one (Coproc x) c.0 c.1 c.2) e
  has_event (Gateway x) e = ⊎_elim (λ c. now_decides (Gateway x) c.1.0 c.0 tt refl c.0 c.1.1) (λ c. takes_one (Gateway x) c.0 c.1 c.2) e
