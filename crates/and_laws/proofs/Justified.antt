-- Every fate of a run of a sound plan has its reason.
use Rattle.std.proofs.Common.{◌≡◌, ℕ, true, false, List, [], ◌∷◌, subst, arith}
use Rattle.std.specs.Prelude.{IsTrue}
use Rattle.and_policy.specs.declared.decision.Way.{Way}
use Rattle.and_policy.specs.declared.decision.Routed.TheVariants as routeds
use Rattle.and_policy.specs.Owners.{routed}
use Rattle.and_events.specs.declared.event.Actor.{Actor}
use Rattle.and_events.specs.declared.event.Endpoint.{Endpoint}
use Rattle.and_events.specs.declared.event.Endpoint.TheVariants as endpoints
use Rattle.and_events.specs.declared.event.End.{End}
use Rattle.and_events.specs.declared.event.End.TheVariants.{Queued, Full, Hops}
use Rattle.and_events.specs.declared.event.Departure.{Departure}
use Rattle.and_events.specs.declared.event.Departure.TheVariants.{NoVm, Spoofed, Denied, Allowed}
use Rattle.and_events.specs.declared.event.Passage.{Passage}
use Rattle.and_events.specs.declared.event.Passage.TheVariants as passages
use Rattle.and_events.specs.declared.event.Return.{Return}
use Rattle.and_events.specs.declared.event.Return.TheVariants as returns
use Rattle.and_events.specs.declared.event.Arrival.{Arrival}
use Rattle.and_events.specs.declared.event.Arrival.TheVariants as arrivals
use Rattle.and_events.specs.declared.event.Event.{Event}
use Rattle.and_events.specs.declared.event.Event.TheVariants.{Inject, Egress, Sealed, Route, Redirect, Ingress}
use Rattle.and_events.specs.declared.event.Queue.{Queue}
use Rattle.and_events.specs.declared.event.Queue.TheVariants.{Out, Wire, Seal}
use Rattle.and_events.specs.declared.plan.Plan.{Plan}
use Rattle.and_events.specs.State.{state, carried_at, dest_endpoint}
use Rattle.and_events.specs.Legal.{Legal, Sends, entries_at}
use Rattle.and_events.specs.Run.{Run, fate_of, is_it}
use Rattle.and_events.specs.Just.{address, IsSpent, LostAt, JustBy, Just}
use Rattle.and_events.specs.Sound.{IsSound}
use Rattle.and_laws.specs.Stages.{Stages}
use Rattle.and_laws.proofs.Sizes.{sizes}
use Rattle.and_laws.proofs.Hops.{hops_left}
use Rattle.and_laws.proofs.Actors.{takes_worker, takes_gateway, takes_coprocessor}
use Rattle.and_laws.proofs.Stages.{Holder}
use Rattle.and_laws.proofs.Staged.{in_hand_of, holder, stages}
use Rattle.and_laws.proofs.Trails.{no_vm_by, spoofed_by, denied_by, at_route, at_redirect, at_host}

-- ---- losses

-- a packet in hand without a hop left was sent as often as the hop limit says
spent : (plan : Plan) (h : List Event) (a : Actor) (i : ℕ) (q : Queue) → Run plan h → Holder plan h a i q → (carried_at (state plan h) i).hops ≡ 0 → IsSpent plan h i
spent plan h a i q r k none = omega (arith, hops_left plan h r i (omega (arith, k.known, (sizes plan h).carried)), none)

lost_at : (plan : Plan) (h : List Event) (a : Actor) (i : ℕ) (q : Queue) (target : Endpoint) (end : End) → Run plan h → Holder plan h a i q → Sends plan (state plan h) i target end → LostAt plan h i target end
lost_at plan h a i q target Queued r k l = tt
lost_at plan h a i q target Full r k l = l.1.1
lost_at plan h a i q target Hops r k l = spent plan h a i q r k l

-- ---- fates

module _ (plan : Plan) (h : List Event) (a : Actor) (i at : ℕ) (r : Run plan h) where
  egress_just : (way : Way) (d : Departure) → Holder plan h a i Out → Legal plan (state plan h) (Egress a i at way d) → JustBy plan h (Egress a i at way d)
  unfolding Legal JustBy
  egress_just way NoVm k l = no_vm_by _ _ l.2
  egress_just way Spoofed k l = spoofed_by _ _ l.2
  egress_just way (Denied n) k l = denied_by _ _ n l.2
  egress_just way (Allowed by true dest Queued) k l = tt
  egress_just way (Allowed by true dest Full) k l = l.2.1.1
  egress_just way (Allowed by true dest Hops) k l = l.2.1
  egress_just way (Allowed by false dest end) k l = lost_at plan h a i Out (dest_endpoint dest) end r k l.2.2

  route_just : (p : Passage) → Holder plan h a i Wire → Legal plan (state plan h) (Route a i at p) → JustBy plan h (Route a i at p)
  unfolding Legal JustBy
  route_just (passages.Dropped by) k l =
      let c = carried_at (state plan h) i in
      subst (λ n. routed (entries_at plan (state plan h) a at) n (address plan i) ≡ routeds.Dropped by) (at_route plan h i c.net c.target l.2 k.stage.0).own l.3
  route_just (passages.NoOwner by) k l =
      let c = carried_at (state plan h) i in
      subst (λ n. routed (entries_at plan (state plan h) a at) n (address plan i) ≡ routeds.NoOwner by) (at_route plan h i c.net c.target l.2 k.stage.0).own l.3
  route_just (passages.Send by net host end) k l = lost_at plan h a i Wire (endpoints.Host host) end r k l.3.2
  route_just (passages.Hops by) k l =
      let c = carried_at (state plan h) i in
      let said = subst (λ n. routed (entries_at plan (state plan h) a at) n (address plan i) ≡ routeds.To by l.3.0 l.3.1) (at_route plan h i c.net c.target l.2 k.stage.0).own l.3.2 in
      ((l.3.0, l.3.1, said), spent plan h a i Wire r k l.3.3)

  redirect_just : (b : Return) → Holder plan h a i Wire → Legal plan (state plan h) (Redirect a i at b) → JustBy plan h (Redirect a i at b)
  unfolding Legal JustBy
  redirect_just returns.NoOwner k l =
      let c = carried_at (state plan h) i in
      (c.net, at_redirect plan h i c.net c.target l.2 k.stage.0, l.3)
  redirect_just (returns.Send host end) k l = lost_at plan h a i Wire (endpoints.Host host) end r k l.3.2
  redirect_just returns.Hops k l =
      let c = carried_at (state plan h) i in
      ((c.net, l.3.0, at_redirect plan h i c.net c.target l.2 k.stage.0, l.3.1), spent plan h a i Wire r k l.3.2)

  ingress_just : (way : Way) (v : Arrival) → Holder plan h a i Wire → Legal plan (state plan h) (Ingress a i at way v) → JustBy plan h (Ingress a i at way v)
  unfolding Legal JustBy
  ingress_just way arrivals.NoOwner k l =
      let c = carried_at (state plan h) i in
      (c.net, at_host plan h i c.net c.target a l.1 k.stage.1 k.stage.0, l.2)
  ingress_just way (arrivals.Running vm by pass) k l =
      let c = carried_at (state plan h) i in
      ((c.net, at_host plan h i c.net c.target a l.1 k.stage.1 k.stage.0, l.2.0), l.2.1)
  ingress_just way (arrivals.Blackout vm) k l =
      let c = carried_at (state plan h) i in
      ((c.net, at_host plan h i c.net c.target a l.1 k.stage.1 k.stage.0, l.2.0), l.2.1)
  ingress_just way (arrivals.Hairpin vm host end) k l =
      let c = carried_at (state plan h) i in
      ((c.net, at_host plan h i c.net c.target a l.1 k.stage.1 k.stage.0, l.2.0), l.2.1, lost_at plan h a i Wire (endpoints.Host host) end r k l.2.2)
  ingress_just way (arrivals.Absent vm gateway end) k l =
      let c = carried_at (state plan h) i in (
        (c.net, at_host plan h i c.net c.target a l.1 k.stage.1 k.stage.0, l.2.0),
        l.2.1,
        l.2.2,
        lost_at plan h a i Wire (endpoints.Redirect gateway) end r k l.2.3,
      )

just_by : (plan : Plan) (h : List Event) (e : Event) (i : ℕ) → IsSound plan → Run plan h → Stages plan h → Legal plan (state plan h) e → IsTrue (is_it i (fate_of e)) → JustBy plan h e
unfolding Legal JustBy fate_of
just_by plan h (Inject step j true) i sound r st l fate = l.1.1
just_by plan h (Inject step j false) i sound r st l fate = absurd (let no : false ≡ true = fate in cc)
just_by plan h (Egress a j at way d) i sound r st l fate = egress_just plan h a j at r way d (holder plan h a j at Out (takes_worker a l.1) l.0 sound r st) l
just_by plan h (Sealed a j end) i sound r st l fate =
    lost_at plan h a j Seal (carried_at (state plan h) j).target end r (in_hand_of plan h a j l.2.0 Seal l.0 (takes_coprocessor a l.1) l.2.1 sound r st) l.4
just_by plan h (Route a j at p) i sound r st l fate = route_just plan h a j at r p (holder plan h a j at Wire (takes_gateway a l.1) l.0 sound r st) l
just_by plan h (Redirect a j at b) i sound r st l fate = redirect_just plan h a j at r b (holder plan h a j at Wire (takes_gateway a l.1) l.0 sound r st) l
just_by plan h (Ingress a j at way v) i sound r st l fate = ingress_just plan h a j at r way v (holder plan h a j at Wire (takes_worker a l.1) l.0 sound r st) l
just_by plan h e i sound r st l fate = tt

pub just : (plan : Plan) (h : List Event) → IsSound plan → Run plan h → (i : ℕ) → Just plan h i
unfolding Run Just
just plan [] sound r i = tt
just plan (e ∷ h) sound r i = (just plan h sound r.0 i, just_by plan h e i sound r.0 (stages plan h sound r.0) r.1)
