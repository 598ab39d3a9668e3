-- Along a run of a sound plan the stages of packets hold.
use Rattle.std.proofs.Common.{ap, ◌≡◌, ℕ, ◌+◌, ◌<◌, Bool, true, false, List, [], ◌∷◌, refl, subst, arith, Some, replicate, length}
use Rattle.std.proofs.lemmas.List.{get_or-replicate, get_or_past, length-replicate}
use Rattle.std.proofs.lemmas.Option.{slice_get_within}
use Rattle.std.proofs.lemmas.Grind.{common_steps}
use Rattle.and_policy.specs.declared.decision.Way.{Way}
use Rattle.and_events.specs.declared.event.Actor.{Actor}
use Rattle.and_events.specs.declared.event.Actor.TheVariants.{HostInstall, GateInstall, Worker, Coproc, Gateway, Controller, Driver}
use Rattle.and_events.specs.declared.event.Endpoint.{Endpoint}
use Rattle.and_events.specs.declared.event.Endpoint.TheVariants as endpoints
use Rattle.and_events.specs.declared.event.End.{End}
use Rattle.and_events.specs.declared.event.End.TheVariants.{Queued, Full, Hops}
use Rattle.and_events.specs.declared.event.Departure.{Departure}
use Rattle.and_events.specs.declared.event.Departure.TheVariants.{NoVm, Spoofed, Denied, Allowed}
use Rattle.and_events.specs.declared.event.Passage.{Passage}
use Rattle.and_events.specs.declared.event.Passage.TheVariants as passages
use Rattle.and_events.specs.declared.event.Return.{Return}
use Rattle.and_events.specs.declared.event.Return.TheVariants as returns
use Rattle.and_events.specs.declared.event.Arrival.{Arrival}
use Rattle.and_events.specs.declared.event.Arrival.TheVariants as arrivals
use Rattle.and_events.specs.declared.event.Event.{Event}
use Rattle.and_events.specs.declared.event.Event.TheVariants.{Inject, Take, Egress, Sealed, Route, Redirect, Ingress}
use Rattle.and_events.specs.declared.event.Held.{Held}
use Rattle.and_events.specs.declared.event.Queue.{Queue}
use Rattle.and_events.specs.declared.event.Queue.TheVariants.{Out, Wire, Seal}
use Rattle.and_events.specs.declared.plan.Plan.{Plan}
use Rattle.and_events.specs.Places.{queue_place, queue_count, hand_place, node_of, IsActor, IsNode, HasQueue, IsWorker}
use Rattle.and_events.specs.declared.event.Carried.{Carried}
use Rattle.and_events.specs.declared.plan.Step.TheVariants as steps
use Rattle.and_events.specs.Flow.{flow_after, queue_at, hand_at, nothing_carried, sent, to_be_sealed}
use Rattle.and_events.specs.State.{state, start, after, move_of, send, source_net, carried_at, node_at, dest_endpoint, dest_net}
use Rattle.and_events.specs.Legal.{Legal, Decides, Sends}
use Rattle.and_events.specs.Run.{Run, injections, injected_by}
use Rattle.and_events.specs.Just.{egresses, passages_of}
use Rattle.and_events.specs.Sound.{IsSound}
use Rattle.and_laws.specs.Stages.{Takes, count_in, LedAs, Stages}
use Rattle.and_laws.specs.Offloads.{HasRightOffloads, LeadsRight}
use Rattle.and_laws.proofs.Offloading.{right_offloads}
use Rattle.and_laws.proofs.Sizes.{sizes}
use Rattle.and_laws.proofs.Fates.{each_has_one}
use Rattle.and_laws.proofs.Injected.{injected_once}
use Rattle.and_laws.proofs.Losses.{held_is_known}
use Rattle.and_laws.proofs.Actors.{takes_worker, takes_gateway, takes_coprocessor}
use Rattle.and_laws.proofs.Unique.{hand_counts}
use Rattle.and_laws.proofs.Queues.{wire_there}
use Rattle.and_laws.proofs.Needs.{nothing_held}
use Rattle.and_laws.proofs.Stages.{IsAside, About, led_kept, led_as_kept, stage_same, undecided_kept, Holder}
use Rattle.and_laws.proofs.StageMoves.{stages_stop, stages_push, stages_take, stages_inject}
use Rattle.and_laws.proofs.Steps.{does}
use Rattle.and_laws.proofs.Trails.{about_egress, about_route, about_sealed, about_redirect, about_ingress, sealed_aside, redirect_aside, ingress_aside, egress_led, route_led, at_route, at_redirect, at_host}

-- ---- what is known of an actor with a packet in hand

pub in_hand_of : (plan : Plan) (h : List Event) (a : Actor) (i need : ℕ) (q : Queue) → IsActor plan.settings a → Takes a → hand_at (state plan h).flow.hands (hand_place plan.settings a) ≡ Some (record { packet = i; need = need; queue = q }) → IsSound plan → Run plan h → Stages plan h → Holder plan h a i q
in_hand_of plan h a i need q is t has sound r st =
    let g : Held = record { packet = i; need = need; queue = q } in
    let law = each_has_one plan h r i in
    let count = hand_counts i (hand_place plan.settings a) g (state plan h).flow.hands has refl in
    let known = held_is_known plan h (hand_place plan.settings a) i sound r (g, has, refl) in
    record {
      held = g;
      has = has;
      is = refl;
      one = omega (arith, law, (injected_once plan h sound r).once i);
      born = λ none. omega (arith, law, count, none);
      known = omega (arith, known, (sizes plan h).carried);
      stage = st.hands a g is t has;
    }

pub holder : (plan : Plan) (h : List Event) (a : Actor) (i at : ℕ) (q : Queue) → Takes a → Decides plan (state plan h) a i q at → IsSound plan → Run plan h → Stages plan h → Holder plan h a i q
holder plan h a i at q t d sound r st = in_hand_of plan h a i d.need q d.actor t d.holds sound r st

-- ---- events that move the packet

-- the actor sends it, or it ends
sent_on : (plan : Plan) (h : List Event) (e : Event) (a : Actor) (i : ℕ) (q : Queue) (net : ℕ) (target : Endpoint) (end : End) → Holder plan h a i q → About plan h e i → Stages plan h → Sends plan (state plan h) i target end → (state plan (e ∷ h)).flow ≡ flow_after (state plan h).flow (send plan.settings (hand_place plan.settings a) i end target net) → LedAs plan (e ∷ h) i net target → Stages plan (e ∷ h)
unfolding flow_after
sent_on plan h e a i q net target Queued k about st sends flow led =
    stages_push plan h e a i q k about st (node_at target) Wire (sent (carried_at (state plan h) i) net target) sends.2 (wire_there (node_at target)) flow (led, refl)
sent_on plan h e a i q net target Full k about st sends flow led = stages_stop plan h e a i q k about st flow
sent_on plan h e a i q net target Hops k about st sends flow led = stages_stop plan h e a i q k about st flow

-- the `seal` queue of a worker's host
record SealsAt (plan : Plan) (a : Actor) : Type 0 where
  pub node : IsNode plan.settings (node_of a)
  pub queue : HasQueue (node_of a) Seal

seals_at : (plan : Plan) (a : Actor) → IsActor plan.settings a → IsWorker a → SealsAt plan a
seals_at plan (Worker h w) is t = record { node = is.0; queue = tt }
seals_at plan (HostInstall h) is t = absurd t
seals_at plan (GateInstall g) is t = absurd t
seals_at plan (Coproc h) is t = absurd t
seals_at plan (Gateway g) is t = absurd t
seals_at plan Controller is t = absurd t
seals_at plan Driver is t = absurd t

module _ (plan : Plan) (h : List Event) (a : Actor) (i at : ℕ) (way : Way) (k : Holder plan h a i Out) (st : Stages plan h) where
  egress_stages : (d : Departure) → LeadsRight plan h (Egress a i at way d) → Legal plan (state plan h) (Egress a i at way d) → Stages plan (Egress a i at way d ∷ h)
  unfolding Legal state after move_of flow_after
  egress_stages NoVm right l = stages_stop plan h (Egress a i at way NoVm) a i Out k (about_egress plan h a i at way NoVm) st refl
  egress_stages Spoofed right l = stages_stop plan h (Egress a i at way Spoofed) a i Out k (about_egress plan h a i at way Spoofed) st refl
  egress_stages (Denied n) right l = stages_stop plan h (Egress a i at way (Denied n)) a i Out k (about_egress plan h a i at way (Denied n)) st refl
  egress_stages (Allowed by true dest Queued) right l =
      let d = Allowed by true dest Queued in
      let own = source_net plan i in
      let at_host = seals_at plan a l.0.actor l.1 in
      stages_push plan h (Egress a i at way d) a i Out k (about_egress plan h a i at way d) st (node_of a) Seal
      (to_be_sealed (carried_at (state plan h) i) (dest_net own dest) (dest_endpoint dest)) at_host.node at_host.queue refl
      (egress_led plan h a i at way by true Queued k.stage.0 dest l.2.0 right, k.stage.1)
  egress_stages (Allowed by true dest Full) right l =
      stages_stop plan h (Egress a i at way (Allowed by true dest Full)) a i Out k (about_egress plan h a i at way (Allowed by true dest Full)) st refl
  egress_stages (Allowed by true dest Hops) right l =
      stages_stop plan h (Egress a i at way (Allowed by true dest Hops)) a i Out k (about_egress plan h a i at way (Allowed by true dest Hops)) st refl
  egress_stages (Allowed by false dest end) right l =
      let d = Allowed by false dest end in
      sent_on plan h (Egress a i at way d) a i Out (dest_net (source_net plan i) dest) (dest_endpoint dest) end k (about_egress plan h a i at way d) st l.2.2 refl
      (egress_led plan h a i at way by false end k.stage.0 dest l.2.0 right)

sealed_stages : (plan : Plan) (h : List Event) (a : Actor) (i : ℕ) (end : End) → Holder plan h a i Seal → Stages plan h → Legal plan (state plan h) (Sealed a i end) → Stages plan (Sealed a i end ∷ h)
unfolding Legal state after move_of
sealed_stages plan h a i end k st l =
    let c = carried_at (state plan h) i in
    sent_on plan h (Sealed a i end) a i Seal c.net c.target end k (about_sealed plan h a i end) st l.4 refl
    (led_as_kept plan h (Sealed a i end) i (sealed_aside plan h a i end i) c.net c.target k.stage.0)

module _ (plan : Plan) (h : List Event) (a : Actor) (i at : ℕ) (k : Holder plan h a i Wire) (st : Stages plan h) where
  route_stages : (p : Passage) → Legal plan (state plan h) (Route a i at p) → Stages plan (Route a i at p ∷ h)
  unfolding Legal state after move_of
  route_stages (passages.Dropped by) l = stages_stop plan h (Route a i at (passages.Dropped by)) a i Wire k (about_route plan h a i at (passages.Dropped by)) st refl
  route_stages (passages.NoOwner by) l = stages_stop plan h (Route a i at (passages.NoOwner by)) a i Wire k (about_route plan h a i at (passages.NoOwner by)) st refl
  route_stages (passages.Hops by) l = stages_stop plan h (Route a i at (passages.Hops by)) a i Wire k (about_route plan h a i at (passages.Hops by)) st refl
  route_stages (passages.Send by net host end) l =
      let c = carried_at (state plan h) i in
      let p = passages.Send by net host end in
      sent_on plan h (Route a i at p) a i Wire net (endpoints.Host host) end k (about_route plan h a i at p) st l.3.2 refl
      (route_led plan h a i at c.net by net host end (at_route plan h i c.net c.target l.2 k.stage.0) l.3.0)

  redirect_stages : (b : Return) → Legal plan (state plan h) (Redirect a i at b) → Stages plan (Redirect a i at b ∷ h)
  unfolding Legal state after move_of
  redirect_stages returns.NoOwner l = stages_stop plan h (Redirect a i at returns.NoOwner) a i Wire k (about_redirect plan h a i at returns.NoOwner) st refl
  redirect_stages returns.Hops l = stages_stop plan h (Redirect a i at returns.Hops) a i Wire k (about_redirect plan h a i at returns.Hops) st refl
  redirect_stages (returns.Send host end) l =
      let c = carried_at (state plan h) i in
      let e = Redirect a i at (returns.Send host end) in
      sent_on plan h e a i Wire c.net (endpoints.Host host) end k (about_redirect plan h a i at (returns.Send host end)) st l.3.2 refl
      (led_kept plan h e i (redirect_aside plan h a i at (returns.Send host end) i) c.net (at_redirect plan h i c.net c.target l.2 k.stage.0))

  ingress_stages : (way : Way) (r : Arrival) → Legal plan (state plan h) (Ingress a i at way r) → Stages plan (Ingress a i at way r ∷ h)
  unfolding Legal state after move_of
  ingress_stages way arrivals.NoOwner l = stages_stop plan h (Ingress a i at way arrivals.NoOwner) a i Wire k (about_ingress plan h a i at way arrivals.NoOwner) st refl
  ingress_stages way (arrivals.Running vm by pass) l =
      stages_stop plan h (Ingress a i at way (arrivals.Running vm by pass)) a i Wire k (about_ingress plan h a i at way (arrivals.Running vm by pass)) st refl
  ingress_stages way (arrivals.Blackout vm) l =
      stages_stop plan h (Ingress a i at way (arrivals.Blackout vm)) a i Wire k (about_ingress plan h a i at way (arrivals.Blackout vm)) st refl
  ingress_stages way (arrivals.Hairpin vm host end) l =
      let c = carried_at (state plan h) i in
      let r = arrivals.Hairpin vm host end in
      sent_on plan h (Ingress a i at way r) a i Wire c.net (endpoints.Host host) end k (about_ingress plan h a i at way r) st l.2.2 refl
      (led_kept plan h (Ingress a i at way r) i (ingress_aside plan h a i at way r i) c.net (at_host plan h i c.net c.target a l.1 k.stage.1 k.stage.0))
  ingress_stages way (arrivals.Absent vm gateway end) l =
      let c = carried_at (state plan h) i in
      let r = arrivals.Absent vm gateway end in
      sent_on plan h (Ingress a i at way r) a i Wire c.net (endpoints.Redirect gateway) end k (about_ingress plan h a i at way r) st l.2.3 refl
      (led_kept plan h (Ingress a i at way r) i (ingress_aside plan h a i at way r i) c.net (at_host plan h i c.net c.target a l.1 k.stage.1 k.stage.0))

-- ---- events that move no packet

abbrev IsQuiet : Event → Type 0
IsQuiet (Inject step i full) = ⊥
IsQuiet (Take a q i) = ⊥
IsQuiet (Egress a i at way d) = ⊥
IsQuiet (Sealed a i end) = ⊥
IsQuiet (Route a i at p) = ⊥
IsQuiet (Redirect a i at b) = ⊥
IsQuiet (Ingress a i at way r) = ⊥
IsQuiet _ = Unit {0}

zero_less : (n : ℕ) → 0 + n ≡ 0 → n ≡ 0
zero_less n e = omega (arith, e)

quiet_stages : (plan : Plan) (h : List Event) (e : Event) → IsQuiet e → Stages plan h → Stages plan (e ∷ h)
unfolding state after move_of flow_after egresses passages_of injections injected_by
quiet_stages plan h (Inject step i full) q st = absurd q
quiet_stages plan h (Take a k i) q st = absurd q
quiet_stages plan h (Egress a i at way d) q st = absurd q
quiet_stages plan h (Sealed a i end) q st = absurd q
quiet_stages plan h (Route a i at p) q st = absurd q
quiet_stages plan h (Redirect a i at b) q st = absurd q
quiet_stages plan h (Ingress a i at way r) q st = absurd q
quiet_stages plan h e q st =
    let aside : (i : ℕ) → IsAside plan h e i = λ i. record { left = refl; routed = refl } in
    record {
      queues = λ i p node is has some. stage_same plan h e i (aside i) refl p node (st.queues i p node is has some);
      hands = λ a g is t has. stage_same plan h e g.packet (aside g.packet) refl g.queue (node_of a) (st.hands a g is t has);
      unborn = λ i none. undecided_kept plan h e i (aside i) (st.unborn i (zero_less _ none));
      whole = λ i known none. st.whole i known (zero_less _ none);
    }

-- ---- runs

empty_queue : (n i q : ℕ) → 0 < count_in i (queue_at (replicate n []) q) → ⊥
empty_queue n i q some =
    let none : List ℕ = [] in
    let past = get_or_past (replicate n none) q none in
    let at : queue_at (replicate n none) q ≡ none = grind (arith, common_steps, get_or-replicate n q none none, past, length-replicate n none) in
    let zero : 0 < count_in i none = subst (λ ys. 0 < count_in i ys) at some in
    omega (arith, zero)

none_at_start : (plan : Plan) → Stages plan []
unfolding state start egresses passages_of injections
none_at_start plan =
    record {
      queues = λ i q node is has some. absurd (empty_queue (queue_count plan.settings) i (queue_place plan.settings node q) some);
      hands = λ a g is t has. absurd (nothing_held plan (hand_place plan.settings a) g has);
      unborn = λ i none. record { unleft = refl; unrouted = refl };
      whole = λ i known none.
          let at_first : Carried = record { hops = plan.settings.hop_limit; sealed = false; net = 0; target = endpoints.Host 0 } in
          ap (λ (c : Carried). c.hops) (get_or-replicate (length plan.packets) i at_first nothing_carried known);
    }

-- the injected packet was not injected before
first_time : (plan : Plan) (h : List Event) (step j : ℕ) (full : Bool) → IsSound plan → Run plan (Inject step j full ∷ h) → injections h j ≡ 0
unfolding injections injected_by
first_time plan h step j full sound r = let once = (injected_once plan (Inject step j full ∷ h) sound r).once j in grind (arith, common_steps, once)

-- and is one of the plan's
injected_is_known : (plan : Plan) (h : List Event) (step j : ℕ) (full : Bool) → IsSound plan → Legal plan (state plan h) (Inject step j full) → j < length plan.packets
unfolding Legal
injected_is_known plan h step j full sound l =
    let d = does plan h step (steps.Inject j) sound l.0.0 l.0.1 in
    slice_get_within plan.packets j d.fits.1.0 d.fits.1.1

stages_so_far : (plan : Plan) (h : List Event) → IsSound plan → Run plan h → HasRightOffloads plan h → Stages plan h
unfolding Run Legal HasRightOffloads
stages_so_far plan [] sound r o = none_at_start plan
stages_so_far plan (Inject step j full ∷ h) sound r o =
    stages_inject plan h step j full r.1 (injected_is_known plan h step j full sound r.1) (first_time plan h step j full sound r) (stages_so_far plan h sound r.0 o.0)
stages_so_far plan (Take a q j ∷ h) sound r o = stages_take plan h a q j r.1 (stages_so_far plan h sound r.0 o.0)
stages_so_far plan (Egress a i at way d ∷ h) sound r o =
    let st = stages_so_far plan h sound r.0 o.0 in
    egress_stages plan h a i at way (holder plan h a i at Out (takes_worker a r.1.1) r.1.0 sound r.0 st) st d o.1 r.1
stages_so_far plan (Sealed a i end ∷ h) sound r o =
    let st = stages_so_far plan h sound r.0 o.0 in
    sealed_stages plan h a i end (in_hand_of plan h a i r.1.2.0 Seal r.1.0 (takes_coprocessor a r.1.1) r.1.2.1 sound r.0 st) st r.1
stages_so_far plan (Route a i at p ∷ h) sound r o =
    let st = stages_so_far plan h sound r.0 o.0 in
    route_stages plan h a i at (holder plan h a i at Wire (takes_gateway a r.1.1) r.1.0 sound r.0 st) st p r.1
stages_so_far plan (Redirect a i at b ∷ h) sound r o =
    let st = stages_so_far plan h sound r.0 o.0 in
    redirect_stages plan h a i at (holder plan h a i at Wire (takes_gateway a r.1.1) r.1.0 sound r.0 st) st b r.1
stages_so_far plan (Ingress a i at way v ∷ h) sound r o =
    let st = stages_so_far plan h sound r.0 o.0 in
    ingress_stages plan h a i at (holder plan h a i at Wire (takes_worker a r.1.1) r.1.0 sound r.0 st) st way v r.1
stages_so_far plan (e ∷ h) sound r o = quiet_stages plan h e tt (stages_so_far plan h sound r.0 o.0)

pub stages : (plan : Plan) (h : List Event) → IsSound plan → Run plan h → Stages plan h
stages plan h sound r = stages_so_far plan h sound r (right_offloads plan h sound r)
