-- What is carried of each packet in a run: the network of its last send, or of the one that is to be sealed, fits its 24 bits.
use Rattle.std.proofs.Common.{◌≡◌, ℕ, zero, suc, ◌<◌, ◌*◌, ◌^◌, Bool, true, false, List, [], ◌∷◌, length, replicate, subst, arith}
use Rattle.and_policy.specs.declared.decision.Dest.{Dest}
use Rattle.and_policy.specs.declared.decision.Leaving.TheVariants as leavings
use Rattle.and_policy.specs.declared.decision.Name.{Name}
use Rattle.and_policy.specs.declared.decision.Routed.TheVariants as routeds
use Rattle.and_policy.specs.declared.decision.Way.{Way}
use Rattle.and_policy.specs.Owners.{routed}
use Rattle.and_policy.specs.Routes.{route}
use Rattle.and_events.specs.declared.event.Actor.{Actor}
use Rattle.and_events.specs.declared.event.Actor.TheVariants.{HostInstall, GateInstall, Worker, Coproc, Gateway, Controller, Driver}
use Rattle.and_events.specs.declared.event.Arrival.TheVariants as arrivals
use Rattle.and_events.specs.declared.event.Carried.{Carried}
use Rattle.and_events.specs.declared.event.Departure.{Departure}
use Rattle.and_events.specs.declared.event.Departure.TheVariants.{NoVm, Spoofed, Denied, Allowed}
use Rattle.and_events.specs.declared.event.End.{End}
use Rattle.and_events.specs.declared.event.End.TheVariants.{Queued, Full, Hops}
use Rattle.and_events.specs.declared.event.Endpoint.{Endpoint}
use Rattle.and_events.specs.declared.event.Endpoint.TheVariants as endpoints
use Rattle.and_events.specs.declared.event.Event.{Event}
use Rattle.and_events.specs.declared.event.Event.TheVariants.{Inject, Take, Egress, Sealed, Route, Redirect, Ingress}
use Rattle.and_events.specs.declared.event.Passage.TheVariants as passages
use Rattle.and_events.specs.declared.event.Return.TheVariants as returns
use Rattle.and_events.specs.declared.event.Queue.TheVariants.{Seal}
use Rattle.and_events.specs.declared.plan.Plan.{Plan}
use Rattle.and_events.specs.declared.plan.Settings.{Settings}
use Rattle.and_events.specs.Places.{hand_place, queue_place, node_of, IsNode, IsActor, IsWorker}
use Rattle.and_events.specs.Flow.{Flow, Move, Stay, Enter, Lose, Grab, Send, SealLater, Stop, flow_after, carried_in, nothing_carried, sent, to_be_sealed}
use Rattle.and_events.specs.State.{state, start, after, move_of, send, departs, source_net, carried_at, dest_endpoint, dest_net}
use Rattle.and_events.specs.Legal.{Legal, entries_at}
use Rattle.and_events.specs.Run.{Run}
use Rattle.and_events.specs.Just.{address}
use Rattle.and_events.specs.Sound.{IsSound}
use Rattle.and_laws.proofs.Rows.{set_at}
use Rattle.and_kept.specs.Settling.{LeadsRouted, LeadsLeaving}
use Rattle.and_book.specs.Settling.{leaving_said}
use Rattle.and_book.proofs.Leading.{known_entries, leads_by}
use Rattle.and_book.proofs.Departing.{leads_leaving}
use Rattle.and_book.proofs.Settled.{gateway_node}

-- ---- moves

abbrev Fits : Carried → Type 0
Fits c = c.net < 2 ^ 24

abbrev pub NetsFit : Flow → Type 0
NetsFit f = (i : ℕ) → Fits (carried_in f.carried i)

-- what is sent, or is to be sealed first, has a network of 24 bits; and it is sealed in a queue that stands before those of `wire`
abbrev pub MoveFits : Settings → Move → Type 0
MoveFits v (Send a q i net target) = net < 2 ^ 24
MoveFits v (SealLater a q i net target) = (net < 2 ^ 24) × (q < 2 * v.hosts)
MoveFits v _ = Unit {0}

fits_after : (v : Settings) (f : Flow) (m : Move) → MoveFits v m → NetsFit f → NetsFit (flow_after f m)
unfolding flow_after
fits_after v f Stay is all k = all k
fits_after v f (Enter q i) is all k = all k
fits_after v f (Lose i) is all k = all k
fits_after v f (Grab a q g) is all k = all k
fits_after v f (Send a q i net target) is all k = set_at f.carried i k (sent (carried_in f.carried i) net target) nothing_carried Fits (all k) (λ same. is)
fits_after v f (SealLater a q i net target) is all k =
    set_at f.carried i k (to_be_sealed (carried_in f.carried i) net target) nothing_carried Fits (all k) (λ same. is.0)
fits_after v f (Stop a i) is all k = all k

-- the `seal` queue of a worker's host
seal_before : (v : Settings) (a : Actor) → IsActor v a → IsWorker a → queue_place v (node_of a) Seal < 2 * v.hosts
seal_before v (Worker h w) is worker = omega (arith, is.0)
seal_before v (Gateway g) is worker = absurd worker
seal_before v (HostInstall h) is worker = absurd worker
seal_before v (GateInstall g) is worker = absurd worker
seal_before v (Coproc h) is worker = absurd worker
seal_before v Controller is worker = absurd worker
seal_before v Driver is worker = absurd worker

module _ (plan : Plan) where
  send_fits : (a i : ℕ) (end : End) (target : Endpoint) (net : ℕ) → net < 2 ^ 24 → MoveFits plan.settings (send plan.settings a i end target net)
  send_fits a i Queued target net fits = fits
  send_fits a i Full target net fits = tt
  send_fits a i Hops target net fits = tt

module _ (plan : Plan) (h : List Event) (sound : IsSound plan) (r : Run plan h) where
  -- the network of a packet that leaves and is allowed
  dest_fits : (a : Actor) (i at : ℕ) (by : Name) (sealed : Bool) (dest : Dest) → IsActor plan.settings a → IsWorker a → leaving_said plan (state plan h) a i at ≡ leavings.Allowed by sealed dest → dest_net (source_net plan i) dest < 2 ^ 24
  dest_fits a i at by sealed dest is_actor is_worker said =
      (subst (LeadsLeaving plan.settings (source_net plan i)) said (leads_leaving plan h a i at sound r is_actor is_worker)).1

  depart_fits : (a : Actor) (i at : ℕ) (way : Way) (d : Departure) → Legal plan (state plan h) (Egress a i at way d) → MoveFits plan.settings (departs plan.settings (source_net plan i) (hand_place plan.settings a) i (node_of a) d)
  unfolding Legal
  depart_fits a i at way NoVm l = tt
  depart_fits a i at way Spoofed l = tt
  depart_fits a i at way (Denied n) l = tt
  depart_fits a i at way (Allowed by true dest Queued) l = (dest_fits a i at by true dest l.0.actor l.1 l.2.0, seal_before plan.settings a l.0.actor l.1)
  depart_fits a i at way (Allowed by true dest Full) l = tt
  depart_fits a i at way (Allowed by true dest Hops) l = tt
  depart_fits a i at way (Allowed by false dest end) l =
      send_fits plan (hand_place plan.settings a) i end (dest_endpoint dest) (dest_net (source_net plan i) dest) (dest_fits a i at by false dest l.0.actor l.1 l.2.0)

  route_fits : (a : Actor) (i at own : ℕ) (by : Name) (net host : ℕ) → IsNode plan.settings (node_of a) → routed (entries_at plan (state plan h) a at) own (address plan i) ≡ routeds.To by net host → net < 2 ^ 24
  route_fits a i at own by net host node said =
      let k = entries_at plan (state plan h) a at in
      (subst (LeadsRouted plan.settings) said (leads_by plan k (address plan i) (route k own (address plan i)) (known_entries plan h a at sound r node))).1

  -- what an event sends or gives to be sealed has a network of 24 bits
  pub event_fits : (e : Event) → Legal plan (state plan h) e → NetsFit (state plan h).flow → MoveFits plan.settings (move_of plan (state plan h) e)
  unfolding Legal move_of
  event_fits (Inject n i true) l all = tt
  event_fits (Inject n i false) l all = tt
  event_fits (Take a q i) l all = tt
  event_fits (Egress a i at way d) l all = depart_fits a i at way d l
  event_fits (Sealed a i end) l all = send_fits plan (hand_place plan.settings a) i end (carried_at (state plan h) i).target (carried_at (state plan h) i).net (all i)
  event_fits (Route a i at (passages.Send by net host end)) l all =
      send_fits plan (hand_place plan.settings a) i end (endpoints.Host host) net
      (route_fits a i at (carried_at (state plan h) i).net by net host (gateway_node plan.settings a l.1 l.0.actor) l.3.0)
  event_fits (Route a i at (passages.Dropped by)) l all = tt
  event_fits (Route a i at (passages.NoOwner by)) l all = tt
  event_fits (Route a i at (passages.Hops by)) l all = tt
  event_fits (Redirect a i at (returns.Send host end)) l all = send_fits plan (hand_place plan.settings a) i end (endpoints.Host host) (carried_at (state plan h) i).net (all i)
  event_fits (Redirect a i at returns.NoOwner) l all = tt
  event_fits (Redirect a i at returns.Hops) l all = tt
  event_fits (Ingress a i at way arrivals.NoOwner) l all = tt
  event_fits (Ingress a i at way (arrivals.Running vm by pass)) l all = tt
  event_fits (Ingress a i at way (arrivals.Blackout vm)) l all = tt
  event_fits (Ingress a i at way (arrivals.Hairpin vm host end)) l all = send_fits plan (hand_place plan.settings a) i end (endpoints.Host host) (carried_at (state plan h) i).net (all i)
  event_fits (Ingress a i at way (arrivals.Absent vm g end)) l all = send_fits plan (hand_place plan.settings a) i end (endpoints.Redirect g) (carried_at (state plan h) i).net (all i)
  event_fits e l all = tt

-- ---- runs

first_fits : (n hops i : ℕ) → Fits (carried_in (replicate n (record { hops = hops; sealed = false; net = 0; target = endpoints.Host 0 })) i)
first_fits zero hops i = omega arith
first_fits (suc n) hops zero = omega arith
first_fits (suc n) hops (suc i) = first_fits n hops i

pub nets_fit : (plan : Plan) (h : List Event) → IsSound plan → Run plan h → NetsFit (state plan h).flow
unfolding Run state start after
nets_fit plan [] sound r i = first_fits (length plan.packets) plan.settings.hop_limit i
nets_fit plan (e ∷ h) sound r i =
    let before = nets_fit plan h sound r.0 in
    fits_after plan.settings (state plan h).flow (move_of plan (state plan h) e) (event_fits plan h sound r.0 e r.1 before) before i
