-- A packet is lost at a full queue or for want of hops only where that is due.
use Rattle.std.proofs.Common.{◌≡◌, ℕ, ◌<◌, ◌==◌, true, false, List, [], ◌∷◌, length, refl, arith, Option, Some, None}
use Rattle.and_policy.specs.declared.decision.Leaving.{Leaving}
use Rattle.and_policy.specs.declared.decision.Routed.{Routed}
use Rattle.and_policy.specs.declared.decision.Located.{Located}
use Rattle.and_policy.specs.declared.decision.Landing.{Landing}
use Rattle.and_events.specs.declared.event.Actor.{Actor}
use Rattle.and_events.specs.declared.event.Node.{Node}
use Rattle.and_events.specs.declared.event.Endpoint.{Endpoint}
use Rattle.and_events.specs.declared.event.Endpoint.TheVariants as endpoints
use Rattle.and_events.specs.declared.event.Queue.{Queue}
use Rattle.and_events.specs.declared.event.Queue.TheVariants.{Seal}
use Rattle.and_events.specs.declared.event.End.{End}
use Rattle.and_events.specs.declared.event.End.TheVariants.{Queued, Full, Hops}
use Rattle.and_events.specs.declared.event.Held.{Held}
use Rattle.and_events.specs.declared.event.Departure.{Departure}
use Rattle.and_events.specs.declared.event.Departure.TheVariants.{NoVm, Spoofed, Denied, Allowed}
use Rattle.and_events.specs.declared.event.Passage.{Passage}
use Rattle.and_events.specs.declared.event.Passage.TheVariants as passages
use Rattle.and_events.specs.declared.event.Return.{Return}
use Rattle.and_events.specs.declared.event.Return.TheVariants as returns
use Rattle.and_events.specs.declared.event.Arrival.{Arrival}
use Rattle.and_events.specs.declared.event.Arrival.TheVariants as arrivals
use Rattle.and_events.specs.declared.event.Event.{Event}
use Rattle.and_events.specs.declared.event.Event.TheVariants.{Inject, Egress, Sealed, Route, Redirect, Ingress}
use Rattle.and_events.specs.declared.plan.Plan.{Plan}
use Rattle.and_events.specs.Places.{hand_place, node_of}
use Rattle.and_events.specs.Flow.{Holds, in_hand, hand_at}
use Rattle.and_events.specs.Sound.{IsSound}
use Rattle.and_events.specs.State.{State, state, carried_at, dest_endpoint}
use Rattle.and_events.specs.Legal.{Legal, Decides, Sends, Departs, Passes, GoesBack, Arrives}
use Rattle.and_events.specs.Run.{Run, injections}
use Rattle.and_laws.specs.Limits.{AtHops, HasDueLosses, IsDue, loss_of, send_loss, departure_loss, passage_loss, return_loss, arrival_loss}
use Rattle.and_laws.proofs.Places.{one_if, hand_set, hand_within, hand_one}
use Rattle.and_laws.specs.Scripted.{sent_at}
use Rattle.and_laws.proofs.Fates.{each_has_one}
use Rattle.and_laws.proofs.Hops.{hops_left}
use Rattle.and_laws.proofs.Injected.{injected, below}

-- a packet in hand was injected, so it is one of the plan's
one_is_one : (i : ℕ) → one_if (i == i) ≡ 1
one_is_one i = grind arith

holds_some : (i a : ℕ) (h : Held) (hands : List (Option Held)) → hand_at hands a ≡ Some h → h.packet ≡ i → 0 < in_hand i hands
holds_some i a h hands has is =
    omega (arith, hand_set i a hands None (hand_within a h hands has), hand_one i i h (hand_at hands a) has is, one_is_one i)

pub held_is_sent : (plan : Plan) (h : List Event) (a i : ℕ) → IsSound plan → Run plan h → Holds (state plan h).flow a i → i < sent_at plan h
held_is_sent plan h a i sound r (held, has, is) =
    let some = holds_some i a held (state plan h).flow.hands has is in
    let law = each_has_one plan h r i in
    below i (injections h i) (sent_at plan h) ((injected plan h sound r).counts i) (omega (arith, law, some))

pub held_is_known : (plan : Plan) (h : List Event) (a i : ℕ) → IsSound plan → Run plan h → Holds (state plan h).flow a i → i < length plan.packets
held_is_known plan h a i sound r holds = omega (arith, held_is_sent plan h a i sound r holds, (injected plan h sound r).most)

module _ (plan : Plan) (h : List Event) (i : ℕ) (spent : (carried_at (state plan h) i).hops ≡ 0 → IsDue plan h (AtHops i)) where
  due_send : (target : Endpoint) (end : End) → Sends plan (state plan h) i target end → IsDue plan h (send_loss plan i target end)
  due_send target Queued l = tt
  due_send target Full l = l.1.1
  due_send target Hops l = spent l

  due_depart : (here : Node) (said : Leaving) (d : Departure) → Departs plan (state plan h) here i said d → IsDue plan h (departure_loss plan here i d)
  due_depart here said NoVm l = tt
  due_depart here said Spoofed l = tt
  due_depart here said (Denied n) l = tt
  due_depart here said (Allowed by true dest Queued) l = tt
  due_depart here said (Allowed by true dest Full) l = l.1.1
  due_depart here said (Allowed by true dest Hops) l = absurd l.1
  due_depart here said (Allowed by false dest end) l = due_send (dest_endpoint dest) end l.2

  due_pass : (said : Routed) (p : Passage) → Passes plan (state plan h) i said p → IsDue plan h (passage_loss plan i p)
  due_pass said (passages.Dropped by) l = tt
  due_pass said (passages.NoOwner by) l = tt
  due_pass said (passages.Send by net host end) l = due_send (endpoints.Host host) end l.2
  due_pass said (passages.Hops by) (net, host, told, none) = spent none

  due_back : (said : Located) (b : Return) → GoesBack plan (state plan h) i said b → IsDue plan h (return_loss plan i b)
  due_back said returns.NoOwner l = tt
  due_back said (returns.Send host end) l = due_send (endpoints.Host host) end l.2
  due_back said returns.Hops (host, told, none) = spent none

  due_arrive : (here : ℕ) (said : Landing) (r : Arrival) → Arrives plan (state plan h) here i said r → IsDue plan h (arrival_loss plan i r)
  due_arrive here said arrivals.NoOwner l = tt
  due_arrive here said (arrivals.Running vm by pass) l = tt
  due_arrive here said (arrivals.Blackout vm) l = tt
  due_arrive here said (arrivals.Hairpin vm host end) l = due_send (endpoints.Host host) end l.2
  due_arrive here said (arrivals.Absent vm gateway end) l = due_send (endpoints.Redirect gateway) end l.3

spent : (plan : Plan) (h : List Event) (a i : ℕ) → IsSound plan → Run plan h → Holds (state plan h).flow a i → (carried_at (state plan h) i).hops ≡ 0 → IsDue plan h (AtHops i)
spent plan h a i sound r has none = omega (arith, hops_left plan h r i (held_is_known plan h a i sound r has), none)

holds_of : {plan : Plan} {s : State} {a : Actor} {i : ℕ} {q : Queue} {at : ℕ} → Decides plan s a i q at → Holds s.flow (hand_place plan.settings a) i
holds_of {i = i} {q = q} d = (record { packet = i; need = d.need; queue = q }, d.holds, refl)

due_loss : (plan : Plan) (h : List Event) (e : Event) → IsSound plan → Run plan h → Legal plan (state plan h) e → IsDue plan h (loss_of plan (state plan h) e)
unfolding Legal loss_of
due_loss plan h (Inject n i true) sound r l = l.1.1
due_loss plan h (Egress a i at way d) sound r l = due_depart plan h i (spent plan h _ i sound r (holds_of l.0)) (node_of a) _ d l.2
due_loss plan h (Sealed a i end) sound r l =
    due_send plan h i (spent plan h _ i sound r (record { packet = i; need = l.2.0; queue = Seal }, l.2.1, refl)) (carried_at (state plan h) i).target end l.4
due_loss plan h (Route a i at p) sound r l = due_pass plan h i (spent plan h _ i sound r (holds_of l.0)) _ p l.3
due_loss plan h (Redirect a i at b) sound r l = due_back plan h i (spent plan h _ i sound r (holds_of l.0)) _ b l.3
due_loss plan h (Ingress a i at way b) sound r l = due_arrive plan h i (spent plan h _ i sound r (holds_of l.0)) _ _ b l.2
due_loss plan h e sound r l = tt

pub due_losses : (plan : Plan) (h : List Event) → IsSound plan → Run plan h → HasDueLosses plan h
unfolding Run HasDueLosses
due_losses plan [] sound r = tt
due_losses plan (e ∷ h) sound r = (due_losses plan h sound r.0, due_loss plan h e sound r.0 r.1)
