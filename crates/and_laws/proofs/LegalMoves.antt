-- A legal event makes a move that is possible.
use Rattle.std.proofs.Common.{ℕ, ◌<◌, sym, subst, true, false, refl}
use Rattle.and_policy.specs.declared.decision.Leaving.{Leaving}
use Rattle.and_policy.specs.declared.decision.Routed.{Routed}
use Rattle.and_policy.specs.declared.decision.Located.{Located}
use Rattle.and_policy.specs.declared.decision.Landing.{Landing}
use Rattle.and_events.specs.declared.event.Actor.{Actor}
use Rattle.and_events.specs.declared.event.End.{End}
use Rattle.and_events.specs.declared.event.End.TheVariants.{Queued, Full, Hops}
use Rattle.and_events.specs.declared.event.Departure.{Departure}
use Rattle.and_events.specs.declared.event.Departure.TheVariants.{NoVm, Spoofed, Denied, Allowed}
use Rattle.and_events.specs.declared.event.Passage.{Passage}
use Rattle.and_events.specs.declared.event.Passage.TheVariants as passages
use Rattle.and_events.specs.declared.event.Return.{Return}
use Rattle.and_events.specs.declared.event.Return.TheVariants as returns
use Rattle.and_events.specs.declared.event.Arrival.{Arrival}
use Rattle.and_events.specs.declared.event.Arrival.TheVariants as arrivals
use Rattle.and_events.specs.declared.event.Event.{Event}
use Rattle.and_events.specs.declared.event.Event.TheVariants.{Append, Review, Hold, Free, Wait, Inject, Blackout, Resume, Finish, Announce, Installed, Take, Egress, Sealed, Route, Redirect, Ingress, Unpin}
use Rattle.and_events.specs.declared.event.Node.{Node}
use Rattle.and_events.specs.declared.event.Endpoint.{Endpoint}
use Rattle.and_events.specs.declared.event.Endpoint.TheVariants as endpoints
use Rattle.and_events.specs.declared.event.Queue.{Queue}
use Rattle.and_events.specs.declared.event.Queue.TheVariants.{Seal}
use Rattle.and_events.specs.declared.plan.Plan.{Plan}
use Rattle.and_events.specs.Places.{capacity_at, hand_place, node_of}
use Rattle.and_events.specs.Flow.{CanMove, Holds}
use Rattle.and_events.specs.State.{State, move_of, carried_at, send, departs, passes, goes_back, arrives, dest_endpoint, dest_net}
use Rattle.and_events.specs.Legal.{Legal, Decides, Sends, Departs, Passes, GoesBack, Arrives}
use Rattle.and_laws.specs.Sizes.{HasSizes}
use Rattle.and_laws.proofs.Sizes.{hand_is_there}

abbrev Has : State → ℕ → ℕ → Type 0
Has s a i = Holds s.flow a i

can_send : (plan : Plan) (s : State) (a i : ℕ) (end : End) (target : Endpoint) (net : ℕ) → Has s a i → Sends plan s i target end → CanMove (capacity_at plan.settings) s.flow (send plan.settings a i end target net)
unfolding CanMove
can_send plan s a i Queued target net has sends = (has, sends.1, sends.0)
can_send plan s a i Full target net has sends = has
can_send plan s a i Hops target net has sends = has

can_depart : (plan : Plan) (s : State) (own a i : ℕ) (here : Node) (said : Leaving) (d : Departure) → Has s a i → Departs plan s here i said d → CanMove (capacity_at plan.settings) s.flow (departs plan.settings own a i here d)
unfolding CanMove
can_depart plan s own a i here said NoVm has l = has
can_depart plan s own a i here said Spoofed has l = has
can_depart plan s own a i here said (Denied n) has l = has
can_depart plan s own a i here said (Allowed by true dest Queued) has l = (has, l.1)
can_depart plan s own a i here said (Allowed by true dest Full) has l = has
can_depart plan s own a i here said (Allowed by true dest Hops) has l = has
can_depart plan s own a i here said (Allowed by false dest end) has l = can_send plan s a i end (dest_endpoint dest) (dest_net own dest) has l.2

can_pass : (plan : Plan) (s : State) (a i : ℕ) (said : Routed) (p : Passage) → Has s a i → Passes plan s i said p → CanMove (capacity_at plan.settings) s.flow (passes plan.settings a i p)
unfolding CanMove
can_pass plan s a i said (passages.Dropped by) has l = has
can_pass plan s a i said (passages.NoOwner by) has l = has
can_pass plan s a i said (passages.Send by net host end) has l = can_send plan s a i end (endpoints.Host host) net has l.2
can_pass plan s a i said (passages.Hops by) has l = has

can_go_back : (plan : Plan) (s : State) (a i : ℕ) (said : Located) (b : Return) → Has s a i → GoesBack plan s i said b → CanMove (capacity_at plan.settings) s.flow (goes_back plan.settings (carried_at s i) a i b)
unfolding CanMove
can_go_back plan s a i said returns.NoOwner has l = has
can_go_back plan s a i said (returns.Send host end) has l = can_send plan s a i end (endpoints.Host host) (carried_at s i).net has l.2
can_go_back plan s a i said returns.Hops has l = has

can_arrive : (plan : Plan) (s : State) (here a i : ℕ) (said : Landing) (r : Arrival) → Has s a i → Arrives plan s here i said r → CanMove (capacity_at plan.settings) s.flow (arrives plan.settings (carried_at s i) a i r)
unfolding CanMove
can_arrive plan s here a i said arrivals.NoOwner has l = has
can_arrive plan s here a i said (arrivals.Running vm by pass) has l = has
can_arrive plan s here a i said (arrivals.Blackout vm) has l = has
can_arrive plan s here a i said (arrivals.Hairpin vm host end) has l = can_send plan s a i end (endpoints.Host host) (carried_at s i).net has l.2
can_arrive plan s here a i said (arrivals.Absent vm gateway end) has l = can_send plan s a i end (endpoints.Redirect gateway) (carried_at s i).net has l.3

has_of : {plan : Plan} {s : State} {a : Actor} {i : ℕ} {q : Queue} {at : ℕ} → Decides plan s a i q at → Has s (hand_place plan.settings a) i
has_of {i = i} {q = q} d = (record { packet = i; need = d.need; queue = q }, d.holds, refl)

pub legal_moves : (plan : Plan) (s : State) (e : Event) → HasSizes plan s.flow → Legal plan s e → CanMove (capacity_at plan.settings) s.flow (move_of plan s e)
unfolding Legal CanMove move_of
legal_moves plan s (Append n) z l = tt
legal_moves plan s (Review n) z l = tt
legal_moves plan s (Hold n) z l = tt
legal_moves plan s (Free n) z l = tt
legal_moves plan s (Wait n) z l = tt
legal_moves plan s (Inject n i true) z l = tt
legal_moves plan s (Inject n i false) z l = l.1
legal_moves plan s (Blackout n) z l = tt
legal_moves plan s (Resume n) z l = tt
legal_moves plan s (Finish n) z l = tt
legal_moves plan s (Announce node upto) z l = tt
legal_moves plan s (Installed node upto) z l = tt
legal_moves plan s (Take a q i) z l =
    (subst (λ n. hand_place plan.settings a < n) (sym z.hands) (hand_is_there plan s a q l.actor l.queue), l.free, l.front)
legal_moves plan s (Egress a i at way d) z l = can_depart plan s _ _ i (node_of a) _ d (has_of l.0) l.2
legal_moves plan s (Sealed a i end) z l =
    can_send plan s _ i end (carried_at s i).target (carried_at s i).net (record { packet = i; need = l.2.0; queue = Seal }, l.2.1, refl) l.4
legal_moves plan s (Route a i at p) z l = can_pass plan s _ i _ p (has_of l.0) l.3
legal_moves plan s (Redirect a i at b) z l = can_go_back plan s _ i _ b (has_of l.0) l.3
legal_moves plan s (Ingress a i at way r) z l = can_arrive plan s _ _ i _ r (has_of l.0) l.2
legal_moves plan s (Unpin host vm) z l = tt
