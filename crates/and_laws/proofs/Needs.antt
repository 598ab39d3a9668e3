-- What an actor needs is what was installed at its last take of the packet, so every decision is fresh.
use Rattle.std.proofs.Common.{◌≡◌, ℕ, ◌<◌, ◌==◌, ◌&&◌, true, false, List, [], ◌∷◌, length, set, sym, ap, ◌∙◌, subst, arith, Option, Some, None, ⊎_elim, replicate}
use Rattle.std.specs.Prelude.{if◌then◌else◌, IsTrue}
use Rattle.std.proofs.lemmas.List.{get_or-set_same, get_or-set_other, get_or_past, get_or-replicate, length-replicate}
use Rattle.std.proofs.lemmas.Bool.{cases_eq}
use Rattle.std.proofs.lemmas.Grind.{common_steps}
use Rattle.and_events.specs.declared.event.Actor.{Actor}
use Rattle.and_events.specs.declared.event.End.{End}
use Rattle.and_events.specs.declared.event.End.TheVariants.{Queued, Full, Hops}
use Rattle.and_events.specs.declared.event.Endpoint.{Endpoint}
use Rattle.and_events.specs.declared.event.Endpoint.TheVariants as endpoints
use Rattle.and_events.specs.declared.event.Departure.{Departure}
use Rattle.and_events.specs.declared.event.Departure.TheVariants.{NoVm, Spoofed, Denied, Allowed}
use Rattle.and_events.specs.declared.event.Passage.TheVariants as passages
use Rattle.and_events.specs.declared.event.Return.TheVariants as returns
use Rattle.and_events.specs.declared.event.Arrival.TheVariants as arrivals
use Rattle.and_events.specs.declared.event.Event.{Event}
use Rattle.and_events.specs.declared.event.Event.TheVariants.{Inject, Take, Egress, Sealed, Route, Redirect, Ingress}
use Rattle.and_events.specs.declared.event.Held.{Held}
use Rattle.and_events.specs.declared.event.Node.{Node}
use Rattle.and_events.specs.declared.event.Queue.{Queue}
use Rattle.and_events.specs.declared.event.Queue.TheVariants.{Out, Wire}
use Rattle.and_events.specs.declared.plan.Settings.{Settings}
use Rattle.and_events.specs.declared.plan.Plan.{Plan}
use Rattle.and_events.specs.Places.{hand_count, hand_place, actor_number, node_of, IsActor}
use Rattle.and_events.specs.Flow.{Flow, Move, Stay, Enter, Lose, Grab, Send, SealLater, Stop, flow_after, hand_at}
use Rattle.and_events.specs.State.{State, state, start, after, move_of, send, departs, source_net, carried_at, dest_endpoint, dest_net, installed_of}
use Rattle.and_events.specs.Legal.{Legal, CanTake, Decides}
use Rattle.and_events.specs.Run.{Run}
use Rattle.and_events.specs.Fresh.{installed_at_take, FreshAt, Fresh}
use Rattle.and_laws.specs.Stages.{Takes}
use Rattle.and_laws.specs.Sizes.{HasSizes}
use Rattle.and_laws.proofs.Sizes.{sizes, hand_is_there}
use Rattle.and_laws.proofs.Actors.{takes_worker, takes_gateway, takes_at, hand_number, same_node}

-- the move is no take
abbrev pub NoGrab : Move → Type 0
NoGrab (Grab a q h) = ⊥
NoGrab _ = Unit {0}

abbrev pub NoTake : Event → Type 0
NoTake (Take a q i) = ⊥
NoTake _ = Unit {0}

send_no_grab : (s : Settings) (a i : ℕ) (end : End) (target : Endpoint) (net : ℕ) → NoGrab (send s a i end target net)
send_no_grab s a i Queued target net = tt
send_no_grab s a i Full target net = tt
send_no_grab s a i Hops target net = tt

depart_no_grab : (s : Settings) (own a i : ℕ) (here : Node) (d : Departure) → NoGrab (departs s own a i here d)
depart_no_grab s own a i here NoVm = tt
depart_no_grab s own a i here Spoofed = tt
depart_no_grab s own a i here (Denied n) = tt
depart_no_grab s own a i here (Allowed by true dest Queued) = tt
depart_no_grab s own a i here (Allowed by true dest Full) = tt
depart_no_grab s own a i here (Allowed by true dest Hops) = tt
depart_no_grab s own a i here (Allowed by false dest end) = send_no_grab s a i end (dest_endpoint dest) (dest_net own dest)

pub no_grab : (plan : Plan) (s : State) (e : Event) → NoTake e → NoGrab (move_of plan s e)
unfolding move_of
no_grab plan s (Take a q i) t = absurd t
no_grab plan s (Inject n i true) t = tt
no_grab plan s (Inject n i false) t = tt
no_grab plan s (Egress a i at way d) t = depart_no_grab plan.settings (source_net plan i) (hand_place plan.settings a) i (node_of a) d
no_grab plan s (Sealed a i end) t = send_no_grab plan.settings (hand_place plan.settings a) i end (carried_at s i).target (carried_at s i).net
no_grab plan s (Route a i at (passages.Send by net host end)) t = send_no_grab plan.settings (hand_place plan.settings a) i end (endpoints.Host host) net
no_grab plan s (Route a i at (passages.Dropped by)) t = tt
no_grab plan s (Route a i at (passages.NoOwner by)) t = tt
no_grab plan s (Route a i at (passages.Hops by)) t = tt
no_grab plan s (Redirect a i at returns.NoOwner) t = tt
no_grab plan s (Redirect a i at (returns.Send host end)) t = send_no_grab plan.settings (hand_place plan.settings a) i end (endpoints.Host host) (carried_at s i).net
no_grab plan s (Redirect a i at returns.Hops) t = tt
no_grab plan s (Ingress a i at way arrivals.NoOwner) t = tt
no_grab plan s (Ingress a i at way (arrivals.Running vm by pass)) t = tt
no_grab plan s (Ingress a i at way (arrivals.Blackout vm)) t = tt
no_grab plan s (Ingress a i at way (arrivals.Hairpin vm host end)) t = send_no_grab plan.settings (hand_place plan.settings a) i end (endpoints.Host host) (carried_at s i).net
no_grab plan s (Ingress a i at way (arrivals.Absent vm gateway end)) t = send_no_grab plan.settings (hand_place plan.settings a) i end (endpoints.Redirect gateway) (carried_at s i).net
no_grab plan s _ t = tt

-- after another move, what is in hand was in hand
pub given_up : (hands : List (Option Held)) (a p : ℕ) (h : Held) → hand_at (set hands a None) p ≡ Some h → hand_at hands p ≡ Some h
given_up hands a p h e =
    let other = get_or-set_other hands a p None None in
    let same = get_or-set_same hands a None None in
    grind (arith, common_steps, cases_eq p a, other, same, e)

pub held_before : (f : Flow) (m : Move) (p : ℕ) (h : Held) → NoGrab m → hand_at (flow_after f m).hands p ≡ Some h → hand_at f.hands p ≡ Some h
unfolding flow_after
held_before f Stay p h n e = e
held_before f (Enter q i) p h n e = e
held_before f (Lose i) p h n e = e
held_before f (Grab a q g) p h n e = absurd n
held_before f (Send a q i net target) p h n e = given_up f.hands a p h e
held_before f (SealLater a q i net target) p h n e = given_up f.hands a p h e
held_before f (Stop a i) p h n e = given_up f.hands a p h e

-- after the actor's own take it has what it took; after another's, what is in hand was in hand
pub taken_same : (hands : List (Option Held)) (a p : ℕ) (new g : Held) → a < length hands → a ≡ p → hand_at (set hands a (Some new)) p ≡ Some g → new ≡ g
taken_same hands a p new g there is e = grind (arith, common_steps, get_or-set_same hands a (Some new) None there)

pub taken_other : (hands : List (Option Held)) (a p : ℕ) (new g : Held) → (a ≡ p → ⊥) → hand_at (set hands a (Some new)) p ≡ Some g → hand_at hands p ≡ Some g
taken_other hands a p new g differs e = grind (arith, common_steps, get_or-set_other hands a p (Some new) None)

test_true : (x y j i : ℕ) (n m : Option ℕ) → x ≡ y → j ≡ i → (if (x == y) && (j == i) then n else m) ≡ n
test_true x y j i n m e f = grind (arith, common_steps)

test_false : (x y j i : ℕ) (n m : Option ℕ) → (x ≡ y → ⊥) → (if (x == y) && (j == i) then n else m) ≡ m
test_false x y j i n m e = grind (arith, common_steps)

pub nothing_held : (plan : Plan) (p : ℕ) (g : Held) → hand_at (state plan []).flow.hands p ≡ Some g → ⊥
unfolding state start
nothing_held plan p g e =
    let n = hand_count plan.settings in
    let none : Option Held = None in
    let past = get_or_past (replicate n none) p none in
    grind (arith, common_steps, get_or-replicate n p none none, past, length-replicate n none, e)

pub take_within : (plan : Plan) (s : State) → HasSizes plan s.flow → (a : Actor) (q : Queue) (i : ℕ) → CanTake plan s a q i → hand_place plan.settings a < length s.flow.hands
take_within plan s z a q i l = subst (λ n. hand_place plan.settings a < n) (sym z.hands) (hand_is_there plan s a q l.actor l.queue)

-- two actors that take packets have one hand just where they have one number
same_number : (s : Settings) (b a : Actor) → Takes b → Takes a → hand_place s b ≡ hand_place s a → actor_number s b ≡ actor_number s a
same_number s b a tb ta e = omega (arith, hand_number s b tb, hand_number s a ta, e)

other_number : (s : Settings) (b a : Actor) → Takes b → Takes a → (hand_place s b ≡ hand_place s a → ⊥) → actor_number s b ≡ actor_number s a → ⊥
other_number s b a tb ta differs e = differs (omega (arith, hand_number s b tb, hand_number s a ta, e))

pub need_is : (plan : Plan) (h : List Event) → Run plan h → (a : Actor) (g : Held) → IsActor plan.settings a → Takes a → hand_at (state plan h).flow.hands (hand_place plan.settings a) ≡ Some g → installed_at_take plan h a g.packet ≡ Some g.need
unfolding Run Legal state after installed_at_take flow_after move_of
need_is plan [] r a g is t e = absurd (nothing_held plan (hand_place plan.settings a) g e)
need_is plan (Take b q j ∷ h) r a g is t has =
    let s = state plan h in
    let x = hand_place plan.settings b in
    let y = hand_place plan.settings a in
    let new : Held = record { packet = j; need = installed_of plan s (node_of b); queue = q } in
    let there : x < length s.flow.hands = take_within plan s (sizes plan h) b q j r.1 in
    let tb = (takes_at plan s b q r.1.actor r.1.queue).takes in
    let old = installed_at_take plan h a g.packet in
    let here : Option ℕ = Some (installed_of plan s (node_of a)) in
    ⊎_elim
    (λ (e : x ≡ y).
    let it : new ≡ g = taken_same s.flow.hands x y new g there e has in
    let node = same_node plan.settings b a r.1.actor is tb t e in
    test_true (actor_number plan.settings b) (actor_number plan.settings a) j g.packet here old
    (same_number plan.settings b a tb t e) (ap (λ (z : Held). z.packet) it)
    ∙ ap (λ n. Some (installed_of plan s n)) (sym node) ∙ ap (λ (z : Held). Some z.need) it)
    (λ (e : x ≡ y → ⊥).
    test_false (actor_number plan.settings b) (actor_number plan.settings a) j g.packet here old (other_number plan.settings b a tb t e)
    ∙ need_is plan h r.0 a g is t (taken_other s.flow.hands x y new g e has))
    (cases_eq x y)
need_is plan (e ∷ h) r a g is t has =
    need_is plan h r.0 a g is t (held_before (state plan h).flow (move_of plan (state plan h) e) (hand_place plan.settings a) g (no_grab plan (state plan h) e tt) has)

fresh_at : (plan : Plan) (h : List Event) (a : Actor) (i at : ℕ) (q : Queue) → Run plan h → Takes a → Decides plan (state plan h) a i q at → FreshAt plan h a i at
fresh_at plan h a i at q r t d =
    ((d.need, need_is plan h r a (record { packet = i; need = d.need; queue = q }) d.actor t d.holds, d.least), d.most)

same_packet : (plan : Plan) (h : List Event) (a : Actor) (j i at : ℕ) → FreshAt plan h a j at → IsTrue (j == i) → FreshAt plan h a i at
same_packet plan h a j i at f is = let same : j ≡ i = grind (arith, common_steps) in subst (λ k. FreshAt plan h a k at) same f

-- each decision of a run is fresh
pub fresh : (plan : Plan) (h : List Event) → Run plan h → (i : ℕ) → Fresh plan h i
unfolding Run Legal Fresh
fresh plan [] r i = tt
fresh plan (Egress a j at way d ∷ h) r i = (fresh plan h r.0 i, same_packet plan h a j i at (fresh_at plan h a j at Out r.0 (takes_worker a r.1.1) r.1.0))
fresh plan (Route a j at p ∷ h) r i = (fresh plan h r.0 i, same_packet plan h a j i at (fresh_at plan h a j at Wire r.0 (takes_gateway a r.1.1) r.1.0))
fresh plan (Redirect a j at b ∷ h) r i = (fresh plan h r.0 i, same_packet plan h a j i at (fresh_at plan h a j at Wire r.0 (takes_gateway a r.1.1) r.1.0))
fresh plan (Ingress a j at way b ∷ h) r i = (fresh plan h r.0 i, same_packet plan h a j i at (fresh_at plan h a j at Wire r.0 (takes_worker a r.1.1) r.1.0))
fresh plan (e ∷ h) r i = (fresh plan h r.0 i, tt)
