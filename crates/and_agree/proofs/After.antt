-- What one line more does to the state, to the programmes and to what is in hand.
use Rattle.std.proofs.Common.{◌≡◌, ℕ, zero, suc, ◌<◌, true, false, List, [], ◌∷◌, ◌++◌, length, get_or, set, refl, sym, ap, ◌∙◌, arith, Option, Some, None}
use Rattle.std.specs.Prelude.{is_some}
use Rattle.std.proofs.lemmas.List.{get_or-set_same}
use Rattle.std.proofs.lemmas.Grind.{fold-append}
use Rattle.and_events.specs.declared.event.Actor.{Actor}
use Rattle.and_events.specs.declared.event.Arrival.{Arrival}
use Rattle.and_events.specs.declared.event.Arrival.TheVariants as arrivals
use Rattle.and_events.specs.declared.event.Carried.{Carried}
use Rattle.and_events.specs.declared.event.Departure.{Departure}
use Rattle.and_events.specs.declared.event.Departure.TheVariants.{NoVm, Spoofed, Denied, Allowed}
use Rattle.and_events.specs.declared.event.End.{End}
use Rattle.and_events.specs.declared.event.End.TheVariants.{Queued, Full, Hops}
use Rattle.and_events.specs.declared.event.Endpoint.{Endpoint}
use Rattle.and_events.specs.declared.event.Endpoint.TheVariants as endpoints
use Rattle.and_events.specs.declared.event.Event.{Event}
use Rattle.and_events.specs.declared.event.Event.TheVariants.{Take, Egress, Sealed, Route, Redirect, Ingress}
use Rattle.and_events.specs.declared.event.Held.{Held}
use Rattle.and_events.specs.declared.event.Line.{Line}
use Rattle.and_events.specs.declared.event.Node.{Node}
use Rattle.and_events.specs.declared.event.Passage.{Passage}
use Rattle.and_events.specs.declared.event.Passage.TheVariants as passages
use Rattle.and_events.specs.declared.event.Queue.{Queue}
use Rattle.and_events.specs.declared.event.Return.{Return}
use Rattle.and_events.specs.declared.event.Return.TheVariants as returns
use Rattle.and_events.specs.declared.plan.Plan.{Plan}
use Rattle.and_events.specs.declared.plan.Settings.{Settings}
use Rattle.and_events.specs.Flow.{Flow, flow_after, hand_at}
use Rattle.and_events.specs.Places.{hand_count, hand_place, node_of, node_place, Handles}
use Rattle.and_events.specs.Programming.{Programmes, programme_at, programmes_after}
use Rattle.and_events.specs.Run.{past}
use Rattle.and_events.specs.State.{State, state, after, move_of, word_of, send, departs, passes, goes_back, arrives, dest_endpoint, dest_net, source_net, carried_at, installed_of, programme_of}
use Rattle.and_laws.proofs.Sizes.{sizes}
use Rattle.and_book.specs.Views.{BookView, MayTake, now, with_line}
use Rattle.and_book.proofs.Taking.{hand_there}

past_push : (lines : List Line) (l : Line) → past (lines ++ l ∷ []) ≡ l.event ∷ past lines
past_push lines l = fold-append (λ h x. x.event ∷ h) [] lines (l ∷ [])

pub plan_after : (old new : BookView) (seat : ℕ) (e : Event) → new ≡ with_line old seat e → new.plan ≡ old.plan
plan_after old new seat e is = ap (λ (b : BookView). b.plan) is

pub now_after : (old new : BookView) (seat : ℕ) (e : Event) → new ≡ with_line old seat e → now new ≡ after old.plan (now old) e
unfolding state
now_after old new seat e is =
    ap (λ p. state p (past new.lines)) (plan_after old new seat e is)
    ∙ ap (state old.plan) (ap (λ b. past b.lines) is ∙ past_push old.lines (record { seat = seat; event = e }))

-- ---- what an actor does with a packet

-- the event settles a packet in the actor's hand, or takes one
abbrev pub Settles : Event → Actor → Type 0
Settles (Egress a i at way d) b = a ≡ b
Settles (Sealed a i end) b = a ≡ b
Settles (Route a i at p) b = a ≡ b
Settles (Redirect a i at back) b = a ≡ b
Settles (Ingress a i at way x) b = a ≡ b
Settles _ b = ⊥

-- no programme changes
pub programmes_stay : (plan : Plan) (s : State) (e : Event) (a : Actor) → Settles e a → (after plan s e).programmes ≡ s.programmes
unfolding after word_of programmes_after
programmes_stay plan s (Egress b i at way d) a is = refl
programmes_stay plan s (Sealed b i end) a is = refl
programmes_stay plan s (Route b i at p) a is = refl
programmes_stay plan s (Redirect b i at back) a is = refl
programmes_stay plan s (Ingress b i at way x) a is = refl
programmes_stay plan s e a is = absurd is

-- and the hand is empty
send_clears : (v : Settings) (f : Flow) (a i : ℕ) (end : End) (target : Endpoint) (net : ℕ) → (flow_after f (send v a i end target net)).hands ≡ set f.hands a None
unfolding flow_after
send_clears v f a i Queued target net = refl
send_clears v f a i Full target net = refl
send_clears v f a i Hops target net = refl

departs_clears : (v : Settings) (f : Flow) (own a i : ℕ) (here : Node) (d : Departure) → (flow_after f (departs v own a i here d)).hands ≡ set f.hands a None
unfolding flow_after
departs_clears v f own a i here NoVm = refl
departs_clears v f own a i here Spoofed = refl
departs_clears v f own a i here (Denied n) = refl
departs_clears v f own a i here (Allowed by true dest Queued) = refl
departs_clears v f own a i here (Allowed by true dest Full) = refl
departs_clears v f own a i here (Allowed by true dest Hops) = refl
departs_clears v f own a i here (Allowed by false dest end) = send_clears v f a i end (dest_endpoint dest) (dest_net own dest)

passes_clears : (v : Settings) (f : Flow) (a i : ℕ) (p : Passage) → (flow_after f (passes v a i p)).hands ≡ set f.hands a None
unfolding flow_after
passes_clears v f a i (passages.Send by net host end) = send_clears v f a i end (endpoints.Host host) net
passes_clears v f a i (passages.Dropped by) = refl
passes_clears v f a i (passages.NoOwner by) = refl
passes_clears v f a i (passages.Hops by) = refl

returns_clears : (v : Settings) (f : Flow) (c : Carried) (a i : ℕ) (b : Return) → (flow_after f (goes_back v c a i b)).hands ≡ set f.hands a None
unfolding flow_after
returns_clears v f c a i (returns.Send host end) = send_clears v f a i end (endpoints.Host host) c.net
returns_clears v f c a i returns.NoOwner = refl
returns_clears v f c a i returns.Hops = refl

arrives_clears : (v : Settings) (f : Flow) (c : Carried) (a i : ℕ) (x : Arrival) → (flow_after f (arrives v c a i x)).hands ≡ set f.hands a None
unfolding flow_after
arrives_clears v f c a i (arrivals.Hairpin vm host end) = send_clears v f a i end (endpoints.Host host) c.net
arrives_clears v f c a i (arrivals.Absent vm g end) = send_clears v f a i end (endpoints.Redirect g) c.net
arrives_clears v f c a i arrivals.NoOwner = refl
arrives_clears v f c a i (arrivals.Running vm by pass) = refl
arrives_clears v f c a i (arrivals.Blackout vm) = refl

pub hand_cleared : (plan : Plan) (s : State) (e : Event) (a : Actor) → Settles e a → (after plan s e).flow.hands ≡ set s.flow.hands (hand_place plan.settings a) None
unfolding after move_of flow_after
hand_cleared plan s (Egress b i at way d) a is = departs_clears plan.settings s.flow (source_net plan i) (hand_place plan.settings b) i (node_of b) d ∙ ap (λ x. set s.flow.hands (hand_place plan.settings x) None) is
hand_cleared plan s (Sealed b i end) a is =
    send_clears plan.settings s.flow (hand_place plan.settings b) i end (carried_at s i).target (carried_at s i).net ∙ ap (λ x. set s.flow.hands (hand_place plan.settings x) None) is
hand_cleared plan s (Route b i at p) a is = passes_clears plan.settings s.flow (hand_place plan.settings b) i p ∙ ap (λ x. set s.flow.hands (hand_place plan.settings x) None) is
hand_cleared plan s (Redirect b i at back) a is = returns_clears plan.settings s.flow (carried_at s i) (hand_place plan.settings b) i back ∙ ap (λ x. set s.flow.hands (hand_place plan.settings x) None) is
hand_cleared plan s (Ingress b i at way x) a is = arrives_clears plan.settings s.flow (carried_at s i) (hand_place plan.settings b) i x ∙ ap (λ y. set s.flow.hands (hand_place plan.settings y) None) is
hand_cleared plan s e a is = absurd is

-- what was taken is in hand
pub hand_filled : (plan : Plan) (s : State) (a : Actor) (g : Held) (packet : ℕ) (q : Queue) → g ≡ record { packet = packet; need = installed_of plan s (node_of a); queue = q }
    → (after plan s (Take a g.queue g.packet)).flow.hands ≡ set s.flow.hands (hand_place plan.settings a) (Some g)
unfolding after flow_after move_of
hand_filled plan s a g packet q is =
    let same : record { packet = g.packet; need = installed_of plan s (node_of a); queue = g.queue } ≡ g = cc in
    ap (λ (x : Held). set s.flow.hands (hand_place plan.settings a) (Some x)) same

-- ---- the same of a book

module _ (old new : BookView) (seat : ℕ) (e : Event) (is : new ≡ with_line old seat e) where
  pub programme_after : (a : Actor) (node : Node) → Settles e a → programme_of new.plan (now new) node ≡ programme_of old.plan (now old) node
  programme_after a node settles =
      ap (λ (p : Plan). programme_of p (now new) node) (plan_after old new seat e is)
      ∙ (ap (λ (s : State). programme_of old.plan s node) (now_after old new seat e is)
      ∙ ap (λ (ps : Programmes). programme_at ps (node_place old.plan.settings node)) (programmes_stay old.plan (now old) e a settles))

  hand_now : (a : Actor) (hands : List (Option Held)) → (after old.plan (now old) e).flow.hands ≡ hands → hand_at (now new).flow.hands (hand_place new.plan.settings a) ≡ hand_at hands (hand_place old.plan.settings a)
  hand_now a hands are =
      ap (λ (p : Plan). hand_at (now new).flow.hands (hand_place p.settings a)) (plan_after old new seat e is)
      ∙ (ap (λ (s : State). hand_at s.flow.hands (hand_place old.plan.settings a)) (now_after old new seat e is)
      ∙ ap (λ xs. hand_at xs (hand_place old.plan.settings a)) are)

  -- the hand is empty after an event that settles its packet
  pub empty_after : (a : Actor) → Settles e a → hand_at (now new).flow.hands (hand_place new.plan.settings a) ≡ None
  empty_after a settles = hand_now a (set (now old).flow.hands (hand_place old.plan.settings a) None) (hand_cleared old.plan (now old) e a settles) ∙ cleared (now old).flow.hands (hand_place old.plan.settings a)
    where
      cleared : (xs : List (Option Held)) (n : ℕ) → hand_at (set xs n None) n ≡ None
      cleared [] zero = refl
      cleared [] (suc n) = refl
      cleared (x ∷ xs) zero = refl
      cleared (x ∷ xs) (suc n) = cleared xs n

-- and has what was taken after a Take
pub held_after : (old new : BookView) (seat : ℕ) (a : Actor) (g : Held) (packet : ℕ) (q : Queue) → MayTake old.plan (now old) a → new ≡ with_line old seat (Take a g.queue g.packet)
    → g ≡ record { packet = packet; need = installed_of old.plan (now old) (node_of a); queue = q } → hand_at (now new).flow.hands (hand_place new.plan.settings a) ≡ Some g
held_after old new seat a g packet q may is taken =
    let hands = (now old).flow.hands in
    let place = hand_place old.plan.settings a in
    let empty : Option Held = None in
    let there : place < length hands = omega (arith, hand_there old.plan.settings a may.actor may.handles, (sizes old.plan (past old.lines)).hands) in
    hand_now old new seat (Take a g.queue g.packet) is a (set hands place (Some g)) (hand_filled old.plan (now old) a g packet q taken) ∙ get_or-set_same hands place (Some g) empty there

-- where both or neither hold something, and one holds nothing
pub both_empty : {A B : Type 0} (o : Option A) (hand : Option B) → is_some o ≡ is_some hand → hand ≡ None → o ≡ None
both_empty None hand same none = refl
both_empty (Some h) hand same none = absurd (let no : true ≡ false = same ∙ ap is_some none in cc)
