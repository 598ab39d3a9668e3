-- A packet in hand is settled: the move is made from that hand, and changes nothing but the packets.
use Rattle.std.proofs.Common.{◌∙◌, ◌≡◌, ℕ, ◌+◌, ◌<◌, ◌≤◌, Bool, true, false, cond, length, set, refl, ap, arith, Option, Some, None}
use Rattle.std.specs.Prelude.{is_some}
use Rattle.std.specs.List.{count_by}
use Rattle.and_policy.specs.declared.decision.GateDecision.{GateDecision}
use Rattle.and_policy.specs.declared.decision.GateDecision.TheVariants as decisions
use Rattle.and_policy.specs.declared.decision.Way.{Way}
use Rattle.and_policy.specs.declared.port.UsageKey.{UsageKey}
use Rattle.and_events.specs.declared.event.Actor.{Actor}
use Rattle.and_events.specs.declared.event.Arrival.{Arrival}
use Rattle.and_events.specs.declared.event.Arrival.TheVariants as arrivals
use Rattle.and_events.specs.declared.event.Carried.{Carried}
use Rattle.and_events.specs.declared.event.Departure.{Departure}
use Rattle.and_events.specs.declared.event.Departure.TheVariants.{NoVm, Spoofed, Denied, Allowed}
use Rattle.and_events.specs.declared.event.End.{End}
use Rattle.and_events.specs.declared.event.End.TheVariants.{Queued, Full, Hops}
use Rattle.and_events.specs.declared.event.Endpoint.{Endpoint}
use Rattle.and_events.specs.declared.event.Endpoint.TheVariants as endpoints
use Rattle.and_events.specs.declared.event.Event.{Event}
use Rattle.and_events.specs.declared.event.Event.TheVariants.{Egress, Sealed, Route, Redirect, Ingress}
use Rattle.and_events.specs.declared.event.Held.{Held}
use Rattle.and_events.specs.declared.event.Node.{Node}
use Rattle.and_events.specs.declared.event.Passage.{Passage}
use Rattle.and_events.specs.declared.event.Passage.TheVariants as passages
use Rattle.and_events.specs.declared.event.Return.{Return}
use Rattle.and_events.specs.declared.event.Return.TheVariants as returns
use Rattle.and_events.specs.declared.plan.Plan.{Plan}
use Rattle.and_events.specs.declared.plan.Settings.{Settings}
use Rattle.and_events.specs.Places.{hand_place, node_of}
use Rattle.and_events.specs.Flow.{Flow, Move, Stay, Enter, Lose, Grab, Send, SealLater, Stop, carried_in, flow_after, hand_at}
use Rattle.and_events.specs.Ports.{ports_after}
use Rattle.and_events.specs.Programming.{programmes_after}
use Rattle.and_events.specs.State.{State, after, move_of, word_of, ports_move_of, step_of, send, departs, passes, goes_back, arrives, dest_endpoint, dest_net, source_net, carried_at, holds_after, frame_at, host_of, tuple_at, usage_by, usage_move_of}
use Rattle.and_events.specs.Usage.{usage_after}
use Rattle.and_laws.specs.Fates.{in_hand_count}
use Rattle.and_kept.specs.Lanes.{Roads}
use Rattle.and_kept.specs.Settling.{passage_of, return_of, gate_event, gate_move}
use Rattle.and_kept.proofs.Counts.{count_set}
use Rattle.and_review.specs.Views.{ReviewsView}
use Rattle.and_book.specs.Inside.{Kept, Stands}
use Rattle.and_book.specs.Settling.{use_of}

-- the move is of this packet, from this hand
abbrev pub IsFrom : ℕ → ℕ → Move → Type 0
IsFrom hand i (Send a q j net target) = (a ≡ hand) × (j ≡ i)
IsFrom hand i (SealLater a q j net target) = (a ≡ hand) × (j ≡ i)
IsFrom hand i (Stop a j) = (a ≡ hand) × (j ≡ i)
IsFrom hand i _ = ⊥

-- the hand is empty then
stop_lets_go : (f : Flow) (hand : ℕ) (h : Held) → hand < length f.hands → hand_at f.hands hand ≡ Some h → count_by is_some (set f.hands hand None) + 1 ≡ in_hand_count f
stop_lets_go f hand h there is =
    let none : Option Held = None in
    let written = count_set is_some f.hands hand none none there in
    let weight : Bool → ℕ = λ b. cond b 1 0 in
    let one = ap (λ o. weight (is_some o)) is in
    omega (arith, written, one)

pub lets_go : (f : Flow) (hand i : ℕ) (m : Move) (h : Held) → IsFrom hand i m → hand < length f.hands → hand_at f.hands hand ≡ Some h → in_hand_count (flow_after f m) + 1 ≡ in_hand_count f
unfolding flow_after
lets_go f hand i (Send a q j net target) h from there is = rw from.0 (stop_lets_go f hand h there is)
lets_go f hand i (SealLater a q j net target) h from there is = rw from.0 (stop_lets_go f hand h there is)
lets_go f hand i (Stop a j) h from there is = rw from.0 (stop_lets_go f hand h there is)
lets_go f hand i Stay h from there is = absurd from
lets_go f hand i (Enter q j) h from there is = absurd from
lets_go f hand i (Lose j) h from there is = absurd from
lets_go f hand i (Grab a q g) h from there is = absurd from

module _ (v : Settings) (a i : ℕ) where
  send_from : (end : End) (target : Endpoint) (net : ℕ) → IsFrom a i (send v a i end target net)
  send_from Queued target net = (refl, refl)
  send_from Full target net = (refl, refl)
  send_from Hops target net = (refl, refl)

  pub departs_from : (own : ℕ) (here : Node) (d : Departure) → IsFrom a i (departs v own a i here d)
  departs_from own here (Allowed by true dest Queued) = (refl, refl)
  departs_from own here (Allowed by true dest Full) = (refl, refl)
  departs_from own here (Allowed by true dest Hops) = (refl, refl)
  departs_from own here (Allowed by false dest end) = send_from end (dest_endpoint dest) (dest_net own dest)
  departs_from own here NoVm = (refl, refl)
  departs_from own here Spoofed = (refl, refl)
  departs_from own here (Denied n) = (refl, refl)

  passes_from : (p : Passage) → IsFrom a i (passes v a i p)
  passes_from (passages.Send by net host end) = send_from end (endpoints.Host host) net
  passes_from (passages.Dropped by) = (refl, refl)
  passes_from (passages.NoOwner by) = (refl, refl)
  passes_from (passages.Hops by) = (refl, refl)

  returns_from : (c : Carried) (b : Return) → IsFrom a i (goes_back v c a i b)
  returns_from c (returns.Send host end) = send_from end (endpoints.Host host) c.net
  returns_from c returns.NoOwner = (refl, refl)
  returns_from c returns.Hops = (refl, refl)

  pub arrives_from : (c : Carried) (x : Arrival) → IsFrom a i (arrives v c a i x)
  arrives_from c (arrivals.Hairpin vm host end) = send_from end (endpoints.Host host) c.net
  arrives_from c (arrivals.Absent vm g end) = send_from end (endpoints.Redirect g) c.net
  arrives_from c arrivals.NoOwner = (refl, refl)
  arrives_from c (arrivals.Running vm by pass) = (refl, refl)
  arrives_from c (arrivals.Blackout vm) = (refl, refl)

  pub sealed_from : (c : Carried) (end : End) → IsFrom a i (send v a i end c.target c.net)
  sealed_from c end = send_from end c.target c.net

  pub gate_from : (f : Flow) (d : GateDecision) → IsFrom a i (gate_move v f a i d)
  gate_from f (decisions.Routed at said) = passes_from (passage_of v f i said)
  gate_from f (decisions.Located at said) = returns_from (carried_in f.carried i) (return_of v f i said)

-- ---- the moves are the events'

module _ (plan : Plan) (s : State) (a : Actor) (i : ℕ) where
  abbrev hand : ℕ
  hand = hand_place plan.settings a

  pub gate_moves : (d : GateDecision) → gate_move plan.settings s.flow hand i d ≡ move_of plan s (gate_event plan.settings s.flow a i d)
  unfolding move_of
  gate_moves (decisions.Routed at said) = refl
  gate_moves (decisions.Located at said) = refl

  pub sealed_moves : (end : End) → send plan.settings hand i end (carried_at s i).target (carried_at s i).net ≡ move_of plan s (Sealed a i end)
  unfolding move_of
  sealed_moves end = refl

  pub ingress_moves : (at : ℕ) (way : Way) (x : Arrival) → arrives plan.settings (carried_at s i) hand i x ≡ move_of plan s (Ingress a i at way x)
  unfolding move_of
  ingress_moves at way x = refl

  pub egress_moves : (at : ℕ) (way : Way) (x : Departure) → departs plan.settings (source_net plan i) hand i (node_of a) x ≡ move_of plan s (Egress a i at way x)
  unfolding move_of
  egress_moves at way x = refl

-- ---- what is kept after a packet in hand is settled

-- the event settles a packet
abbrev pub Settles : Event → Type 0
Settles (Egress a i at way d) = Unit {0}
Settles (Sealed a i end) = Unit {0}
Settles (Route a i at p) = Unit {0}
Settles (Redirect a i at back) = Unit {0}
Settles (Ingress a i at way arrival) = Unit {0}
Settles _ = ⊥

pub gate_settles : (v : Settings) (f : Flow) (a : Actor) (i : ℕ) (d : GateDecision) → Settles (gate_event v f a i d)
gate_settles v f a i (decisions.Routed at said) = tt
gate_settles v f a i (decisions.Located at said) = tt

-- what an event leaves of the usage, its room and what is known of the log
pub record IsUsed (plan : Plan) (e : Event) (old new : ReviewsView) : Type 0 where
  pub used : new.used ≡ usage_after old.used (usage_move_of plan e)
  pub room : old.room ≤ new.room
  pub known : new.known ≡ old.known

-- such an event changes the packets and the usage alone
pub stands_settled : (plan : Plan) (s : State) (e : Event) (k : Kept) (roads : Roads) (reviews : ReviewsView) → Settles e → Stands k s → roads.held ≡ k.roads.held → roads.flow ≡ flow_after s.flow (move_of plan s e) → IsUsed plan e k.reviews reviews → Stands (record k { roads = roads; reviews = reviews }) (after plan s e)
unfolding after holds_after word_of ports_move_of step_of programmes_after ports_after
stands_settled plan s (Egress a i at way d) k roads reviews t st marks flow using = record { next = st.next; programmes = st.programmes; ports = st.ports; flow = flow; holds = ap (λ m. record { install = k.progress.held; forward = m }) marks ∙ st.holds; usage = using.used ∙ ap (λ us. usage_after us (usage_move_of plan (Egress a i at way d))) st.usage }
stands_settled plan s (Sealed a i end) k roads reviews t st marks flow using = record { next = st.next; programmes = st.programmes; ports = st.ports; flow = flow; holds = ap (λ m. record { install = k.progress.held; forward = m }) marks ∙ st.holds; usage = using.used ∙ ap (λ us. usage_after us (usage_move_of plan (Sealed a i end))) st.usage }
stands_settled plan s (Route a i at p) k roads reviews t st marks flow using = record { next = st.next; programmes = st.programmes; ports = st.ports; flow = flow; holds = ap (λ m. record { install = k.progress.held; forward = m }) marks ∙ st.holds; usage = using.used ∙ ap (λ us. usage_after us (usage_move_of plan (Route a i at p))) st.usage }
stands_settled plan s (Redirect a i at back) k roads reviews t st marks flow using = record { next = st.next; programmes = st.programmes; ports = st.ports; flow = flow; holds = ap (λ m. record { install = k.progress.held; forward = m }) marks ∙ st.holds; usage = using.used ∙ ap (λ us. usage_after us (usage_move_of plan (Redirect a i at back))) st.usage }
stands_settled plan s (Ingress a i at way arrival) k roads reviews t st marks flow using = record { next = st.next; programmes = st.programmes; ports = st.ports; flow = flow; holds = ap (λ m. record { install = k.progress.held; forward = m }) marks ∙ st.holds; usage = using.used ∙ ap (λ us. usage_after us (usage_move_of plan (Ingress a i at way arrival))) st.usage }
stands_settled plan s e k roads reviews t st marks flow using = absurd t

-- a packet that has left its VM uses nothing
pub sealed_uses : (plan : Plan) (a : Actor) (i : ℕ) (end : End) (r : ReviewsView) → IsUsed plan (Sealed a i end) r r
unfolding usage_move_of usage_after
sealed_uses plan a i end r = record { used = refl; room = omega arith; known = refl }

pub gate_uses : (plan : Plan) (v : Settings) (f : Flow) (a : Actor) (i : ℕ) (d : GateDecision) (r : ReviewsView) → IsUsed plan (gate_event v f a i d) r r
unfolding usage_move_of usage_after
gate_uses plan v f a i (decisions.Routed at said) r = record { used = refl; room = omega arith; known = refl }
gate_uses plan v f a i (decisions.Located at said) r = record { used = refl; room = omega arith; known = refl }

pub ingress_uses : (plan : Plan) (a : Actor) (i at : ℕ) (way : Way) (x : Arrival) (r : ReviewsView) → IsUsed plan (Ingress a i at way x) r r
unfolding usage_move_of usage_after
ingress_uses plan a i at way x r = record { used = refl; room = omega arith; known = refl }

-- one that may leave it uses its frame, counted for its key
use_is : (plan : Plan) (here : Node) (i : ℕ) (d : Departure) → use_of (record { host = host_of here; net = source_net plan i; ip = (tuple_at plan i).destination }) (length (frame_at plan i)) d ≡ usage_by plan here i d
use_is plan here i NoVm = refl
use_is plan here i Spoofed = refl
use_is plan here i (Denied n) = refl
use_is plan here i (Allowed by sealed dest end) = refl

pub egress_uses : (plan : Plan) (a : Actor) (i at : ℕ) (way : Way) (d : Departure) (key : UsageKey) (bytes : ℕ) (r r' : ReviewsView)
    → key ≡ record { host = host_of (node_of a); net = source_net plan i; ip = (tuple_at plan i).destination } → bytes ≡ length (frame_at plan i)
    → r'.used ≡ usage_after r.used (use_of key bytes d) → r.room ≤ r'.room → r'.known ≡ r.known → IsUsed plan (Egress a i at way d) r r'
unfolding usage_move_of
egress_uses plan a i at way d key bytes r r' is long used room known = record {
  used = used
      ∙ (ap (λ x. usage_after r.used (use_of x bytes d)) is
      ∙ (ap (λ n. usage_after r.used (use_of (record { host = host_of (node_of a); net = source_net plan i; ip = (tuple_at plan i).destination }) n d)) long
      ∙ ap (usage_after r.used) (use_is plan (node_of a) i d)));
  room = room;
  known = known;
}
