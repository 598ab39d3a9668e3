-- What another actor's event leaves to an actor: what it has in hand, and what that packet carries.
use Rattle.std.proofs.Common.{◌≡◌, ℕ, ◌<◌, ◌≤◌, true, false, List, ◌∷◌, set, refl, sym, ◌∙◌, arith, Some, None}
use Rattle.std.proofs.lemmas.List.{get_or-set_other}
use Rattle.std.proofs.lemmas.Nat.{mul-add-lt}
use Rattle.and_events.specs.declared.event.Actor.{Actor}
use Rattle.and_events.specs.declared.event.Actor.TheVariants.{HostInstall, GateInstall, Worker, Coproc, Gateway, Controller, Driver}
use Rattle.and_events.specs.declared.event.Arrival.TheVariants as arrivals
use Rattle.and_events.specs.declared.event.Departure.{Departure}
use Rattle.and_events.specs.declared.event.Departure.TheVariants.{NoVm, Spoofed, Denied, Allowed}
use Rattle.and_events.specs.declared.event.End.{End}
use Rattle.and_events.specs.declared.event.End.TheVariants.{Queued, Full, Hops}
use Rattle.and_events.specs.declared.event.Endpoint.{Endpoint}
use Rattle.and_events.specs.declared.event.Endpoint.TheVariants as endpoints
use Rattle.and_events.specs.declared.event.Event.{Event}
use Rattle.and_events.specs.declared.event.Event.TheVariants.{Inject, Announce, Installed, Take, Egress, Sealed, Route, Redirect, Ingress}
use Rattle.and_events.specs.declared.event.Held.{Held}
use Rattle.and_events.specs.declared.event.Node.{Node}
use Rattle.and_events.specs.declared.event.Node.TheVariants.{Host, Gate}
use Rattle.and_events.specs.declared.event.Passage.TheVariants as passages
use Rattle.and_events.specs.declared.event.Return.TheVariants as returns
use Rattle.and_events.specs.declared.plan.Plan.{Plan}
use Rattle.and_events.specs.declared.plan.Settings.{Settings}
use Rattle.and_events.specs.Flow.{Flow, Move, Stay, Enter, Lose, Grab, Send, SealLater, Stop, flow_after, hand_at, carried_in, Holds, placed, CanMove}
use Rattle.and_events.specs.Legal.{Legal}
use Rattle.and_events.specs.Places.{hand_count, hand_place, capacity_at, node_of, actor_of, installer_of, IsActor, IsNode, Handles}
use Rattle.and_events.specs.Run.{Run}
use Rattle.and_events.specs.Sound.{IsSound}
use Rattle.and_events.specs.State.{State, state, after, move_of, send, departs, source_net, carried_at, dest_endpoint, dest_net, installed_of}
use Rattle.and_laws.specs.Stages.{Takes}
use Rattle.and_laws.proofs.Actors.{hand_number, same_actor}
use Rattle.and_laws.proofs.Fates.{each_has_one}
use Rattle.and_laws.proofs.Injected.{injected_once}
use Rattle.and_laws.proofs.LegalMoves.{legal_moves}
use Rattle.and_laws.proofs.Needed.{needed_installed}
use Rattle.and_laws.proofs.Sizes.{sizes}
use Rattle.and_laws.proofs.Unique.{in_no_other}

-- ---- whose hand an event moves

-- the hand that the move fills or empties, if any, is at this place
abbrev IsOfHand : ℕ → Move → Type 0
IsOfHand n (Grab a q g) = a ≡ n
IsOfHand n (Send a q i net target) = a ≡ n
IsOfHand n (SealLater a q i net target) = a ≡ n
IsOfHand n (Stop a i) = a ≡ n
IsOfHand n _ = Unit {0}

sends : (s : Settings) (a i : ℕ) (end : End) (target : Endpoint) (net : ℕ) → IsOfHand a (send s a i end target net)
sends s a i Queued target net = refl
sends s a i Full target net = refl
sends s a i Hops target net = refl

leaves : (s : Settings) (own a i : ℕ) (here : Node) (d : Departure) → IsOfHand a (departs s own a i here d)
leaves s own a i here NoVm = refl
leaves s own a i here Spoofed = refl
leaves s own a i here (Denied n) = refl
leaves s own a i here (Allowed by true dest Queued) = refl
leaves s own a i here (Allowed by true dest Full) = refl
leaves s own a i here (Allowed by true dest Hops) = refl
leaves s own a i here (Allowed by false dest end) = sends s a i end (dest_endpoint dest) (dest_net own dest)

own_hand : (plan : Plan) (s : State) (e : Event) → IsOfHand (hand_place plan.settings (actor_of e)) (move_of plan s e)
unfolding move_of
own_hand plan s (Inject n i true) = tt
own_hand plan s (Inject n i false) = tt
own_hand plan s (Take a q i) = refl
own_hand plan s (Egress a i at way d) = leaves plan.settings (source_net plan i) (hand_place plan.settings a) i (node_of a) d
own_hand plan s (Sealed a i end) = sends plan.settings (hand_place plan.settings a) i end (carried_at s i).target (carried_at s i).net
own_hand plan s (Route a i at (passages.Send by net host end)) = sends plan.settings (hand_place plan.settings a) i end (endpoints.Host host) net
own_hand plan s (Route a i at (passages.Dropped by)) = refl
own_hand plan s (Route a i at (passages.NoOwner by)) = refl
own_hand plan s (Route a i at (passages.Hops by)) = refl
own_hand plan s (Redirect a i at returns.NoOwner) = refl
own_hand plan s (Redirect a i at (returns.Send host end)) = sends plan.settings (hand_place plan.settings a) i end (endpoints.Host host) (carried_at s i).net
own_hand plan s (Redirect a i at returns.Hops) = refl
own_hand plan s (Ingress a i at way arrivals.NoOwner) = refl
own_hand plan s (Ingress a i at way (arrivals.Running vm by pass)) = refl
own_hand plan s (Ingress a i at way (arrivals.Blackout vm)) = refl
own_hand plan s (Ingress a i at way (arrivals.Hairpin vm host end)) = sends plan.settings (hand_place plan.settings a) i end (endpoints.Host host) (carried_at s i).net
own_hand plan s (Ingress a i at way (arrivals.Absent vm gateway end)) = sends plan.settings (hand_place plan.settings a) i end (endpoints.Redirect gateway) (carried_at s i).net
own_hand plan s _ = tt

-- ---- hands of two actors

installs_is : (s : Settings) (node : Node) → IsNode s node → IsActor s (installer_of node)
installs_is s (Host h) is = is
installs_is s (Gate g) is = is

-- who acts in a legal event is an actor of the plan
pub acts : (plan : Plan) (s : State) (e : Event) → Legal plan s e → IsActor plan.settings (actor_of e)
unfolding Legal
acts plan s (Announce node upto) l = installs_is plan.settings node l.0.0
acts plan s (Installed node upto) l = installs_is plan.settings node l.0.0
acts plan s (Take a q i) l = l.actor
acts plan s (Egress a i at way d) l = l.0.actor
acts plan s (Sealed a i end) l = l.0
acts plan s (Route a i at p) l = l.0.actor
acts plan s (Redirect a i at b) l = l.0.actor
acts plan s (Ingress a i at way r) l = l.0.actor
acts plan s _ l = tt

pub handles_takes : (a : Actor) → Handles a → Takes a
handles_takes (Worker h w) is = tt
handles_takes (Coproc h) is = tt
handles_takes (Gateway g) is = tt
handles_takes (HostInstall h) is = absurd is
handles_takes (GateInstall g) is = absurd is
handles_takes Controller is = absurd is
handles_takes Driver is = absurd is

has_hand : (s : Settings) (a : Actor) → IsActor s a → Handles a → hand_place s a < hand_count s
has_hand s (Worker h w) is hand = omega (arith, mul-add-lt h s.workers w s.hosts is.0 is.1)
has_hand s (Coproc h) is hand = omega arith
has_hand s (Gateway g) is hand = omega arith
has_hand s (HostInstall h) is hand = absurd hand
has_hand s (GateInstall g) is hand = absurd hand
has_hand s Controller is hand = absurd hand
has_hand s Driver is hand = absurd hand

same_number : (s : Settings) (a b : Actor) → IsActor s a → IsActor s b → Takes a → Takes b → hand_place s a ≡ hand_place s b → a ≡ b
same_number s a b is is' t t' e = same_actor s a b is is' (omega (arith, hand_number s a t, hand_number s b t', e))

one_hand : (s : Settings) (a b : Actor) → IsActor s a → IsActor s b → Handles b → hand_place s a ≡ hand_place s b → a ≡ b
one_hand s (Worker h w) b is is' hand e = same_number s (Worker h w) b is is' tt (handles_takes b hand) e
one_hand s (Coproc h) b is is' hand e = same_number s (Coproc h) b is is' tt (handles_takes b hand) e
one_hand s (Gateway g) b is is' hand e = same_number s (Gateway g) b is is' tt (handles_takes b hand) e
one_hand s (HostInstall h) b is is' hand e = absurd (omega (arith, has_hand s b is' hand, e))
one_hand s (GateInstall g) b is is' hand e = absurd (omega (arith, has_hand s b is' hand, e))
one_hand s Controller b is is' hand e = absurd (omega (arith, has_hand s b is' hand, e))
one_hand s Driver b is is' hand e = absurd (omega (arith, has_hand s b is' hand, e))

-- ---- what lasts

hand_kept : (f : Flow) (m : Move) (n p : ℕ) → IsOfHand n m → (n ≡ p → ⊥) → hand_at (flow_after f m).hands p ≡ hand_at f.hands p
unfolding flow_after
hand_kept f Stay n p of differs = refl
hand_kept f (Enter q i) n p of differs = refl
hand_kept f (Lose i) n p of differs = refl
hand_kept f (Grab a q g) n p of differs = get_or-set_other f.hands a p (Some g) None (λ e. differs (omega (arith, of, e)))
hand_kept f (Send a q i net target) n p of differs = get_or-set_other f.hands a p None None (λ e. differs (omega (arith, of, e)))
hand_kept f (SealLater a q i net target) n p of differs = get_or-set_other f.hands a p None None (λ e. differs (omega (arith, of, e)))
hand_kept f (Stop a i) n p of differs = get_or-set_other f.hands a p None None (λ e. differs (omega (arith, of, e)))

pub hand_lasts : (plan : Plan) (h : List Event) (e : Event) (b : Actor) → IsSound plan → Run plan (e ∷ h) → IsActor plan.settings b → Handles b → (actor_of e ≡ b → ⊥)
    → hand_at (state plan (e ∷ h)).flow.hands (hand_place plan.settings b) ≡ hand_at (state plan h).flow.hands (hand_place plan.settings b)
unfolding Run state after
hand_lasts plan h e b sound r is hand other =
    let s = state plan h in
    hand_kept s.flow (move_of plan s e) (hand_place plan.settings (actor_of e)) (hand_place plan.settings b) (own_hand plan s e)
    (λ same. other (one_hand plan.settings (actor_of e) b (acts plan s e r.1) is hand same))

-- a packet that another hand holds is not this hand's, where it has one place
not_this : (f : Flow) (n p i : ℕ) (x : Held) → placed x.packet f ≤ 1 → hand_at f.hands p ≡ Some x → (n ≡ p → ⊥) → Holds f n i → i ≡ x.packet → ⊥
not_this f n p i x one has differs (g, held, is) same =
    let still : hand_at (set f.hands p None) n ≡ Some g = get_or-set_other f.hands p n None None differs ∙ held in
    in_no_other x.packet p x f has refl one n g still (is ∙ same)

carried_kept : (capacity : ℕ → ℕ) (f : Flow) (m : Move) (n p : ℕ) (x : Held) → CanMove capacity f m → IsOfHand n m → (n ≡ p → ⊥) → placed x.packet f ≤ 1 → hand_at f.hands p ≡ Some x
    → carried_in (flow_after f m).carried x.packet ≡ carried_in f.carried x.packet
unfolding CanMove flow_after
carried_kept capacity f Stay n p x can of differs one has = refl
carried_kept capacity f (Enter q i) n p x can of differs one has = refl
carried_kept capacity f (Lose i) n p x can of differs one has = refl
carried_kept capacity f (Grab a q g) n p x can of differs one has = refl
carried_kept capacity f (Send a q i net target) n p x can of differs one has =
    get_or-set_other f.carried i x.packet _ _ (λ e. not_this f a p i x one has (λ d. differs (omega (arith, of, d))) can.0 (sym e))
carried_kept capacity f (SealLater a q i net target) n p x can of differs one has =
    get_or-set_other f.carried i x.packet _ _ (λ e. not_this f a p i x one has (λ d. differs (omega (arith, of, d))) can.0 (sym e))
carried_kept capacity f (Stop a i) n p x can of differs one has = refl

one_place : (plan : Plan) (h : List Event) (i : ℕ) → IsSound plan → Run plan h → placed i (state plan h).flow ≤ 1
one_place plan h i sound r = omega (arith, each_has_one plan h r i, (injected_once plan h sound r).once i)

pub carried_lasts : (plan : Plan) (h : List Event) (e : Event) (b : Actor) (x : Held) → IsSound plan → Run plan (e ∷ h) → IsActor plan.settings b → Handles b → (actor_of e ≡ b → ⊥)
    → hand_at (state plan h).flow.hands (hand_place plan.settings b) ≡ Some x → carried_at (state plan (e ∷ h)) x.packet ≡ carried_at (state plan h) x.packet
unfolding Run state after
carried_lasts plan h e b x sound r is hand other has =
    let s = state plan h in
    carried_kept (capacity_at plan.settings) s.flow (move_of plan s e) (hand_place plan.settings (actor_of e)) (hand_place plan.settings b) x
    (legal_moves plan s e (sizes plan h) r.1) (own_hand plan s e) (λ same. other (one_hand plan.settings (actor_of e) b (acts plan s e r.1) is hand same))
    (one_place plan h x.packet sound r.0) has

-- what an actor needs for what it has in hand is installed at its node
pub need_reached : (plan : Plan) (h : List Event) (b : Actor) (x : Held) → IsSound plan → Run plan h → IsActor plan.settings b → Handles b → hand_at (state plan h).flow.hands (hand_place plan.settings b) ≡ Some x
    → x.need ≤ installed_of plan (state plan h) (node_of b)
need_reached plan h b x sound r is hand has = needed_installed plan h r b x is (handles_takes b hand) has
