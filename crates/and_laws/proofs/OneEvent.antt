-- In a state an actor's legal events differ in what it chooses alone.
use Rattle.std.proofs.Common.{◌≡◌, ℕ, ◌<◌, ◌≤◌, Bool, true, false, List, [], ◌∷◌, length, refl, sym, ap, ◌∙◌, subst, arith, Option, Some, None, ⊎_elim, inl, inr}
use Rattle.std.specs.Prelude.{slice_get}
use Rattle.std.proofs.lemmas.Bool.{cases_lt}
use Rattle.and_policy.specs.declared.decision.Way.{Way}
use Rattle.and_events.specs.declared.event.Actor.{Actor}
use Rattle.and_events.specs.declared.event.Actor.TheVariants.{HostInstall, GateInstall, Worker, Coproc, Gateway, Controller, Driver}
use Rattle.and_events.specs.declared.event.Arrival.{Arrival}
use Rattle.and_events.specs.declared.event.Departure.{Departure}
use Rattle.and_events.specs.declared.event.End.{End}
use Rattle.and_events.specs.declared.event.Endpoint.{Endpoint}
use Rattle.and_events.specs.declared.event.Endpoint.TheVariants as endpoints
use Rattle.and_events.specs.declared.event.Event.{Event}
use Rattle.and_events.specs.declared.event.Event.TheVariants.{Append, Review, Hold, Free, Wait, Inject, Blackout, Resume, Finish, Announce, Installed, Take, Egress, Sealed, Route, Redirect, Ingress, Unpin}
use Rattle.and_events.specs.declared.event.Held.{Held}
use Rattle.and_events.specs.declared.event.Node.{Node}
use Rattle.and_events.specs.declared.event.Node.TheVariants.{Host, Gate}
use Rattle.and_events.specs.declared.event.Passage.{Passage}
use Rattle.and_events.specs.declared.event.Queue.{Queue}
use Rattle.and_events.specs.declared.event.Queue.TheVariants.{Out, Wire, Seal}
use Rattle.and_events.specs.declared.event.Return.{Return}
use Rattle.and_events.specs.declared.plan.Plan.{Plan}
use Rattle.and_events.specs.declared.plan.Step.{Step}
use Rattle.and_events.specs.declared.plan.Step.TheVariants as steps
use Rattle.and_events.specs.Places.{actor_of, installer_of, node_of, hand_place, queue_place, IsWorker, IsGatewayWorker}
use Rattle.and_events.specs.Flow.{HasFront, queue_at, hand_at}
use Rattle.and_events.specs.State.{State, carried_at, home, host_of, programme_of, announced_of, installed_of}
use Rattle.and_events.specs.Legal.{Legal, CanTake, TakesFrom, IsRouteTarget, IsRedirectTarget, inject_end, EndsAt, Before}
use Rattle.and_laws.specs.Choices.{Choice, choice_of, Agree}
use Rattle.and_laws.specs.Stages.{Takes}
use Rattle.and_laws.proofs.Actors.{takes_at, takes_worker, takes_gateway, takes_coprocessor}
use Rattle.and_laws.proofs.Choosing.{sends_one, departs_one, passes_one, goes_one, arrives_one}

-- ---- four kinds of actors, and of events

data Class : Type 0 where
  Drives : Class
  Installs : Class
  Handles : Class
  Controls : Class

abbrev class_of : Event → Class
class_of (Announce node upto) = Installs
class_of (Installed node upto) = Installs
class_of (Take a q i) = Handles
class_of (Egress a i at way d) = Handles
class_of (Sealed a i end) = Handles
class_of (Route a i at p) = Handles
class_of (Redirect a i at b) = Handles
class_of (Ingress a i at way r) = Handles
class_of (Unpin host vm) = Controls
class_of e = Drives

abbrev actor_class : Actor → Class
actor_class (HostInstall h) = Installs
actor_class (GateInstall g) = Installs
actor_class (Worker h w) = Handles
actor_class (Coproc h) = Handles
actor_class (Gateway g) = Handles
actor_class Controller = Controls
actor_class Driver = Drives

takes_class : (a : Actor) → Takes a → actor_class a ≡ Handles
takes_class (Worker h w) t = refl
takes_class (Coproc h) t = refl
takes_class (Gateway g) t = refl
takes_class (HostInstall h) t = absurd t
takes_class (GateInstall g) t = absurd t
takes_class Controller t = absurd t
takes_class Driver t = absurd t

installs_class : (node : Node) → actor_class (installer_of node) ≡ Installs
installs_class (Host h) = refl
installs_class (Gate g) = refl

module _ (plan : Plan) (s : State) where
  same_class : (e : Event) → Legal plan s e → actor_class (actor_of e) ≡ class_of e
  unfolding Legal
  same_class (Announce node upto) l = installs_class node
  same_class (Installed node upto) l = installs_class node
  same_class (Take a q i) l = takes_class a (takes_at plan s a q l.actor l.queue).takes
  same_class (Egress a i at way d) l = takes_class a (takes_worker a l.1)
  same_class (Sealed a i end) l = takes_class a (takes_coprocessor a l.1)
  same_class (Route a i at p) l = takes_class a (takes_gateway a l.1)
  same_class (Redirect a i at b) l = takes_class a (takes_gateway a l.1)
  same_class (Ingress a i at way r) l = takes_class a (takes_worker a l.1)
  same_class (Unpin host vm) l = refl
  same_class e l = refl

  -- ---- the driver

  -- the event of a step
  abbrev by_step : ℕ → Step → Bool → Event
  by_step n (steps.Append e) full = Append n
  by_step n steps.Review full = Review n
  by_step n (steps.Hold node what) full = Hold n
  by_step n (steps.Free node what) full = Free n
  by_step n steps.Wait full = Wait n
  by_step n (steps.Inject i) full = Inject n i full
  by_step n (steps.Blackout vm host) full = Blackout n
  by_step n (steps.Resume vm) full = Resume n
  by_step n steps.Finish full = Finish n

  -- whether the `out` queue is full, where the step injects a packet
  abbrev IsFull : Step → Bool → Type 0
  IsFull (steps.Inject i) full = EndsAt plan s (queue_place plan.settings (Host (home plan s i)) Out) (inject_end full)
  IsFull step full = full ≡ false

  record Driven (e : Event) : Type 0 where
    pub n : ℕ
    pub step : Step
    pub full : Bool
    pub is : e ≡ by_step n step full
    pub due : n ≡ s.next
    pub told : slice_get plan.steps n ≡ Some step
    pub end : IsFull step full

  driven : (e : Event) → class_of e ≡ Drives → Legal plan s e → Driven e
  unfolding Legal
  driven (Append n) c l = record { n = n; step = steps.Append l.0; full = false; is = refl; due = l.1.0; told = l.1.1; end = refl }
  driven (Review n) c l = record { n = n; step = steps.Review; full = false; is = refl; due = l.0; told = l.1; end = refl }
  driven (Hold n) c l = record { n = n; step = steps.Hold l.0 l.1; full = false; is = refl; due = l.2.0; told = l.2.1; end = refl }
  driven (Free n) c l = record { n = n; step = steps.Free l.0 l.1; full = false; is = refl; due = l.2.0; told = l.2.1; end = refl }
  driven (Wait n) c l = record { n = n; step = steps.Wait; full = false; is = refl; due = l.0; told = l.1; end = refl }
  driven (Inject n i full) c l = record { n = n; step = steps.Inject i; full = full; is = refl; due = l.0.0; told = l.0.1; end = l.1 }
  driven (Blackout n) c l = record { n = n; step = steps.Blackout l.0 l.1; full = false; is = refl; due = l.2.0; told = l.2.1; end = refl }
  driven (Resume n) c l = record { n = n; step = steps.Resume l.0; full = false; is = refl; due = l.1.0; told = l.1.1; end = refl }
  driven (Finish n) c l = record { n = n; step = steps.Finish; full = false; is = refl; due = l.0; told = l.1; end = refl }
  driven (Announce node upto) c l = absurd (cc)
  driven (Installed node upto) c l = absurd (cc)
  driven (Take a q i) c l = absurd (cc)
  driven (Egress a i at way d) c l = absurd (cc)
  driven (Sealed a i end) c l = absurd (cc)
  driven (Route a i at p) c l = absurd (cc)
  driven (Redirect a i at b) c l = absurd (cc)
  driven (Ingress a i at way r) c l = absurd (cc)
  driven (Unpin host vm) c l = absurd (cc)

  full_one : (a b : Bool) (q : ℕ) → EndsAt plan s q (inject_end a) → EndsAt plan s q (inject_end b) → a ≡ b
  full_one true true q x y = refl
  full_one false false q x y = refl
  full_one true false q x y = absurd (omega (arith, x.1, y.1))
  full_one false true q x y = absurd (omega (arith, x.1, y.1))

  fulls_one : (step : Step) (a b : Bool) → IsFull step a → IsFull step b → a ≡ b
  fulls_one (steps.Inject i) a b x y = full_one a b _ x y
  fulls_one (steps.Append e) a b x y = x ∙ sym y
  fulls_one steps.Review a b x y = x ∙ sym y
  fulls_one (steps.Hold node what) a b x y = x ∙ sym y
  fulls_one (steps.Free node what) a b x y = x ∙ sym y
  fulls_one steps.Wait a b x y = x ∙ sym y
  fulls_one (steps.Blackout vm host) a b x y = x ∙ sym y
  fulls_one (steps.Resume vm) a b x y = x ∙ sym y
  fulls_one steps.Finish a b x y = x ∙ sym y

  drives_one : (e f : Event) → Driven e → Driven f → e ≡ f
  drives_one e f x y =
      let n : x.n ≡ y.n = x.due ∙ sym y.due in
      let told : Some x.step ≡ Some y.step = sym x.told ∙ ap (slice_get plan.steps) n ∙ y.told in
      let step : x.step ≡ y.step = cc in
      let full : x.full ≡ y.full = fulls_one y.step x.full y.full (subst (λ z. IsFull z x.full) step x.end) y.end in
      x.is ∙ (ap (λ m. by_step m x.step x.full) n ∙ (ap (λ z. by_step y.n z x.full) step ∙ ap (by_step y.n y.step) full)) ∙ sym y.is

  -- ---- installers

  same_installer : (a b : Node) → installer_of a ≡ installer_of b → a ≡ b
  same_installer (Host x) (Host y) e = let same : x ≡ y = cc in ap Host same
  same_installer (Gate x) (Gate y) e = let same : x ≡ y = cc in ap Gate same
  same_installer (Host x) (Gate y) e = absurd (cc)
  same_installer (Gate x) (Host y) e = absurd (cc)

  installs_one : (e f : Event) → class_of e ≡ Installs → class_of f ≡ Installs → Legal plan s e → Legal plan s f → actor_of e ≡ actor_of f → e ≡ f
  unfolding Legal
  installs_one (Announce node upto) (Announce node' upto') c c' l l' same_one =
      let same = same_installer node node' same_one in
      let to : upto ≡ upto' = l.1 ∙ ap (λ m. length (programme_of plan s m)) same ∙ sym l'.1 in
      cc
  installs_one (Installed node upto) (Installed node' upto') c c' l l' same_one =
      let same = same_installer node node' same_one in
      let to : upto ≡ upto' = l.1 ∙ ap (announced_of plan s) same ∙ sym l'.1 in
      cc
  installs_one (Announce node upto) (Installed node' upto') c c' l l' same_one =
      let same = same_installer node node' same_one in
      absurd (omega (arith, l.0.2, l'.0.1, ap (announced_of plan s) same, ap (installed_of plan s) same))
  installs_one (Installed node upto) (Announce node' upto') c c' l l' same_one =
      let same = same_installer node node' same_one in
      absurd (omega (arith, l.0.1, l'.0.2, ap (announced_of plan s) same, ap (installed_of plan s) same))
  installs_one (Append n) f c c' l l' same_one = absurd (cc)
  installs_one (Review n) f c c' l l' same_one = absurd (cc)
  installs_one (Hold n) f c c' l l' same_one = absurd (cc)
  installs_one (Free n) f c c' l l' same_one = absurd (cc)
  installs_one (Wait n) f c c' l l' same_one = absurd (cc)
  installs_one (Inject n i full) f c c' l l' same_one = absurd (cc)
  installs_one (Blackout n) f c c' l l' same_one = absurd (cc)
  installs_one (Resume n) f c c' l l' same_one = absurd (cc)
  installs_one (Finish n) f c c' l l' same_one = absurd (cc)
  installs_one (Take a q i) f c c' l l' same_one = absurd (cc)
  installs_one (Egress a i at way d) f c c' l l' same_one = absurd (cc)
  installs_one (Sealed a i end) f c c' l l' same_one = absurd (cc)
  installs_one (Route a i at p) f c c' l l' same_one = absurd (cc)
  installs_one (Redirect a i at b) f c c' l l' same_one = absurd (cc)
  installs_one (Ingress a i at way r) f c c' l l' same_one = absurd (cc)
  installs_one (Unpin host vm) f c c' l l' same_one = absurd (cc)
  installs_one (Announce node upto) (Append n') c c' l l' same_one = absurd (cc)
  installs_one (Announce node upto) (Review n') c c' l l' same_one = absurd (cc)
  installs_one (Announce node upto) (Hold n') c c' l l' same_one = absurd (cc)
  installs_one (Announce node upto) (Free n') c c' l l' same_one = absurd (cc)
  installs_one (Announce node upto) (Wait n') c c' l l' same_one = absurd (cc)
  installs_one (Announce node upto) (Inject n' i' full') c c' l l' same_one = absurd (cc)
  installs_one (Announce node upto) (Blackout n') c c' l l' same_one = absurd (cc)
  installs_one (Announce node upto) (Resume n') c c' l l' same_one = absurd (cc)
  installs_one (Announce node upto) (Finish n') c c' l l' same_one = absurd (cc)
  installs_one (Announce node upto) (Take a' q' i') c c' l l' same_one = absurd (cc)
  installs_one (Announce node upto) (Egress a' i' at' way' d') c c' l l' same_one = absurd (cc)
  installs_one (Announce node upto) (Sealed a' i' end') c c' l l' same_one = absurd (cc)
  installs_one (Announce node upto) (Route a' i' at' p') c c' l l' same_one = absurd (cc)
  installs_one (Announce node upto) (Redirect a' i' at' b') c c' l l' same_one = absurd (cc)
  installs_one (Announce node upto) (Ingress a' i' at' way' r') c c' l l' same_one = absurd (cc)
  installs_one (Announce node upto) (Unpin host' vm') c c' l l' same_one = absurd (cc)
  installs_one (Installed node upto) (Append n') c c' l l' same_one = absurd (cc)
  installs_one (Installed node upto) (Review n') c c' l l' same_one = absurd (cc)
  installs_one (Installed node upto) (Hold n') c c' l l' same_one = absurd (cc)
  installs_one (Installed node upto) (Free n') c c' l l' same_one = absurd (cc)
  installs_one (Installed node upto) (Wait n') c c' l l' same_one = absurd (cc)
  installs_one (Installed node upto) (Inject n' i' full') c c' l l' same_one = absurd (cc)
  installs_one (Installed node upto) (Blackout n') c c' l l' same_one = absurd (cc)
  installs_one (Installed node upto) (Resume n') c c' l l' same_one = absurd (cc)
  installs_one (Installed node upto) (Finish n') c c' l l' same_one = absurd (cc)
  installs_one (Installed node upto) (Take a' q' i') c c' l l' same_one = absurd (cc)
  installs_one (Installed node upto) (Egress a' i' at' way' d') c c' l l' same_one = absurd (cc)
  installs_one (Installed node upto) (Sealed a' i' end') c c' l l' same_one = absurd (cc)
  installs_one (Installed node upto) (Route a' i' at' p') c c' l l' same_one = absurd (cc)
  installs_one (Installed node upto) (Redirect a' i' at' b') c c' l l' same_one = absurd (cc)
  installs_one (Installed node upto) (Ingress a' i' at' way' r') c c' l l' same_one = absurd (cc)
  installs_one (Installed node upto) (Unpin host' vm') c c' l l' same_one = absurd (cc)

  -- ---- actors that take packets

  abbrev queue_kind : Queue → ℕ
  queue_kind Out = 1
  queue_kind Seal = 2
  queue_kind Wire = 3

  -- what a hand has, and what an event asks of it, by number
  abbrev hand_kind : Option Held → ℕ
  hand_kind None = 0
  hand_kind (Some h) = queue_kind h.queue

  abbrev event_kind : Event → ℕ
  event_kind (Egress a i at way d) = 1
  event_kind (Sealed a i end) = 2
  event_kind (Route a i at p) = 3
  event_kind (Redirect a i at b) = 3
  event_kind (Ingress a i at way r) = 3
  event_kind e = 0

  abbrev hand_of : Actor → Option Held
  hand_of a = hand_at s.flow.hands (hand_place plan.settings a)

  kinds : (e : Event) → class_of e ≡ Handles → Legal plan s e → hand_kind (hand_of (actor_of e)) ≡ event_kind e
  unfolding Legal
  kinds (Take a q i) c l = ap hand_kind l.free
  kinds (Egress a i at way d) c l = ap hand_kind l.0.holds
  kinds (Sealed a i end) c l = ap hand_kind l.2.1
  kinds (Route a i at p) c l = ap hand_kind l.0.holds
  kinds (Redirect a i at b) c l = ap hand_kind l.0.holds
  kinds (Ingress a i at way r) c l = ap hand_kind l.0.holds
  kinds (Append n) c l = absurd (cc)
  kinds (Review n) c l = absurd (cc)
  kinds (Hold n) c l = absurd (cc)
  kinds (Free n) c l = absurd (cc)
  kinds (Wait n) c l = absurd (cc)
  kinds (Inject n i full) c l = absurd (cc)
  kinds (Blackout n) c l = absurd (cc)
  kinds (Resume n) c l = absurd (cc)
  kinds (Finish n) c l = absurd (cc)
  kinds (Announce node upto) c l = absurd (cc)
  kinds (Installed node upto) c l = absurd (cc)
  kinds (Unpin host vm) c l = absurd (cc)

  other_kind : (e f : Event) → class_of e ≡ Handles → class_of f ≡ Handles → (event_kind e ≡ event_kind f → ⊥) → Legal plan s e → Legal plan s f → actor_of e ≡ actor_of f → e ≡ f
  other_kind e f c c' differ l l' same = absurd (differ (sym (kinds e c l) ∙ ap (λ a. hand_kind (hand_of a)) same ∙ kinds f c' l'))

  held_one : (a : Actor) (i j n m : ℕ) (q : Queue) → hand_at s.flow.hands (hand_place plan.settings a) ≡ Some (record { packet = i; need = n; queue = q }) → hand_at s.flow.hands (hand_place plan.settings a) ≡ Some (record { packet = j; need = m; queue = q }) → i ≡ j
  held_one a i j n m q x y =
      let both : Some (record { packet = i; need = n; queue = q }) ≡ Some (record { packet = j; need = m; queue = q }) = sym x ∙ y in
      let one : record { packet = i; need = n; queue = q } ≡ record { packet = j; need = m; queue = q } = cc in
      ap (λ (h : Held). h.packet) one

  front_one : (q i j : ℕ) → HasFront s.flow q i → HasFront s.flow q j → i ≡ j
  front_one q i j x y = let both : i ∷ x.0 ≡ j ∷ y.0 = sym x.1 ∙ y.1 in cc

  no_front : (q i : ℕ) → HasFront s.flow q i → queue_at s.flow.queues q ≡ [] → ⊥
  no_front q i x none = absurd (let nothing : List ℕ = [] in let both : i ∷ x.0 ≡ nothing = sym x.1 ∙ none in cc)

  source_one : (a : Actor) (q p : Queue) (i j : ℕ) → TakesFrom plan s a q → TakesFrom plan s a p → HasFront s.flow (queue_place plan.settings (node_of a) q) i → HasFront s.flow (queue_place plan.settings (node_of a) p) j → q ≡ p
  source_one (Worker h w) Wire Wire i j x y f g = refl
  source_one (Worker h w) Out Out i j x y f g = refl
  source_one (Worker h w) Wire Out i j x y f g = absurd (no_front _ i f y)
  source_one (Worker h w) Out Wire i j x y f g = absurd (no_front _ j g x)
  source_one (Worker h w) Seal p i j x y f g = absurd x
  source_one (Worker h w) Wire Seal i j x y f g = absurd y
  source_one (Worker h w) Out Seal i j x y f g = absurd y
  source_one (Coproc h) Seal Seal i j x y f g = refl
  source_one (Coproc h) Out p i j x y f g = absurd x
  source_one (Coproc h) Wire p i j x y f g = absurd x
  source_one (Coproc h) Seal Out i j x y f g = absurd y
  source_one (Coproc h) Seal Wire i j x y f g = absurd y
  source_one (Gateway g) Wire Wire i j x y f k = refl
  source_one (Gateway g) Out p i j x y f k = absurd x
  source_one (Gateway g) Seal p i j x y f k = absurd x
  source_one (Gateway g) Wire Out i j x y f k = absurd y
  source_one (Gateway g) Wire Seal i j x y f k = absurd y
  source_one (HostInstall h) q p i j x y f g = absurd x
  source_one (GateInstall h) q p i j x y f g = absurd x
  source_one Controller q p i j x y f g = absurd x
  source_one Driver q p i j x y f g = absurd x

  take_one : (a a' : Actor) (q p : Queue) (i j : ℕ) → a ≡ a' → CanTake plan s a q i → CanTake plan s a' p j → Take a q i ≡ Take a' p j
  take_one a a' q p i j same x y' =
      let y : CanTake plan s a p j = subst (λ b. CanTake plan s b p j) (sym same) y' in
      let queue : q ≡ p = source_one a q p i j x.queue y.queue x.front y.front in
      let packet : i ≡ j = front_one _ i j (subst (λ z. HasFront s.flow (queue_place plan.settings (node_of a) z) i) queue x.front) y.front in
      cc

  gate_clash : (a : Actor) → IsWorker a → IsGatewayWorker a → ⊥
  gate_clash (Worker h w) x y = absurd y
  gate_clash (Gateway g) x y = absurd x
  gate_clash (Coproc h) x y = absurd x
  gate_clash (HostInstall h) x y = absurd x
  gate_clash (GateInstall h) x y = absurd x
  gate_clash Controller x y = absurd x
  gate_clash Driver x y = absurd x

  target_clash : (t : Endpoint) → IsRouteTarget t → IsRedirectTarget t → ⊥
  target_clash (endpoints.Route g) x y = absurd y
  target_clash (endpoints.Redirect g) x y = absurd x
  target_clash (endpoints.Host h) x y = absurd x

  module _ (a : Actor) (i : ℕ) where
    egress_one : (at : ℕ) (way way' : Way) (d d' : Departure) → Legal plan s (Egress a i at way d) → Legal plan s (Egress a i at way' d') → d ≡ d'
    unfolding Legal
    egress_one at way way' d d' l l' = departs_one plan s (node_of a) i _ d d' l.2 l'.2

    sealed_one : (e f : End) → Legal plan s (Sealed a i e) → Legal plan s (Sealed a i f) → e ≡ f
    unfolding Legal
    sealed_one e f l l' = sends_one plan s i (carried_at s i).target e f l.4 l'.4

    route_one : (at : ℕ) (p p' : Passage) → Legal plan s (Route a i at p) → Legal plan s (Route a i at p') → p ≡ p'
    unfolding Legal
    route_one at p p' l l' = passes_one plan s i _ p p' l.3 l'.3

    redirect_one : (at : ℕ) (b b' : Return) → Legal plan s (Redirect a i at b) → Legal plan s (Redirect a i at b') → b ≡ b'
    unfolding Legal
    redirect_one at b b' l l' = goes_one plan s i _ b b' l.3 l'.3

    ingress_one : (at : ℕ) (way way' : Way) (r r' : Arrival) → Legal plan s (Ingress a i at way r) → Legal plan s (Ingress a i at way' r') → r ≡ r'
    unfolding Legal
    ingress_one at way way' r r' l l' = arrives_one plan s (host_of (node_of a)) i _ r r' l.2 l'.2

  handles_one : (e f : Event) → class_of e ≡ Handles → class_of f ≡ Handles → Legal plan s e → Legal plan s f → actor_of e ≡ actor_of f → Agree (choice_of e) (choice_of f) → e ≡ f
  unfolding Legal
  handles_one (Take a q i) (Take a' p j) c c' l l' same choice = take_one a a' q p i j same l l'
  handles_one (Egress a i at way d) (Egress a' j at' way' d') c c' l l' same choice =
      let one : record { at = at; way = way } ≡ record { at = at'; way = way' } = choice in
      let number : at ≡ at' = ap (λ (x : Choice). x.at) one in
      let how : way ≡ way' = ap (λ (x : Choice). x.way) one in
      let m = subst (λ b. Legal plan s (Egress b j at' way' d')) (sym same) l' in
      let packet : i ≡ j = held_one a i j l.0.need m.0.need Out l.0.holds m.0.holds in
      let d_is : d ≡ d' = egress_one a j at' way way' d d' (subst (λ n. Legal plan s (Egress a j n way d)) number (subst (λ k. Legal plan s (Egress a k at way d)) packet l)) m in
      cc
  handles_one (Sealed a i e) (Sealed a' j f) c c' l l' same choice =
      let m = subst (λ b. Legal plan s (Sealed b j f)) (sym same) l' in
      let packet : i ≡ j = held_one a i j l.2.0 m.2.0 Seal l.2.1 m.2.1 in
      let end : e ≡ f = sealed_one a j e f (subst (λ k. Legal plan s (Sealed a k e)) packet l) m in
      cc
  handles_one (Route a i at p) (Route a' j at' p') c c' l l' same choice =
      let number : at ≡ at' = ap (λ (x : Choice). x.at) (choice) in
      let m = subst (λ b. Legal plan s (Route b j at' p')) (sym same) l' in
      let packet : i ≡ j = held_one a i j l.0.need m.0.need Wire l.0.holds m.0.holds in
      let p_is : p ≡ p' = route_one a j at' p p' (subst (λ n. Legal plan s (Route a j n p)) number (subst (λ k. Legal plan s (Route a k at p)) packet l)) m in
      cc
  handles_one (Redirect a i at b) (Redirect a' j at' b') c c' l l' same choice =
      let number : at ≡ at' = ap (λ (x : Choice). x.at) (choice) in
      let m = subst (λ z. Legal plan s (Redirect z j at' b')) (sym same) l' in
      let packet : i ≡ j = held_one a i j l.0.need m.0.need Wire l.0.holds m.0.holds in
      let b_is : b ≡ b' = redirect_one a j at' b b' (subst (λ n. Legal plan s (Redirect a j n b)) number (subst (λ k. Legal plan s (Redirect a k at b)) packet l)) m in
      cc
  handles_one (Ingress a i at way r) (Ingress a' j at' way' r') c c' l l' same choice =
      let one : record { at = at; way = way } ≡ record { at = at'; way = way' } = choice in
      let number : at ≡ at' = ap (λ (x : Choice). x.at) one in
      let how : way ≡ way' = ap (λ (x : Choice). x.way) one in
      let m = subst (λ b. Legal plan s (Ingress b j at' way' r')) (sym same) l' in
      let packet : i ≡ j = held_one a i j l.0.need m.0.need Wire l.0.holds m.0.holds in
      let r_is : r ≡ r' = ingress_one a j at' way way' r r' (subst (λ n. Legal plan s (Ingress a j n way r)) number (subst (λ k. Legal plan s (Ingress a k at way r)) packet l)) m in
      cc
  handles_one (Route a i at p) (Redirect a' j at' b) c c' l l' same choice =
      let m = subst (λ z. Legal plan s (Redirect z j at' b)) (sym same) l' in
      let packet : i ≡ j = held_one a i j l.0.need m.0.need Wire l.0.holds m.0.holds in
      absurd (target_clash (carried_at s j).target (subst (λ k. IsRouteTarget (carried_at s k).target) packet l.2) m.2)
  handles_one (Redirect a i at b) (Route a' j at' p) c c' l l' same choice =
      let m = subst (λ z. Legal plan s (Route z j at' p)) (sym same) l' in
      let packet : i ≡ j = held_one a i j l.0.need m.0.need Wire l.0.holds m.0.holds in
      absurd (target_clash (carried_at s j).target m.2 (subst (λ k. IsRedirectTarget (carried_at s k).target) packet l.2))
  handles_one (Route a i at p) (Ingress a' j at' way r) c c' l l' same choice = absurd (gate_clash a' l'.1 (subst IsGatewayWorker same l.1))
  handles_one (Redirect a i at b) (Ingress a' j at' way r) c c' l l' same choice = absurd (gate_clash a' l'.1 (subst IsGatewayWorker same l.1))
  handles_one (Ingress a i at way r) (Route a' j at' p) c c' l l' same choice = absurd (gate_clash a l.1 (subst IsGatewayWorker (sym same) l'.1))
  handles_one (Ingress a i at way r) (Redirect a' j at' b) c c' l l' same choice = absurd (gate_clash a l.1 (subst IsGatewayWorker (sym same) l'.1))
  handles_one (Take a q i) (Egress a' i' at' way' d') c c' l l' same choice = other_kind (Take a q i) (Egress a' i' at' way' d') c c' (λ n. absurd (omega (arith, n))) l l' same
  handles_one (Take a q i) (Sealed a' i' end') c c' l l' same choice = other_kind (Take a q i) (Sealed a' i' end') c c' (λ n. absurd (omega (arith, n))) l l' same
  handles_one (Take a q i) (Route a' i' at' p') c c' l l' same choice = other_kind (Take a q i) (Route a' i' at' p') c c' (λ n. absurd (omega (arith, n))) l l' same
  handles_one (Take a q i) (Redirect a' i' at' b') c c' l l' same choice = other_kind (Take a q i) (Redirect a' i' at' b') c c' (λ n. absurd (omega (arith, n))) l l' same
  handles_one (Take a q i) (Ingress a' i' at' way' r') c c' l l' same choice = other_kind (Take a q i) (Ingress a' i' at' way' r') c c' (λ n. absurd (omega (arith, n))) l l' same
  handles_one (Egress a i at way d) (Take a' q' i') c c' l l' same choice = other_kind (Egress a i at way d) (Take a' q' i') c c' (λ n. absurd (omega (arith, n))) l l' same
  handles_one (Egress a i at way d) (Sealed a' i' end') c c' l l' same choice = other_kind (Egress a i at way d) (Sealed a' i' end') c c' (λ n. absurd (omega (arith, n))) l l' same
  handles_one (Egress a i at way d) (Route a' i' at' p') c c' l l' same choice = other_kind (Egress a i at way d) (Route a' i' at' p') c c' (λ n. absurd (omega (arith, n))) l l' same
  handles_one (Egress a i at way d) (Redirect a' i' at' b') c c' l l' same choice = other_kind (Egress a i at way d) (Redirect a' i' at' b') c c' (λ n. absurd (omega (arith, n))) l l' same
  handles_one (Egress a i at way d) (Ingress a' i' at' way' r') c c' l l' same choice = other_kind (Egress a i at way d) (Ingress a' i' at' way' r') c c' (λ n. absurd (omega (arith, n))) l l' same
  handles_one (Sealed a i end) (Take a' q' i') c c' l l' same choice = other_kind (Sealed a i end) (Take a' q' i') c c' (λ n. absurd (omega (arith, n))) l l' same
  handles_one (Sealed a i end) (Egress a' i' at' way' d') c c' l l' same choice = other_kind (Sealed a i end) (Egress a' i' at' way' d') c c' (λ n. absurd (omega (arith, n))) l l' same
  handles_one (Sealed a i end) (Route a' i' at' p') c c' l l' same choice = other_kind (Sealed a i end) (Route a' i' at' p') c c' (λ n. absurd (omega (arith, n))) l l' same
  handles_one (Sealed a i end) (Redirect a' i' at' b') c c' l l' same choice = other_kind (Sealed a i end) (Redirect a' i' at' b') c c' (λ n. absurd (omega (arith, n))) l l' same
  handles_one (Sealed a i end) (Ingress a' i' at' way' r') c c' l l' same choice = other_kind (Sealed a i end) (Ingress a' i' at' way' r') c c' (λ n. absurd (omega (arith, n))) l l' same
  handles_one (Route a i at p) (Take a' q' i') c c' l l' same choice = other_kind (Route a i at p) (Take a' q' i') c c' (λ n. absurd (omega (arith, n))) l l' same
  handles_one (Route a i at p) (Egress a' i' at' way' d') c c' l l' same choice = other_kind (Route a i at p) (Egress a' i' at' way' d') c c' (λ n. absurd (omega (arith, n))) l l' same
  handles_one (Route a i at p) (Sealed a' i' end') c c' l l' same choice = other_kind (Route a i at p) (Sealed a' i' end') c c' (λ n. absurd (omega (arith, n))) l l' same
  handles_one (Redirect a i at b) (Take a' q' i') c c' l l' same choice = other_kind (Redirect a i at b) (Take a' q' i') c c' (λ n. absurd (omega (arith, n))) l l' same
  handles_one (Redirect a i at b) (Egress a' i' at' way' d') c c' l l' same choice = other_kind (Redirect a i at b) (Egress a' i' at' way' d') c c' (λ n. absurd (omega (arith, n))) l l' same
  handles_one (Redirect a i at b) (Sealed a' i' end') c c' l l' same choice = other_kind (Redirect a i at b) (Sealed a' i' end') c c' (λ n. absurd (omega (arith, n))) l l' same
  handles_one (Ingress a i at way r) (Take a' q' i') c c' l l' same choice = other_kind (Ingress a i at way r) (Take a' q' i') c c' (λ n. absurd (omega (arith, n))) l l' same
  handles_one (Ingress a i at way r) (Egress a' i' at' way' d') c c' l l' same choice = other_kind (Ingress a i at way r) (Egress a' i' at' way' d') c c' (λ n. absurd (omega (arith, n))) l l' same
  handles_one (Ingress a i at way r) (Sealed a' i' end') c c' l l' same choice = other_kind (Ingress a i at way r) (Sealed a' i' end') c c' (λ n. absurd (omega (arith, n))) l l' same
  handles_one (Append n) f c c' l l' same choice = absurd (cc)
  handles_one (Review n) f c c' l l' same choice = absurd (cc)
  handles_one (Hold n) f c c' l l' same choice = absurd (cc)
  handles_one (Free n) f c c' l l' same choice = absurd (cc)
  handles_one (Wait n) f c c' l l' same choice = absurd (cc)
  handles_one (Inject n i full) f c c' l l' same choice = absurd (cc)
  handles_one (Blackout n) f c c' l l' same choice = absurd (cc)
  handles_one (Resume n) f c c' l l' same choice = absurd (cc)
  handles_one (Finish n) f c c' l l' same choice = absurd (cc)
  handles_one (Announce node upto) f c c' l l' same choice = absurd (cc)
  handles_one (Installed node upto) f c c' l l' same choice = absurd (cc)
  handles_one (Unpin host vm) f c c' l l' same choice = absurd (cc)
  handles_one (Take a q i) (Append n') c c' l l' same choice = absurd (cc)
  handles_one (Take a q i) (Review n') c c' l l' same choice = absurd (cc)
  handles_one (Take a q i) (Hold n') c c' l l' same choice = absurd (cc)
  handles_one (Take a q i) (Free n') c c' l l' same choice = absurd (cc)
  handles_one (Take a q i) (Wait n') c c' l l' same choice = absurd (cc)
  handles_one (Take a q i) (Inject n' i' full') c c' l l' same choice = absurd (cc)
  handles_one (Take a q i) (Blackout n') c c' l l' same choice = absurd (cc)
  handles_one (Take a q i) (Resume n') c c' l l' same choice = absurd (cc)
  handles_one (Take a q i) (Finish n') c c' l l' same choice = absurd (cc)
  handles_one (Take a q i) (Announce node' upto') c c' l l' same choice = absurd (cc)
  handles_one (Take a q i) (Installed node' upto') c c' l l' same choice = absurd (cc)
  handles_one (Take a q i) (Unpin host' vm') c c' l l' same choice = absurd (cc)
  handles_one (Egress a i at way d) (Append n') c c' l l' same choice = absurd (cc)
  handles_one (Egress a i at way d) (Review n') c c' l l' same choice = absurd (cc)
  handles_one (Egress a i at way d) (Hold n') c c' l l' same choice = absurd (cc)
  handles_one (Egress a i at way d) (Free n') c c' l l' same choice = absurd (cc)
  handles_one (Egress a i at way d) (Wait n') c c' l l' same choice = absurd (cc)
  handles_one (Egress a i at way d) (Inject n' i' full') c c' l l' same choice = absurd (cc)
  handles_one (Egress a i at way d) (Blackout n') c c' l l' same choice = absurd (cc)
  handles_one (Egress a i at way d) (Resume n') c c' l l' same choice = absurd (cc)
  handles_one (Egress a i at way d) (Finish n') c c' l l' same choice = absurd (cc)
  handles_one (Egress a i at way d) (Announce node' upto') c c' l l' same choice = absurd (cc)
  handles_one (Egress a i at way d) (Installed node' upto') c c' l l' same choice = absurd (cc)
  handles_one (Egress a i at way d) (Unpin host' vm') c c' l l' same choice = absurd (cc)
  handles_one (Sealed a i end) (Append n') c c' l l' same choice = absurd (cc)
  handles_one (Sealed a i end) (Review n') c c' l l' same choice = absurd (cc)
  handles_one (Sealed a i end) (Hold n') c c' l l' same choice = absurd (cc)
  handles_one (Sealed a i end) (Free n') c c' l l' same choice = absurd (cc)
  handles_one (Sealed a i end) (Wait n') c c' l l' same choice = absurd (cc)
  handles_one (Sealed a i end) (Inject n' i' full') c c' l l' same choice = absurd (cc)
  handles_one (Sealed a i end) (Blackout n') c c' l l' same choice = absurd (cc)
  handles_one (Sealed a i end) (Resume n') c c' l l' same choice = absurd (cc)
  handles_one (Sealed a i end) (Finish n') c c' l l' same choice = absurd (cc)
  handles_one (Sealed a i end) (Announce node' upto') c c' l l' same choice = absurd (cc)
  handles_one (Sealed a i end) (Installed node' upto') c c' l l' same choice = absurd (cc)
  handles_one (Sealed a i end) (Unpin host' vm') c c' l l' same choice = absurd (cc)
  handles_one (Route a i at p) (Append n') c c' l l' same choice = absurd (cc)
  handles_one (Route a i at p) (Review n') c c' l l' same choice = absurd (cc)
  handles_one (Route a i at p) (Hold n') c c' l l' same choice = absurd (cc)
  handles_one (Route a i at p) (Free n') c c' l l' same choice = absurd (cc)
  handles_one (Route a i at p) (Wait n') c c' l l' same choice = absurd (cc)
  handles_one (Route a i at p) (Inject n' i' full') c c' l l' same choice = absurd (cc)
  handles_one (Route a i at p) (Blackout n') c c' l l' same choice = absurd (cc)
  handles_one (Route a i at p) (Resume n') c c' l l' same choice = absurd (cc)
  handles_one (Route a i at p) (Finish n') c c' l l' same choice = absurd (cc)
  handles_one (Route a i at p) (Announce node' upto') c c' l l' same choice = absurd (cc)
  handles_one (Route a i at p) (Installed node' upto') c c' l l' same choice = absurd (cc)
  handles_one (Route a i at p) (Unpin host' vm') c c' l l' same choice = absurd (cc)
  handles_one (Redirect a i at b) (Append n') c c' l l' same choice = absurd (cc)
  handles_one (Redirect a i at b) (Review n') c c' l l' same choice = absurd (cc)
  handles_one (Redirect a i at b) (Hold n') c c' l l' same choice = absurd (cc)
  handles_one (Redirect a i at b) (Free n') c c' l l' same choice = absurd (cc)
  handles_one (Redirect a i at b) (Wait n') c c' l l' same choice = absurd (cc)
  handles_one (Redirect a i at b) (Inject n' i' full') c c' l l' same choice = absurd (cc)
  handles_one (Redirect a i at b) (Blackout n') c c' l l' same choice = absurd (cc)
  handles_one (Redirect a i at b) (Resume n') c c' l l' same choice = absurd (cc)
  handles_one (Redirect a i at b) (Finish n') c c' l l' same choice = absurd (cc)
  handles_one (Redirect a i at b) (Announce node' upto') c c' l l' same choice = absurd (cc)
  handles_one (Redirect a i at b) (Installed node' upto') c c' l l' same choice = absurd (cc)
  handles_one (Redirect a i at b) (Unpin host' vm') c c' l l' same choice = absurd (cc)
  handles_one (Ingress a i at way r) (Append n') c c' l l' same choice = absurd (cc)
  handles_one (Ingress a i at way r) (Review n') c c' l l' same choice = absurd (cc)
  handles_one (Ingress a i at way r) (Hold n') c c' l l' same choice = absurd (cc)
  handles_one (Ingress a i at way r) (Free n') c c' l l' same choice = absurd (cc)
  handles_one (Ingress a i at way r) (Wait n') c c' l l' same choice = absurd (cc)
  handles_one (Ingress a i at way r) (Inject n' i' full') c c' l l' same choice = absurd (cc)
  handles_one (Ingress a i at way r) (Blackout n') c c' l l' same choice = absurd (cc)
  handles_one (Ingress a i at way r) (Resume n') c c' l l' same choice = absurd (cc)
  handles_one (Ingress a i at way r) (Finish n') c c' l l' same choice = absurd (cc)
  handles_one (Ingress a i at way r) (Announce node' upto') c c' l l' same choice = absurd (cc)
  handles_one (Ingress a i at way r) (Installed node' upto') c c' l l' same choice = absurd (cc)
  handles_one (Ingress a i at way r) (Unpin host' vm') c c' l l' same choice = absurd (cc)

  -- ---- the controller

  before_one : (h v h' v' : ℕ) → (Before h v h' v' → ⊥) → (Before h' v' h v → ⊥) → (h ≡ h') × (v ≡ v')
  before_one h v h' v' x y =
      let hosts : h ≡ h' =
      ⊎_elim (λ (l : h < h'). absurd (x (inl l))) (λ (l : h' ≤ h). ⊎_elim (λ (m : h' < h). absurd (y (inl m))) (λ (m : h ≤ h'). omega arith) (cases_lt h' h)) (cases_lt h h') in
      let vms : v ≡ v' =
      ⊎_elim (λ (l : v < v'). absurd (x (inr (hosts, l))))
      (λ (l : v' ≤ v). ⊎_elim (λ (m : v' < v). absurd (y (inr (sym hosts, m)))) (λ (m : v ≤ v'). omega arith) (cases_lt v' v)) (cases_lt v v') in
      (hosts, vms)

  controls_one : (e f : Event) → class_of e ≡ Controls → class_of f ≡ Controls → Legal plan s e → Legal plan s f → e ≡ f
  unfolding Legal
  controls_one (Unpin host vm) (Unpin host' vm') c c' l l' =
      let one = before_one host vm host' vm' (l'.1 host vm l.0) (l.1 host' vm' l'.0) in
      let hosts = one.0 in
      let vms = one.1 in
      cc
  controls_one (Append n) f c c' l l' = absurd (cc)
  controls_one (Unpin host vm) (Append n') c c' l l' = absurd (cc)
  controls_one (Review n) f c c' l l' = absurd (cc)
  controls_one (Unpin host vm) (Review n') c c' l l' = absurd (cc)
  controls_one (Hold n) f c c' l l' = absurd (cc)
  controls_one (Unpin host vm) (Hold n') c c' l l' = absurd (cc)
  controls_one (Free n) f c c' l l' = absurd (cc)
  controls_one (Unpin host vm) (Free n') c c' l l' = absurd (cc)
  controls_one (Wait n) f c c' l l' = absurd (cc)
  controls_one (Unpin host vm) (Wait n') c c' l l' = absurd (cc)
  controls_one (Inject n i full) f c c' l l' = absurd (cc)
  controls_one (Unpin host vm) (Inject n' i' full') c c' l l' = absurd (cc)
  controls_one (Blackout n) f c c' l l' = absurd (cc)
  controls_one (Unpin host vm) (Blackout n') c c' l l' = absurd (cc)
  controls_one (Resume n) f c c' l l' = absurd (cc)
  controls_one (Unpin host vm) (Resume n') c c' l l' = absurd (cc)
  controls_one (Finish n) f c c' l l' = absurd (cc)
  controls_one (Unpin host vm) (Finish n') c c' l l' = absurd (cc)
  controls_one (Announce node upto) f c c' l l' = absurd (cc)
  controls_one (Unpin host vm) (Announce node' upto') c c' l l' = absurd (cc)
  controls_one (Installed node upto) f c c' l l' = absurd (cc)
  controls_one (Unpin host vm) (Installed node' upto') c c' l l' = absurd (cc)
  controls_one (Take a q i) f c c' l l' = absurd (cc)
  controls_one (Unpin host vm) (Take a' q' i') c c' l l' = absurd (cc)
  controls_one (Egress a i at way d) f c c' l l' = absurd (cc)
  controls_one (Unpin host vm) (Egress a' i' at' way' d') c c' l l' = absurd (cc)
  controls_one (Sealed a i end) f c c' l l' = absurd (cc)
  controls_one (Unpin host vm) (Sealed a' i' end') c c' l l' = absurd (cc)
  controls_one (Route a i at p) f c c' l l' = absurd (cc)
  controls_one (Unpin host vm) (Route a' i' at' p') c c' l l' = absurd (cc)
  controls_one (Redirect a i at b) f c c' l l' = absurd (cc)
  controls_one (Unpin host vm) (Redirect a' i' at' b') c c' l l' = absurd (cc)
  controls_one (Ingress a i at way r) f c c' l l' = absurd (cc)
  controls_one (Unpin host vm) (Ingress a' i' at' way' r') c c' l l' = absurd (cc)

  -- ---- any event

  by_class : (k : Class) (e f : Event) → class_of e ≡ k → class_of f ≡ k → Legal plan s e → Legal plan s f → actor_of e ≡ actor_of f → Agree (choice_of e) (choice_of f) → e ≡ f
  by_class Drives e f c c' l l' same choice = drives_one e f (driven e c l) (driven f c' l')
  by_class Installs e f c c' l l' same choice = installs_one e f c c' l l' same
  by_class Handles e f c c' l l' same choice = handles_one e f c c' l l' same choice
  by_class Controls e f c c' l l' same choice = controls_one e f c c' l l'

  pub told_by_choice : (e f : Event) → Legal plan s e → Legal plan s f → actor_of e ≡ actor_of f → Agree (choice_of e) (choice_of f) → e ≡ f
  told_by_choice e f l l' same choice = by_class (class_of f) e f (sym (same_class e l) ∙ ap actor_class same ∙ same_class f l') refl l l' same choice
