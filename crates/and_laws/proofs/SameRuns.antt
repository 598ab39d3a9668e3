-- Two complete runs in the plain order, whose ways are by one rule, are one.
use Rattle.std.proofs.Common.{◌≡◌, ℕ, ◌<◌, ◌≤◌, List, [], ◌∷◌, length, refl, sym, ap, ◌∙◌, subst, arith, Option, Some, None, ⊎_elim}
use Rattle.std.proofs.lemmas.Bool.{cases_eq, cases_lt}
use Rattle.std.proofs.lemmas.Option.{slice_get_within}
use Rattle.and_events.specs.declared.event.Actor.{Actor}
use Rattle.and_events.specs.declared.event.Actor.TheVariants.{HostInstall, GateInstall, Worker, Coproc, Gateway, Controller, Driver}
use Rattle.and_events.specs.declared.event.Event.{Event}
use Rattle.and_events.specs.declared.event.Event.TheVariants.{Append, Review, Hold, Free, Wait, Inject, Blackout, Resume, Finish, Announce, Installed, Take, Egress, Sealed, Route, Redirect, Ingress, Unpin}
use Rattle.and_events.specs.declared.event.Held.{Held}
use Rattle.and_events.specs.declared.plan.Plan.{Plan}
use Rattle.and_events.specs.declared.plan.Step.{Step}
use Rattle.and_events.specs.Places.{actor_of, node_of, hand_place, queue_place, IsActor}
use Rattle.and_events.specs.Ports.{IsHairpin}
use Rattle.and_events.specs.Flow.{queue_at, hand_at}
use Rattle.and_events.specs.State.{State, state, installed_of}
use Rattle.and_events.specs.Legal.{Legal, Enabled, Steps, IsOver}
use Rattle.and_events.specs.Run.{Run}
use Rattle.and_events.specs.Complete.{IsComplete}
use Rattle.and_events.specs.Ordered.{IsAtInstalled, IsInPlainOrder}
use Rattle.and_events.specs.Fresh.{decision_of}
use Rattle.and_events.specs.Sound.{IsSound}
use Rattle.and_laws.specs.Choices.{Choice, choice_of, Agree, WayRule, GoesBy, FollowRule, IsPlainRun}
use Rattle.and_laws.proofs.Actors.{same_actor}
use Rattle.and_laws.proofs.AllDone.{all_done}
use Rattle.and_laws.proofs.OneEvent.{told_by_choice}
use Rattle.and_laws.proofs.Places.{hand_within, front_within}
use Rattle.and_laws.proofs.Programmed.{programmed}

-- ---- the next event

enabled_is : (plan : Plan) (s : State) (a : Actor) → Enabled plan s a → IsActor plan.settings a
enabled_is plan s (HostInstall h) e = ⊎_elim (λ c. c.0) (λ c. c.0) e
enabled_is plan s (GateInstall g) e = ⊎_elim (λ c. c.0) (λ c. c.0) e
enabled_is plan s (Worker h w) e = ⊎_elim (λ c. c.0) (λ c. c.2.actor) e
enabled_is plan s (Coproc h) e = ⊎_elim (λ c. c.0) (λ c. c.2.actor) e
enabled_is plan s (Gateway g) e = ⊎_elim (λ c. c.0) (λ c. c.2.actor) e
enabled_is plan s Controller e = tt
enabled_is plan s Driver e = tt

-- of a choice the number is this
abbrev NumberIs : ℕ → Option Choice → Type 0
NumberIs n None = Unit {0}
NumberIs n (Some c) = c.at ≡ n

number_is : (plan : Plan) (s : State) (e : Event) → IsAtInstalled plan s (decision_of e) → NumberIs (installed_of plan s (node_of (actor_of e))) (choice_of e)
number_is plan s (Egress a i at way d) n = n
number_is plan s (Route a i at p) n = n
number_is plan s (Redirect a i at b) n = n
number_is plan s (Ingress a i at way r) n = n
number_is plan s e n = tt

agree : (rule : WayRule) (h : List Event) (a : Actor) (n : ℕ) (x y : Option Choice) → NumberIs n x → NumberIs n y → GoesBy rule h a x → GoesBy rule h a y → Agree x y
agree rule h a n (Some x) (Some y) p q u v =
    let number : x.at ≡ y.at = p ∙ sym q in
    let way : x.way ≡ y.way = u ∙ ap (rule h a) number ∙ sym v in
    ap (λ m. record { at = m; way = x.way }) number ∙ ap (λ w. record { at = y.at; way = w }) way
agree rule h a n None y p q u v = tt
agree rule h a n (Some x) None p q u v = tt

-- a history so far, in the plain order and by the rule
record Goes (plan : Plan) (rule : WayRule) (h : List Event) : Type 0 where
  pub run : Run plan h
  pub ordered : IsInPlainOrder plan h
  pub ways : FollowRule rule h

goes_before : (plan : Plan) (rule : WayRule) (e : Event) (h : List Event) → Goes plan rule (e ∷ h) → Goes plan rule h
unfolding Run IsInPlainOrder FollowRule
goes_before plan rule e h g = record { run = g.run.0; ordered = g.ordered.0; ways = g.ways.0 }

next_one : (plan : Plan) (rule : WayRule) (e f : Event) (h : List Event) → Goes plan rule (e ∷ h) → Goes plan rule (f ∷ h) → e ≡ f
unfolding Run IsInPlainOrder FollowRule
next_one plan rule e f h x y =
    let s = state plan h in
    let a = actor_of e in
    let b = actor_of f in
    let is_a = enabled_is plan s a x.ordered.1 in
    let is_b = enabled_is plan s b y.ordered.1 in
    let same : a ≡ b = same_actor plan.settings a b is_a is_b (omega (arith, x.ordered.2 b is_b y.ordered.1, y.ordered.2 a is_a x.ordered.1)) in
    let number = number_is plan s f y.ordered.3 in
    told_by_choice plan s e f x.run.1 y.run.1 same
    (agree rule h a (installed_of plan s (node_of a)) (choice_of e) (choice_of f) (number_is plan s e x.ordered.3)
    (subst (λ c. NumberIs (installed_of plan s (node_of c)) (choice_of f)) (sym same) number) x.ways.1 (subst (λ c. GoesBy rule h c (choice_of f)) (sym same) y.ways.1))

same_run : (plan : Plan) (rule : WayRule) (h k : List Event) → length h ≡ length k → Goes plan rule h → Goes plan rule k → h ≡ k
same_run plan rule [] [] l x y = refl
same_run plan rule [] (f ∷ k) l x y = absurd (omega (arith, l))
same_run plan rule (e ∷ h) [] l x y = absurd (omega (arith, l))
same_run plan rule (e ∷ h) (f ∷ k) l x y =
    let before : h ≡ k = same_run plan rule h k (omega (arith, l)) (goes_before plan rule e h x) (goes_before plan rule f k y) in
    let one : e ≡ f = next_one plan rule e f k (subst (λ z. Goes plan rule (e ∷ z)) before x) y in
    ap (λ z. e ∷ z) before ∙ ap (λ z. z ∷ k) one

-- ---- nothing comes after the end

abbrev NotStep : Event → Type 0
NotStep (Append n) = ⊥
NotStep (Review n) = ⊥
NotStep (Hold n) = ⊥
NotStep (Free n) = ⊥
NotStep (Wait n) = ⊥
NotStep (Inject n i full) = ⊥
NotStep (Blackout n) = ⊥
NotStep (Resume n) = ⊥
NotStep (Finish n) = ⊥
NotStep _ = Unit {0}

module _ (plan : Plan) (h : List Event) (sound : IsSound plan) (r : Run plan h) (complete : IsComplete plan h) where
  no_step : (n : ℕ) (step : Step) → Steps plan (state plan h) n step → ⊥
  no_step n step it = absurd (omega (arith, it.0, complete.3, slice_get_within plan.steps n step it.1))

  over : IsOver plan (state plan h)
  over = (all_done plan h sound r complete).over

  no_hand : (a : Actor) (g : Held) → hand_at (state plan h).flow.hands (hand_place plan.settings a) ≡ Some g → ⊥
  no_hand a g has =
      let hands = (state plan h).flow.hands in
      let none : hand_at hands (hand_place plan.settings a) ≡ None = over.hands (hand_place plan.settings a) None (hand_within (hand_place plan.settings a) g hands has) in
      absurd (let clash : None ≡ Some g = sym none ∙ has in cc)

  no_front : (q i : ℕ) (rest : List ℕ) → queue_at (state plan h).flow.queues q ≡ i ∷ rest → ⊥
  no_front q i rest has =
      let queues = (state plan h).flow.queues in
      let empty : List ℕ = [] in
      let none : queue_at queues q ≡ empty = over.queues q empty (front_within q i rest queues has) in
      absurd (let clash : empty ≡ i ∷ rest = sym none ∙ has in cc)

  no_more : (e : Event) → Legal plan (state plan h) e → ⊥
  unfolding Legal over
  no_more (Append n) l = no_step n _ l.1
  no_more (Review n) l = no_step n _ l
  no_more (Hold n) l = no_step n _ l.2
  no_more (Free n) l = no_step n _ l.2
  no_more (Wait n) l = no_step n _ l
  no_more (Inject n i full) l = no_step n _ l.0
  no_more (Blackout n) l = no_step n _ l.2
  no_more (Resume n) l = no_step n _ l.1
  no_more (Finish n) l = no_step n _ l
  no_more (Announce node upto) l = absurd (omega (arith, l.0.2, l.0.3, over.installed node l.0.0))
  no_more (Installed node upto) l = absurd (omega (arith, l.0.1, over.installed node l.0.0, (programmed plan h r node l.0.0).announced))
  no_more (Take a q i) l = no_front (queue_place plan.settings (node_of a) q) i l.front.0 l.front.1
  no_more (Egress a i at way d) l = no_hand a _ l.0.holds
  no_more (Sealed a i end) l = no_hand a _ l.2.1
  no_more (Route a i at p) l = no_hand a _ l.0.holds
  no_more (Redirect a i at b) l = no_hand a _ l.0.holds
  no_more (Ingress a i at way r) l = no_hand a _ l.0.holds
  no_more (Unpin host vm) l = over.hairpins host vm (subst IsHairpin (sym l.0.3) tt)

-- ---- two runs

-- what a longer history was when it had so many events, and the next one
record Older (plan : Plan) (rule : WayRule) (n : ℕ) : Type 0 where
  pub event : Event
  pub rest : List Event
  pub count : length rest ≡ n
  pub goes : Goes plan rule (event ∷ rest)

older : (plan : Plan) (rule : WayRule) (n : ℕ) (k : List Event) → n < length k → Goes plan rule k → Older plan rule n
older plan rule n [] l g = absurd (omega (arith, l))
older plan rule n (f ∷ k) l g =
    ⊎_elim (λ (here : length k ≡ n). record { event = f; rest = k; count = here; goes = g })
    (λ (later : length k ≡ n → ⊥). older plan rule n k (omega (arith, l, later)) (goes_before plan rule f k g)) (cases_eq (length k) n)

not_longer : (plan : Plan) (rule : WayRule) (h k : List Event) → IsSound plan → IsPlainRun plan rule h → Goes plan rule k → length h < length k → ⊥
unfolding Run
not_longer plan rule h k sound x y l =
    let o = older plan rule (length h) k l y in
    let same : o.rest ≡ h = same_run plan rule o.rest h o.count (goes_before plan rule o.event o.rest o.goes) (record { run = x.run; ordered = x.ordered; ways = x.ways }) in
    no_more plan h sound x.run x.complete o.event (subst (λ z. Legal plan (state plan z) o.event) same o.goes.run.1)

goes_of : (plan : Plan) (rule : WayRule) (h : List Event) → IsPlainRun plan rule h → Goes plan rule h
goes_of plan rule h x = record { run = x.run; ordered = x.ordered; ways = x.ways }

pub one_run : (plan : Plan) → IsSound plan → (rule : WayRule) (h k : List Event) → IsPlainRun plan rule h → IsPlainRun plan rule k → h ≡ k
one_run plan sound rule h k x y =
    let u = goes_of plan rule h x in
    let v = goes_of plan rule k y in
    ⊎_elim (λ (l : length h < length k). absurd (not_longer plan rule h k sound x v l))
    (λ (l : length k ≤ length h).
    ⊎_elim (λ (m : length k < length h). absurd (not_longer plan rule k h sound y u m)) (λ (m : length h ≤ length k). same_run plan rule h k (omega (arith, l, m)) u v)
    (cases_lt (length k) (length h)))
    (cases_lt (length h) (length k))
