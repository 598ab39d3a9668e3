-- What an actor is free to choose, and runs that leave it nothing.
use Rattle.std.specs.Prelude.{◌≡◌, ℕ, List, [], ◌∷◌, Option, Some, None}
use Rattle.and_policy.specs.declared.decision.Way.{Way}
use Rattle.and_policy.specs.declared.decision.Way.TheVariants.{Slow}
use Rattle.and_events.specs.declared.event.Actor.{Actor}
use Rattle.and_events.specs.declared.event.Event.{Event}
use Rattle.and_events.specs.declared.event.Event.TheVariants.{Egress, Route, Redirect, Ingress}
use Rattle.and_events.specs.declared.plan.Plan.{Plan}
use Rattle.and_events.specs.Places.{actor_of}
use Rattle.and_events.specs.State.{State}
use Rattle.and_events.specs.Legal.{Legal}
use Rattle.and_events.specs.Run.{Run}
use Rattle.and_events.specs.Complete.{IsComplete}
use Rattle.and_events.specs.Ordered.{IsInPlainOrder}

-- the number at which an actor decides of the packet in its hand, and the way
pub record Choice : Type 0 where
  pub at : ℕ
  pub way : Way

-- a gateway has one way
abbrev pub choice_of : Event → Option Choice
choice_of (Egress a i at way d) = Some (record { at = at; way = way })
choice_of (Ingress a i at way arrival) = Some (record { at = at; way = way })
choice_of (Route a i at p) = Some (record { at = at; way = Slow })
choice_of (Redirect a i at back) = Some (record { at = at; way = Slow })
choice_of _ = None

-- where both choose they choose the same
abbrev pub Agree : Option Choice → Option Choice → Type 0
Agree (Some x) (Some y) = x ≡ y
Agree _ _ = Unit {0}

-- two legal events of an actor that do not choose otherwise are one
abbrev pub IsToldByChoice : Plan → State → Type 0
IsToldByChoice plan s = (e f : Event) → Legal plan s e → Legal plan s f → actor_of e ≡ actor_of f → Agree (choice_of e) (choice_of f) → e ≡ f

-- ---- ways by a rule

-- the way that a rule gives to an actor's decision at a number, after a history
abbrev pub WayRule : Type 0
WayRule = List Event → Actor → ℕ → Way

abbrev pub GoesBy : WayRule → List Event → Actor → Option Choice → Type 0
GoesBy rule h a None = Unit {0}
GoesBy rule h a (Some c) = c.way ≡ rule h a c.at

-- each decision of the history has the rule's way
unfoldable pub FollowRule : WayRule → List Event → Type 0
FollowRule rule [] = Unit {0}
FollowRule rule (e ∷ h) = FollowRule rule h × GoesBy rule h (actor_of e) (choice_of e)

-- a complete run in the plain order, whose ways are by the rule
pub record IsPlainRun (plan : Plan) (rule : WayRule) (h : List Event) : Type 0 where
  pub run : Run plan h
  pub ordered : IsInPlainOrder plan h
  pub ways : FollowRule rule h
  pub complete : IsComplete plan h

-- two complete runs in the plain order, whose ways are by one rule, are one
abbrev pub IsOneRun : Plan → Type 0
IsOneRun plan =
    (rule : WayRule) (h k : List Event) → IsPlainRun plan rule h → IsPlainRun plan rule k → h ≡ k
