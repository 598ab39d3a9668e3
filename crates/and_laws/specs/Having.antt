-- What an enabled actor can do.
use Rattle.std.specs.Prelude.{◌≡◌, ℕ, ◌≤◌, Some}
use Rattle.and_policy.specs.declared.decision.Way.{Way}
use Rattle.and_policy.specs.declared.decision.Way.TheVariants.{Slow}
use Rattle.and_events.specs.declared.event.Actor.{Actor}
use Rattle.and_events.specs.declared.event.Actor.TheVariants.{Worker, Gateway}
use Rattle.and_events.specs.declared.event.Event.{Event}
use Rattle.and_events.specs.declared.event.Held.{Held}
use Rattle.and_events.specs.declared.plan.Plan.{Plan}
use Rattle.and_events.specs.Places.{actor_of, node_of, hand_place, IsActor}
use Rattle.and_events.specs.Flow.{hand_at}
use Rattle.and_events.specs.State.{State, announced_of}
use Rattle.and_events.specs.Legal.{Legal}
use Rattle.and_laws.specs.Choices.{choice_of}

-- the actor has a legal event
pub record HasEvent (plan : Plan) (s : State) (a : Actor) : Type 0 where
  pub event : Event
  pub actor : actor_of event ≡ a
  pub legal : Legal plan s event

-- the actor decides of packets, and has this way open
abbrev pub HasWay : Actor → Way → Type 0
HasWay (Worker h w) way = Unit {0}
HasWay (Gateway g) way = way ≡ Slow
HasWay _ way = ⊥

-- with this packet in hand, it can decide at each number from the packet's need on that is announced, in each way open to it
abbrev pub DecidesAnywhere : Plan → State → Type 0
DecidesAnywhere plan s =
    (a : Actor) (g : Held) (at : ℕ) (way : Way) → IsActor plan.settings a → HasWay a way → hand_at s.flow.hands (hand_place plan.settings a) ≡ Some g → g.need ≤ at
    → at ≤ announced_of plan s (node_of a) → (e : Event) × (actor_of e ≡ a) × (choice_of e ≡ Some (record { at = at; way = way })) × Legal plan s e
