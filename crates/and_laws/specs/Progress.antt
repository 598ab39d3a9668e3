-- A run goes on: some actor is enabled.
use Rattle.and_events.specs.declared.event.Actor.{Actor}
use Rattle.and_events.specs.declared.plan.Plan.{Plan}
use Rattle.and_events.specs.Places.{IsActor}
use Rattle.and_events.specs.State.{State}
use Rattle.and_events.specs.Legal.{Enabled}

-- an actor of the plan is enabled
pub record GoesOn (plan : Plan) (s : State) : Type 0 where
  pub actor : Actor
  pub is : IsActor plan.settings actor
  pub enabled : Enabled plan s actor
