-- The turns of the driver, the step that is due, and of the controller, the hairpin that is the next to end.
use Rattle.std.proofs.Common.{◌≡◌, List, refl}
use Rattle.and_events.specs.declared.event.Actor.TheVariants.{Controller, Driver}
use Rattle.and_events.specs.declared.event.Event.{Event}
use Rattle.and_events.specs.declared.event.Event.TheVariants as events
use Rattle.and_events.specs.declared.plan.Plan.{Plan}
use Rattle.and_events.specs.declared.plan.Step.{Step}
use Rattle.and_events.specs.declared.plan.Step.TheVariants as steps
use Rattle.and_events.specs.Fresh.{decision_of}
use Rattle.and_events.specs.Ordered.{IsAtInstalled}
use Rattle.and_events.specs.Places.{actor_of}
use Rattle.and_events.specs.Run.{past}
use Rattle.and_events.specs.State.{State}
use Rattle.and_others.specs.Ways.{IsWay, asked}
use Rattle.and_book.specs.Views.{BookView, now}
use Rattle.and_driver.specs.Driving.{DoesStep, Unpins, event_of}
use Rattle.and_replay.specs.Turns.{Adds}

-- the event of a step is the driver's, and decides nothing
record IsDriving (plan : Plan) (h : List Event) (s : State) (e : Event) : Type 0 where
  pub actor : actor_of e ≡ Driver
  pub number : IsAtInstalled plan s (decision_of e)
  pub way : IsWay plan h (asked plan s e)

driving : (plan : Plan) (h : List Event) (s : State) (step : Step) → IsDriving plan h s (event_of plan s step)
driving plan h s (steps.Append e) = record { actor = refl; number = tt; way = tt }
driving plan h s steps.Review = record { actor = refl; number = tt; way = tt }
driving plan h s (steps.Hold node what) = record { actor = refl; number = tt; way = tt }
driving plan h s (steps.Free node what) = record { actor = refl; number = tt; way = tt }
driving plan h s steps.Wait = record { actor = refl; number = tt; way = tt }
driving plan h s (steps.Inject i) = record { actor = refl; number = tt; way = tt }
driving plan h s (steps.Blackout vm host) = record { actor = refl; number = tt; way = tt }
driving plan h s (steps.Resume vm) = record { actor = refl; number = tt; way = tt }
driving plan h s steps.Finish = record { actor = refl; number = tt; way = tt }

pub drives : (old new : BookView) → DoesStep old new 0 → Adds old new Driver
drives old new does =
    let it = driving old.plan (past old.lines) (now old) does.step in
    record { event = event_of old.plan (now old) does.step; line = does.line; actor = it.actor; number = it.number; way = it.way }

pub unpins : (old new : BookView) → Unpins old new 0 → Adds old new Controller
unpins old new did = record { event = events.Unpin did.host did.vm; line = did.line; actor = refl; number = tt; way = tt }
