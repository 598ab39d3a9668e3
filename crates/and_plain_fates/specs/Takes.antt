-- What an actor's node had installed at the actor's last take of a packet, one event further.
use Rattle.std.specs.Prelude.{ℕ, ◌&&◌, ◌==◌, if◌then◌else◌, Option, Some}
use Rattle.and_events.specs.declared.event.Actor.{Actor}
use Rattle.and_events.specs.declared.event.Event.{Event}
use Rattle.and_events.specs.declared.event.Event.TheVariants.{Take}
use Rattle.and_events.specs.declared.plan.Plan.{Plan}
use Rattle.and_events.specs.Places.{actor_number, node_of}
use Rattle.and_events.specs.State.{State, installed_of}

abbrev pub take_by : Plan → State → Actor → ℕ → Option ℕ → Event → Option ℕ
take_by plan s a i before (Take b q j) =
    if (actor_number plan.settings b == actor_number plan.settings a) && (j == i) then Some (installed_of plan s (node_of a)) else before
take_by plan s a i before _ = before
