-- The plain order of one thread: of the enabled actors the one with the smallest number acts.
use Rattle.std.specs.Prelude.{◌≡◌, ℕ, ◌≤◌, List, [], ◌∷◌, Option, Some, None}
use Rattle.and_events.specs.declared.event.Actor.{Actor}
use Rattle.and_events.specs.declared.event.Event.{Event}
use Rattle.and_events.specs.declared.plan.Plan.{Plan}
use Rattle.and_events.specs.Places.{actor_number, actor_of, node_of, IsActor}
use Rattle.and_events.specs.State.{State, state, installed_of}
use Rattle.and_events.specs.Legal.{Enabled}
use Rattle.and_events.specs.Fresh.{Decided, decision_of}

-- no enabled actor has a smaller number
abbrev pub IsFirst : Plan → State → Actor → Type 0
IsFirst plan s a = (b : Actor) → IsActor plan.settings b → Enabled plan s b → actor_number plan.settings a ≤ actor_number plan.settings b

-- a decision is at what the node has installed
abbrev pub IsAtInstalled : Plan → State → Option Decided → Type 0
IsAtInstalled plan s None = Unit {0}
IsAtInstalled plan s (Some d) = d.at ≡ installed_of plan s (node_of d.actor)

unfoldable pub IsInPlainOrder : Plan → List Event → Type 0
IsInPlainOrder plan [] = Unit {0}
IsInPlainOrder plan (e ∷ h) =
    IsInPlainOrder plan h × Enabled plan (state plan h) (actor_of e) × IsFirst plan (state plan h) (actor_of e)
    × IsAtInstalled plan (state plan h) (decision_of e)
