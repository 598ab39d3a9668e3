-- Whole runs.
use Rattle.std.specs.Prelude.{◌≡◌, ℕ, List, [], ◌∷◌, length}
use Rattle.and_events.specs.declared.event.Event.{Event}
use Rattle.and_events.specs.declared.event.Event.TheVariants.{Finish}
use Rattle.and_events.specs.declared.plan.Plan.{Plan}
use Rattle.and_events.specs.State.{state}

-- of a run: the last event is Finish, and the step that is due is past the last. In a run the events of steps come in order,
-- each once, so that every step has its event
abbrev pub IsComplete : Plan → List Event → Type 0
IsComplete plan h = (n : ℕ) × (earlier : List Event) × (h ≡ Finish n ∷ earlier) × ((state plan h).next ≡ length plan.steps)
