-- Lists of events, the oldest of which is first.
use Rattle.std.specs.Prelude.{◌≡◌, ℕ, List, [], ◌∷◌, take, slice_get, Some}
use Rattle.std.specs.List.{fold}
use Rattle.and_events.specs.declared.event.Event.{Event}
use Rattle.and_events.specs.declared.plan.Plan.{Plan}
use Rattle.and_events.specs.Legal.{Legal}
use Rattle.and_events.specs.Run.{Run}
use Rattle.and_events.specs.State.{state}

-- the list as a history, whose newest event is first
abbrev pub history : List Event → List Event
history events = fold (λ h e. e ∷ h) [] events

-- the events before this one are a run, and this one is not legal after them
pub record IsFirstIllegal (plan : Plan) (events : List Event) (n : ℕ) : Type 0 where
  pub event : Event
  pub there : slice_get events n ≡ Some event
  pub before : Run plan (history (take n events))
  pub illegal : Legal plan (state plan (history (take n events))) event → ⊥
