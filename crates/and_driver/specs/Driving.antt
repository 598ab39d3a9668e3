-- What a turn of the driver adds to the book.
use Rattle.std.specs.Prelude.{◌≡◌, ℕ, Some, slice_get}
use Rattle.and_events.specs.declared.event.Event.{Event}
use Rattle.and_events.specs.declared.event.Event.TheVariants as events
use Rattle.and_events.specs.declared.plan.Plan.{Plan}
use Rattle.and_events.specs.declared.plan.Step.{Step}
use Rattle.and_events.specs.declared.plan.Step.TheVariants as steps
use Rattle.and_events.specs.Legal.{CanUnpin}
use Rattle.and_events.specs.State.{State}
use Rattle.and_book.specs.Views.{BookView, now, with_line, finds_full}

-- the event that does the step which is due
abbrev pub event_of : Plan → State → Step → Event
event_of plan s (steps.Append e) = events.Append s.next
event_of plan s steps.Review = events.Review s.next
event_of plan s (steps.Hold node what) = events.Hold s.next
event_of plan s (steps.Free node what) = events.Free s.next
event_of plan s steps.Wait = events.Wait s.next
event_of plan s (steps.Inject i) = events.Inject s.next i (finds_full plan s i)
event_of plan s (steps.Blackout vm host) = events.Blackout s.next
event_of plan s (steps.Resume vm) = events.Resume s.next
event_of plan s steps.Finish = events.Finish s.next

-- the book has one line more, of this seat: the event of the step that was due
pub record DoesStep (old new : BookView) (seat : ℕ) : Type 0 where
  pub step : Step
  pub due : slice_get old.plan.steps (now old).next ≡ Some step
  pub line : new ≡ with_line old seat (event_of old.plan (now old) step)

-- the book has one line more, of this seat: of the hairpins that may end the first one has ended
pub record Unpins (old new : BookView) (seat : ℕ) : Type 0 where
  pub host : ℕ
  pub vm : ℕ
  pub first : CanUnpin old.plan (now old) host vm
  pub line : new ≡ with_line old seat (events.Unpin host vm)
