-- Events that give offload orders.
use Rattle.std.specs.Prelude.{Bool, true, false, slice_get, Option, Some}
use Rattle.and_events.specs.declared.event.Event.{Event}
use Rattle.and_events.specs.declared.event.Event.TheVariants.{Append, Review, Resume}
use Rattle.and_events.specs.declared.plan.Step.{Step}
use Rattle.and_events.specs.declared.plan.Step.TheVariants as steps
use Rattle.and_events.specs.declared.plan.Plan.{Plan}

abbrev pub is_review : Option Step → Bool
is_review (Some steps.Review) = true
is_review _ = false

-- the event does a step that reviews the usage
abbrev pub gives_orders : Plan → Event → Bool
gives_orders plan (Append step) = is_review (slice_get plan.steps step)
gives_orders plan (Review step) = is_review (slice_get plan.steps step)
gives_orders plan (Resume step) = is_review (slice_get plan.steps step)
gives_orders plan _ = false
