-- Which steps an event does.
use Rattle.std.specs.Prelude.{◌≡◌, ℕ, Option, Some}
use Rattle.and_policy.specs.declared.entry.Entry.{Entry}
use Rattle.and_events.specs.declared.event.Event.{Event}
use Rattle.and_events.specs.declared.event.Event.TheVariants.{Append, Review, Hold, Free, Wait, Inject, Blackout, Resume, Finish}
use Rattle.and_events.specs.declared.event.Node.{Node}
use Rattle.and_events.specs.declared.plan.Step.{Step}
use Rattle.and_events.specs.declared.plan.Step.TheVariants as steps
use Rattle.and_events.specs.declared.plan.What.{What}

-- the step is one that the event does, whatever its number
abbrev pub IsDoneBy : Option Step → Event → Type 0
IsDoneBy found (Append n) = (e : Entry) × (found ≡ Some (steps.Append e))
IsDoneBy found (Review n) = found ≡ Some steps.Review
IsDoneBy found (Hold n) = (node : Node) × (what : What) × (found ≡ Some (steps.Hold node what))
IsDoneBy found (Free n) = (node : Node) × (what : What) × (found ≡ Some (steps.Free node what))
IsDoneBy found (Wait n) = found ≡ Some steps.Wait
IsDoneBy found (Inject n i full) = found ≡ Some (steps.Inject i)
IsDoneBy found (Blackout n) = (vm host : ℕ) × (found ≡ Some (steps.Blackout vm host))
IsDoneBy found (Resume n) = (vm : ℕ) × (found ≡ Some (steps.Resume vm))
IsDoneBy found (Finish n) = found ≡ Some steps.Finish
IsDoneBy found _ = ⊥
