use Rattle.std.proofs.Common.{◌≡◌, take}
use Rattle.and_events.specs.State.{state}
use Rattle.and_plain.specs.History.{history}
use Rattle.and_plain.proofs.events.state_of.Given as goal

abbrev pub invariant-loop-event : goal.invariant-loop-event
invariant-loop-event l = l.s ≡ state l.plan (history (take l.event-index l.events))
