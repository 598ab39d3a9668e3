use Rattle.actor_rows.specs.Waiting.{IsWaiting}
use Rattle.actor_rows.proofs.driving.fill.Given as goal

abbrev pub invariant-loop-step : goal.invariant-loop-step
invariant-loop-step l = IsWaiting l.book
