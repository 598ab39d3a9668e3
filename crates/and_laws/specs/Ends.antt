-- How complete runs end.
use Rattle.std.specs.Prelude.{◌≡◌, List}
use Rattle.and_events.specs.declared.event.Event.{Event}
use Rattle.and_events.specs.declared.plan.Plan.{Plan}
use Rattle.and_events.specs.State.{state}
use Rattle.and_events.specs.Legal.{IsOver}

-- no packet is queued or in hand, every programme is installed, no hairpin is left, and the log is the plan's
pub record IsAllDone (plan : Plan) (h : List Event) : Type 0 where
  pub over : IsOver plan (state plan h)
  pub log : (state plan h).programmes.log ≡ plan.log
