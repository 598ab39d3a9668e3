-- How long a run can be.
use Rattle.std.specs.Prelude.{ℕ, ◌+◌, ◌*◌, ◌≤◌, List, length}
use Rattle.and_events.specs.declared.event.Event.{Event}
use Rattle.and_events.specs.declared.plan.Plan.{Plan}
use Rattle.and_events.specs.Places.{node_count}
use Rattle.and_events.specs.Programming.{programme_at}
use Rattle.and_events.specs.State.{state}

-- no run of the plan has more events: five for a step, two for each operation of a node's programme, two for a hop of a packet
abbrev pub bound : Plan → ℕ
bound plan =
    5 * length plan.steps + 2 * (node_count plan.settings * length plan.steps) + 2 * (length plan.packets * plan.settings.hop_limit)

-- no programme has more operations, log entries and orders together, than steps were done, even with an order for each key used
-- since the last review; and no more steps were done than there are
pub record HasShortProgrammes (plan : Plan) (h : List Event) : Type 0 where
  pub programmes : (node : ℕ) → length (programme_at (state plan h).programmes node) + length (state plan h).usage ≤ (state plan h).next
  pub steps : (state plan h).next ≤ length plan.steps
