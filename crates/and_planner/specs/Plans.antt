-- What can be planned.
use Rattle.std.specs.Prelude.{◌≤◌, length}
use Rattle.and_capture.specs.declared.capture.Capture.{Capture}
use Rattle.and_events.specs.declared.plan.Scenario.{Scenario}
use Rattle.and_planner.specs.Scenarios.{IsScenario}

-- a scenario whose numbers are in their ranges, with no more frames than captures have
pub record CanPlan (scenario : Scenario) (capture : Capture) : Type 0 where
  pub is : IsScenario scenario
  pub few_frames : length capture.frames ≤ 100000
