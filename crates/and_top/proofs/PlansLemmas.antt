-- Scenarios and captures that were read can be planned.
use Rattle.std.proofs.Common.{◌≡◌, ℕ, List, Ok}
use Rattle.and_capture.specs.declared.capture.Capture.{Capture}
use Rattle.and_capture.specs.Reading.{reading}
use Rattle.and_events.specs.declared.plan.Scenario.{Scenario}
use Rattle.and_script.specs.Answers.{IsText}
use Rattle.and_script.proofs.Plannable.{scenario_fits}
use Rattle.and_planner.specs.Plans.{CanPlan}
use Rattle.and_top.proofs.Bounds.{few_frames}

pub can_plan : (text file : List ℕ) (scenario : Scenario) (capture : Capture) → IsText text scenario → reading file ≡ Ok capture → CanPlan scenario capture
can_plan text file scenario capture is_text read =
    let (value, json, reads) = is_text in
    record { is = (scenario_fits value scenario reads).0; few_frames = few_frames file capture read }
