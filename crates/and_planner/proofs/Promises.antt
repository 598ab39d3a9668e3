-- What is true of each plan that is made.
use Rattle.std.proofs.Common.{◌≡◌, Result, Ok, Err, sym, subst}
use Rattle.std.specs.Prelude.{IfOk}
use Rattle.and_capture.specs.declared.capture.Capture.{Capture}
use Rattle.and_policy.specs.declared.memory.NoMemory.{NoMemory}
use Rattle.and_events.specs.declared.plan.Plan.{Plan}
use Rattle.and_events.specs.declared.plan.Scenario.{Scenario}
use Rattle.and_events.specs.Planned.{planned}
use Rattle.and_events.specs.Sound.{IsSound}
use Rattle.and_planner.proofs.Planned.{planned_is_sound}
use Rattle.and_planner.specs.Plans.{CanPlan}

pub sound_plan : (scenario : Scenario) (capture : Capture) → CanPlan scenario capture → (r : Result Plan NoMemory) → IfOk r (λ p. p ≡ planned scenario capture) → IfOk r (λ p. IsSound p)
sound_plan scenario capture can (Ok p) is = subst IsSound (sym is) (planned_is_sound scenario capture can.is can.few_frames)
sound_plan scenario capture can (Err e) is = tt
