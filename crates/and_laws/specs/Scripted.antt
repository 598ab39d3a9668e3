-- The plain state that the plan's steps give: what is live, in a blackout and held after the steps that were done.
use Rattle.std.specs.Prelude.{ℕ, List, [], ◌∷◌, take}
use Rattle.and_events.specs.declared.event.Event.{Event}
use Rattle.and_events.specs.declared.plan.Step.{Step}
use Rattle.and_events.specs.declared.plan.Plan.{Plan}
use Rattle.and_events.specs.Script.{Script, at_start}
use Rattle.and_events.specs.Sound.{after_step, sent_after}
use Rattle.and_events.specs.State.{state}

-- the plain state after steps
abbrev pub script_after_steps : Script → List Step → Script
script_after_steps p [] = p
script_after_steps p (step ∷ later) = script_after_steps (after_step p step) later

-- how many packets were injected, with those of steps
abbrev pub sent_after_steps : ℕ → List Step → ℕ
sent_after_steps sent [] = sent
sent_after_steps sent (step ∷ later) = sent_after_steps (sent_after sent step) later

-- the steps that a history has done
abbrev pub steps_done : Plan → List Event → List Step
steps_done plan h = take (state plan h).next plan.steps

-- the plain state after them
abbrev pub script_at : Plan → List Event → Script
script_at plan h = script_after_steps at_start (steps_done plan h)

-- how many packets they inject
abbrev pub sent_at : Plan → List Event → ℕ
sent_at plan h = sent_after_steps 0 (steps_done plan h)
