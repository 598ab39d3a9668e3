-- The items of a script one after another, and the end of a plan.
use Rattle.std.proofs.Common.{◌≡◌, ◌<◌, ◌+◌, ℕ, suc, List, [], ◌∷◌, ◌++◌, length, drop, get_or, refl, ap, sym, ◌∙◌, add-one}
use Rattle.std.proofs.Math.Seq.{drop-cons}
use Rattle.and_capture.specs.declared.capture.Capture.{Capture}
use Rattle.and_policy.specs.declared.entry.Entry.{Entry}
use Rattle.and_events.specs.declared.plan.Item.{Item}
use Rattle.and_events.specs.declared.plan.Settings.{Settings}
use Rattle.and_events.specs.declared.plan.Scenario.{Scenario}
use Rattle.and_events.specs.declared.plan.Step.{Step}
use Rattle.and_events.specs.declared.plan.Step.TheVariants.{Finish}
use Rattle.and_events.specs.Planned.{Planning, planned, plan_from, items_applied, item_applied, nothing_planned, frees}
use Rattle.and_events.specs.Script.{item_fault}
use Rattle.and_planner.specs.declared.planner.Planner.{Planner}
use Rattle.and_planner.specs.Planners.{planning_of}

-- one item more
pub items-step : (s t : Settings) (n : ℕ) (items : List Item) (d : Item) (p q all : Planning) → t ≡ s → n < length items
    → items_applied s n (drop n items) p ≡ all → q ≡ item_applied n p (get_or items n d) (item_fault t p.script (get_or items n d))
    → items_applied s (n + 1) (drop (n + 1) items) q ≡ all
items-step s t n items d p q all same within so_far step =
    let before : items_applied s n (get_or items n d ∷ drop (suc n) items) p ≡ all = ap (λ xs. items_applied s n xs p) (sym (drop-cons items n d within)) ∙ so_far in
    rw (add-one, step, same) before

-- the plan, from what the items gave
pub plan_made : (scenario : Scenario) (capture : Capture) (p : Planner) (steps : List Step) (log : List Entry) (frames unsent : ℕ)
    → planning_of p ≡ items_applied scenario.settings 0 scenario.items (nothing_planned capture.frames)
    → steps ≡ p.steps ++ frees scenario.settings p.state.script ++ Finish ∷ [] → log ≡ p.state.script.log → frames ≡ length capture.frames → unsent ≡ length p.frames.items
    → record { settings = scenario.settings; steps = steps; log = log; packets = p.packets; refused = p.refused; skipped = p.skipped; frames = frames; unsent = unsent; nanos = capture.nanos; names = scenario.names }
    ≡ planned scenario capture
unfolding planned
plan_made scenario capture p steps log frames unsent planning steps_are log_is frames_are unsent_are =
    let e : record { settings = scenario.settings; steps = steps; log = log; packets = p.packets; refused = p.refused; skipped = p.skipped; frames = frames; unsent = unsent; nanos = capture.nanos; names = scenario.names } ≡ plan_from scenario capture (planning_of p) =
    rw (steps_are, log_is, frames_are, unsent_are) refl in
    e ∙ ap (plan_from scenario capture) planning
