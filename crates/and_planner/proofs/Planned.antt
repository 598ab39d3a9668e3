-- What a scenario and a capture plan is sound.
use Rattle.std.proofs.Common.{◌≤◌, [], ◌∷◌, ◌++◌, length, refl, sym, subst, arith, length-append, append-nil}
use Rattle.and_capture.specs.declared.capture.Capture.{Capture}
use Rattle.and_events.specs.declared.plan.Plan.{Plan}
use Rattle.and_events.specs.declared.plan.Step.TheVariants as steps
use Rattle.and_events.specs.declared.plan.Scenario.{Scenario}
use Rattle.and_events.specs.Planned.{Planning, nothing_planned, items_applied, frees, plan_from, planned}
use Rattle.and_events.specs.Script.{at_start}
use Rattle.and_events.specs.Sound.{IsSound, EndsWell}
use Rattle.and_planner.specs.Scenarios.{IsScenario}
use Rattle.and_planner.proofs.Walks.{Walk, walk_on, walk_fits}
use Rattle.and_planner.proofs.Frees.{all_freed, few_frees}
use Rattle.and_planner.proofs.Items.{Goes, items_go, nothing_goes}

-- from what the items gave to the end
sound_from : (scenario : Scenario) (capture : Capture) (p : Planning) → IsScenario scenario → length capture.frames ≤ 100000
    → Goes scenario.settings (length scenario.names) (length capture.frames) (length scenario.items) p → IsSound (plan_from scenario capture p)
sound_from scenario capture p is few g =
    let plan : Plan = plan_from scenario capture p in
    let (d, w, log, holds) = all_freed (plan_from scenario capture p) p.script (length p.packets) g.nodes in
    let ends : EndsWell (plan_from scenario capture p) d (length p.packets) = record { holds = holds; log = log; packets = refl } in
    let all : Walk (plan_from scenario capture p) at_start 0 (p.steps ++ frees scenario.settings p.script) d (length p.packets) =
    walk_on (plan_from scenario capture p) at_start 0 p.steps p.script (length p.packets) (frees scenario.settings p.script) d (length p.packets)
    (g.walk (plan_from scenario capture p) refl refl [] (sym (append-nil p.packets))) w in
    let some_frees = few_frees scenario.settings p.script in
    let hosts = is.settings.hosts.1 in
    let gateways = is.settings.gateways.1 in
    let items = is.few in
    let so_far = g.steps in
    let sent = g.packets in
    record {
      settings = is.settings;
      names = is.names;
      few_steps = rw (length-append (p.steps ++ frees scenario.settings p.script) (steps.Finish ∷ []), length-append p.steps (frees scenario.settings p.script))
          (grind (arith, some_frees, hosts, gateways, items, so_far, few));
      few_packets = grind (arith, sent, few);
      steps = walk_fits (plan_from scenario capture p) at_start 0 (p.steps ++ frees scenario.settings p.script) d (length p.packets) all ends;
    }

pub planned_is_sound : (scenario : Scenario) (capture : Capture) → IsScenario scenario → length capture.frames ≤ 100000 → IsSound (planned scenario capture)
unfolding planned
planned_is_sound scenario capture is few =
    sound_from scenario capture (items_applied scenario.settings 0 scenario.items (nothing_planned capture.frames)) is few
    (subst (λ n. Goes scenario.settings (length scenario.names) (length capture.frames) n (items_applied scenario.settings 0 scenario.items (nothing_planned capture.frames))) (grind arith)
    (items_go scenario.settings (length scenario.names) (length capture.frames) 0 scenario.items (nothing_planned capture.frames) is.items
    (nothing_goes scenario.settings (length scenario.names) capture.frames)))
