-- What is accepted is not refused.
use Rattle.std.proofs.Common.{◌≡◌, ◌≢◌, ℕ, List, Some, Ok, refl, sym, ap, ◌∙◌}
use Rattle.serde_json.specs.Data.{Data}
use Rattle.and_capture.specs.declared.capture.Capture.{Capture}
use Rattle.and_capture.specs.declared.fault.CaptureFault.{CaptureFault}
use Rattle.and_capture.specs.declared.fault.CaptureFault.TheVariants as capture_faults
use Rattle.and_capture.specs.Reading.{reading}
use Rattle.and_events.specs.declared.plan.Scenario.{Scenario}
use Rattle.and_script.specs.Answers.{IsText, TellsOf}
use Rattle.and_script.specs.Grammar.{IsJson, scenario_of}
use Rattle.and_script.specs.declared.fault.ScenarioFault.{ScenarioFault}
use Rattle.and_script.specs.declared.fault.ScenarioFault.TheVariants as scenario_faults
use Rattle.and_top.specs.Inputs.{RefusedAs, CaptureRefusedAs}

same_value : (bytes : List ℕ) (d e : Data) → IsJson bytes d → IsJson bytes e → d ≡ e
same_value bytes d e a b = let both : Some d ≡ Some e = sym a.1 ∙ b.1 in cc

-- the text of a scenario has no first check that fails
not_told : (bytes : List ℕ) (s : Scenario) (fault : ScenarioFault) → IsText bytes s → TellsOf bytes fault → fault ≢ scenario_faults.NoMemory → ⊥
not_told bytes s scenario_faults.NoMemory a told other = other refl
not_told bytes s scenario_faults.NotJson a told other = let (d, json, reads) = a in told d json
not_told bytes s (scenario_faults.Field path) a told other =
    let (d, json, reads) = a in
    let (e, json', (cause, place, is, said)) = told in
    absurd (let both = sym reads ∙ ap scenario_of (same_value bytes d e json json') ∙ said in cc)
not_told bytes s (scenario_faults.Unknown path) a told other =
    let (d, json, reads) = a in
    let (e, json', (cause, place, is, said)) = told in
    absurd (let both = sym reads ∙ ap scenario_of (same_value bytes d e json json') ∙ said in cc)
not_told bytes s (scenario_faults.Range path) a told other =
    let (d, json, reads) = a in
    let (e, json', (cause, place, is, said)) = told in
    absurd (let both = sym reads ∙ ap scenario_of (same_value bytes d e json json') ∙ said in cc)
not_told bytes s (scenario_faults.Limit path) a told other =
    let (d, json, reads) = a in
    let (e, json', (cause, place, is, said)) = told in
    absurd (let both = sym reads ∙ ap scenario_of (same_value bytes d e json json') ∙ said in cc)

pub not_refused : (bytes : List ℕ) (s : Scenario) (fault : ScenarioFault) → IsText bytes s → RefusedAs fault bytes → ⊥
not_refused bytes s scenario_faults.NoMemory a r = r
not_refused bytes s scenario_faults.NotJson a r = not_told bytes s scenario_faults.NotJson a r (λ e. cc)
not_refused bytes s (scenario_faults.Field path) a r = not_told bytes s (scenario_faults.Field path) a r (λ e. cc)
not_refused bytes s (scenario_faults.Unknown path) a r = not_told bytes s (scenario_faults.Unknown path) a r (λ e. cc)
not_refused bytes s (scenario_faults.Range path) a r = not_told bytes s (scenario_faults.Range path) a r (λ e. cc)
not_refused bytes s (scenario_faults.Limit path) a r = not_told bytes s (scenario_faults.Limit path) a r (λ e. cc)

pub capture_not_refused : (bytes : List ℕ) (c : Capture) (fault : CaptureFault) → reading bytes ≡ Ok c → CaptureRefusedAs fault bytes → ⊥
capture_not_refused bytes c capture_faults.NoMemory reads r = r
capture_not_refused bytes c capture_faults.CutHeader reads r = let both = sym reads ∙ r in cc
capture_not_refused bytes c capture_faults.Magic reads r = let both = sym reads ∙ r in cc
capture_not_refused bytes c capture_faults.Major reads r = let both = sym reads ∙ r in cc
capture_not_refused bytes c capture_faults.LinkType reads r = let both = sym reads ∙ r in cc
capture_not_refused bytes c (capture_faults.CutRecord at) reads r = let both = sym reads ∙ r in cc
capture_not_refused bytes c (capture_faults.LongRecord at) reads r = let both = sym reads ∙ r in cc
capture_not_refused bytes c capture_faults.TooMany reads r = let both = sym reads ∙ r in cc
