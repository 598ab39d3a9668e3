-- What the two files tell decides the answer, where no read failed: but for memory and writes.
use Rattle.std.proofs.Common.{◌≡◌, ◌≤◌, ◌<◌, ℕ, List, length, true, Some, Result, Ok, Err, IfErr, subst, refl, arith, ◌⊎◌, inl, inr}
use Rattle.and_outside.specs.Causes.{Rose}
use Rattle.and_outside.specs.Disk.{Disk}
use Rattle.and_script.specs.Answers.{IsText}
use Rattle.and_script.specs.declared.fault.ScenarioFault.{ScenarioFault}
use Rattle.and_capture.specs.declared.fault.CaptureFault.{CaptureFault}
use Rattle.and_capture.specs.Reading.{reading}
use Rattle.and_top.specs.declared.answers.Fault.{Fault}
use Rattle.and_top.specs.declared.answers.Fault.TheVariants as faults
use Rattle.and_top.specs.declared.answers.Which.TheVariants as which
use Rattle.and_top.specs.Answers.{Answers, Done}
use Rattle.and_top.specs.Inputs.{max_scenario_len, max_capture_len, RefusedAs, CaptureRefusedAs, ScenarioAt, NoScenarioAt, CaptureAt, NoCaptureAt, ScenarioFails, CaptureFails, Refuses}
use Rattle.and_top.specs.Outside.{IsQuiet, ReadFailed, WasTooLong}
use Rattle.and_top.specs.Statuses.{TellsScenario, TellsCapture, TellsNoScenario, TellsNoCapture, CanComplete, MustRefuseScenario, MustRefuseCapture, RefusesScenario, RefusesCapture, IsLate, fault_status}
use Rattle.and_outside.specs.Stream.{Stream}
use Rattle.and_top.specs.Words.{Named}
use Rattle.and_top.proofs.Refusing.{not_refused, capture_not_refused}

-- ---- reads that cannot have failed

no_read_failed : (n : ℕ) (old new : Disk) (name t : List ℕ) → old.content name ≡ Some t → IsQuiet old new → ReadFailed n old new name → ⊥
no_read_failed n old new name t told (inl calm) failed = failed.never t told calm
no_read_failed n old new name t told (inr none) failed =
    let since : old.read_faults ≤ new.before.read_faults = failed.call.read_faults in
    let rose : Rose new.before.read_faults new.read_faults = failed.rose in
    let r : Rose old.read_faults new.read_faults = omega arith in
    none r

quiet_last : (n limit : ℕ) (old new : Disk) (name : List ℕ) → IsQuiet old new → WasTooLong n limit old new name → (old.calm ≡ true) ⊎ (¬ Rose new.before.read_faults new.read_faults)
quiet_last n limit old new name (inl calm) long = inl calm
quiet_last n limit old new name (inr none) long =
    inr (λ rose.
    let since : old.read_faults ≤ new.before.read_faults = long.call.read_faults in
    let r : Rose old.read_faults new.read_faults = omega arith in
    none r)

not_too_long : (n limit : ℕ) (old new : Disk) (name t : List ℕ) → old.content name ≡ Some t → length t ≤ limit → IsQuiet old new → WasTooLong n limit old new name → ⊥
not_too_long n limit old new name t told within quiet long =
    let more : limit < length t = long.longer t told (quiet_last n limit old new name quiet long) in
    omega arith

-- ---- what is told is what was read

scenario_taken : (names : Named) (old : Disk) (fault : ScenarioFault) → TellsScenario names old → NoScenarioAt old names.scenario fault → ⊥
scenario_taken names old fault tells at =
    not_refused tells.text tells.scenario fault tells.is_text (subst (RefusedAs fault) (at.held tells.text tells.told) at.refused)

capture_taken : (names : Named) (old : Disk) (fault : CaptureFault) → TellsCapture names old → NoCaptureAt old names.capture fault → ⊥
capture_taken names old fault tells at =
    capture_not_refused tells.file tells.capture fault tells.reads (subst (CaptureRefusedAs fault) (at.held tells.file tells.told) at.refused)

-- ---- faults that leave memory alone

abbrev IsMemory : Fault → Type 0
IsMemory faults.NoMemory = Unit {0}
IsMemory _ = ⊥

scenario_memory : (names : Named) (old new : Disk) (fault : Fault) → TellsScenario names old → IsQuiet old new → ScenarioFails 1 old new names.scenario fault → IsMemory fault
scenario_memory names old new (faults.Read which.Scenario) tells quiet f = no_read_failed 1 old new names.scenario tells.text tells.told quiet f
scenario_memory names old new (faults.TooLong which.Scenario) tells quiet f = not_too_long 1 max_scenario_len old new names.scenario tells.text tells.told tells.within quiet f
scenario_memory names old new (faults.Scenario fault) tells quiet f = scenario_taken names old fault tells f
scenario_memory names old new faults.NoMemory tells quiet f = tt
scenario_memory names old new _ tells quiet f = absurd f

capture_memory : (names : Named) (old new : Disk) (fault : Fault) → TellsCapture names old → IsQuiet old new → CaptureFails 2 old new names.capture fault → IsMemory fault
capture_memory names old new (faults.Read which.Capture) tells quiet f = no_read_failed 2 old new names.capture tells.file tells.told quiet f
capture_memory names old new (faults.TooLong which.Capture) tells quiet f = not_too_long 2 max_capture_len old new names.capture tells.file tells.told tells.within quiet f
capture_memory names old new (faults.Capture fault) tells quiet f = capture_taken names old fault tells f
capture_memory names old new faults.NoMemory tells quiet f = tt
capture_memory names old new _ tells quiet f = absurd f

late : (fault : Fault) → IsMemory fault → IsLate fault
late faults.NoMemory memory = tt
late _ memory = absurd memory

done_late : (names : Named) (old new : Disk) (before after : Stream) (fault : Fault) → Done names old new before after (Err fault) → IsLate fault
done_late names old new before after (faults.Write which.Trace) f = tt
done_late names old new before after (faults.Write which.Delivered) f = tt
done_late names old new before after (faults.Write which.Underlay) f = tt
done_late names old new before after (faults.Write which.Report) f = tt
done_late names old new before after fault f = absurd f.1

refused_late : (names : Named) (old new : Disk) (fault : Fault) → CanComplete names old new → Refuses names old new fault → IsLate fault
refused_late names old new fault can (inl f) = late fault (scenario_memory names old new fault can.scenario can.quiet f)
refused_late names old new fault can (inr f) = late fault (capture_memory names old new fault can.capture can.quiet f.2)

pub completes : (names : Named) (old new : Disk) (before after : Stream) (result : Result (Unit {0}) Fault)
    → CanComplete names old new → Answers names old new before after result → IfErr result IsLate
completes names old new before after (Ok done) can a = tt
completes names old new before after (Err fault) can (inl a) = refused_late names old new fault can a.0
completes names old new before after (Err fault) can (inr a) = done_late names old new before after fault a

-- ---- refusals that must come

no_run : {X : Type 0} (names : Named) (old : Disk) → TellsNoScenario names old → {scenario : _} → ScenarioAt old names.scenario scenario → X
no_run names old tells at =
    absurd (not_refused tells.text _ tells.fault (subst (λ bytes. IsText bytes _) (at.held tells.text tells.told) at.text) tells.refused)

no_run_of : {X : Type 0} (names : Named) (old : Disk) → TellsNoCapture names old → {capture : _} → CaptureAt old names.capture capture → X
no_run_of names old tells at =
    absurd (capture_not_refused tells.file _ tells.fault (subst (λ bytes. reading bytes ≡ Ok _) (at.held tells.file tells.told) at.reads) tells.refused)

scenario_only : (names : Named) (old new : Disk) (fault : Fault) → TellsNoScenario names old → IsQuiet old new → ScenarioFails 1 old new names.scenario fault → RefusesScenario (Err fault)
scenario_only names old new (faults.Read which.Scenario) tells quiet f = no_read_failed 1 old new names.scenario tells.text tells.told quiet f
scenario_only names old new (faults.TooLong which.Scenario) tells quiet f = not_too_long 1 max_scenario_len old new names.scenario tells.text tells.told tells.within quiet f
scenario_only names old new (faults.Scenario fault) tells quiet f = tt
scenario_only names old new faults.NoMemory tells quiet f = tt
scenario_only names old new _ tells quiet f = absurd f

pub refuses_scenario : (names : Named) (old new : Disk) (before after : Stream) (result : Result (Unit {0}) Fault)
    → MustRefuseScenario names old new → Answers names old new before after result → RefusesScenario result
refuses_scenario names old new before after (Ok done) must a = no_run names old must.scenario a.0.scenario_at
refuses_scenario names old new before after (Err fault) must (inl (inl f, kept, same)) = scenario_only names old new fault must.scenario must.quiet f
refuses_scenario names old new before after (Err fault) must (inl (inr f, kept, same)) = no_run names old must.scenario f.1
refuses_scenario names old new before after (Err fault) must (inr a) = no_run names old must.scenario a.0.scenario_at

capture_only : (names : Named) (old new : Disk) (fault : Fault) → TellsNoCapture names old → IsQuiet old new → CaptureFails 2 old new names.capture fault → RefusesCapture (Err fault)
capture_only names old new (faults.Read which.Capture) tells quiet f = no_read_failed 2 old new names.capture tells.file tells.told quiet f
capture_only names old new (faults.TooLong which.Capture) tells quiet f = not_too_long 2 max_capture_len old new names.capture tells.file tells.told tells.within quiet f
capture_only names old new (faults.Capture fault) tells quiet f = tt
capture_only names old new faults.NoMemory tells quiet f = tt
capture_only names old new _ tells quiet f = absurd f

memory_refuses : (fault : Fault) → IsMemory fault → RefusesCapture (Err fault)
memory_refuses faults.NoMemory memory = tt
memory_refuses _ memory = absurd memory

pub refuses_capture : (names : Named) (old new : Disk) (before after : Stream) (result : Result (Unit {0}) Fault)
    → MustRefuseCapture names old new → Answers names old new before after result → RefusesCapture result
refuses_capture names old new before after (Ok done) must a = no_run_of names old must.capture a.0.capture_at
refuses_capture names old new before after (Err fault) must (inl (inl f, kept, same)) = memory_refuses fault (scenario_memory names old new fault must.scenario must.quiet f)
refuses_capture names old new before after (Err fault) must (inl (inr f, kept, same)) = capture_only names old new fault must.capture must.quiet f.2
refuses_capture names old new before after (Err fault) must (inr a) = no_run_of names old must.capture a.0.capture_at

-- ---- statuses

-- the status of words that are no command is no fault's
pub no_usage : (fault : Fault) → fault_status fault ≡ 1 → ⊥
no_usage (faults.Scenario f) e = cc
no_usage (faults.Capture f) e = cc
no_usage (faults.Read file) e = cc
no_usage (faults.Write file) e = cc
no_usage (faults.TooLong file) e = cc
no_usage faults.NoMemory e = cc

pub late_status : (fault : Fault) → IsLate fault → (fault_status fault ≡ 0) ⊎ ((fault_status fault ≡ 5) ⊎ (fault_status fault ≡ 6))
late_status (faults.Write which.Trace) late = inr (inl refl)
late_status (faults.Write which.Delivered) late = inr (inl refl)
late_status (faults.Write which.Underlay) late = inr (inl refl)
late_status (faults.Write which.Report) late = inr (inl refl)
late_status faults.NoMemory late = inr (inr refl)
late_status fault late = absurd late

pub scenario_status : (fault : Fault) → RefusesScenario (Err fault) → (fault_status fault ≡ 2) ⊎ (fault_status fault ≡ 6)
scenario_status (faults.Scenario f) refuses = inl refl
scenario_status faults.NoMemory refuses = inr refl
scenario_status fault refuses = absurd refuses

pub capture_status : (fault : Fault) → RefusesCapture (Err fault) → (fault_status fault ≡ 3) ⊎ (fault_status fault ≡ 6)
capture_status (faults.Capture f) refuses = inl refl
capture_status faults.NoMemory refuses = inr refl
capture_status fault refuses = absurd refuses
