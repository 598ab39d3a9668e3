-- The two files that a replay reads, and its answers before anything is written.
use Rattle.std.specs.Prelude.{◌≡◌, ◌≤◌, ◌⊎◌, ℕ, List, length, Ok, Err}
use Rattle.and_capture.specs.declared.capture.Capture.{Capture}
use Rattle.and_capture.specs.declared.fault.CaptureFault.{CaptureFault}
use Rattle.and_capture.specs.declared.fault.CaptureFault.TheVariants as capture_faults
use Rattle.and_capture.specs.Reading.{reading}
use Rattle.and_events.specs.declared.plan.Scenario.{Scenario}
use Rattle.and_outside.specs.declared.answer.ReadAnswer.{ReadAnswer}
use Rattle.and_outside.specs.declared.answer.ReadAnswer.TheVariants as reads
use Rattle.and_outside.specs.Disk.{Disk}
use Rattle.and_script.specs.Answers.{IsText, TellsOf}
use Rattle.and_script.specs.declared.fault.ScenarioFault.{ScenarioFault}
use Rattle.and_script.specs.declared.fault.ScenarioFault.TheVariants as scenario_faults
use Rattle.and_top.specs.declared.answers.Which.{Which}
use Rattle.and_top.specs.declared.answers.Which.TheVariants as which
use Rattle.and_top.specs.declared.answers.Fault.{Fault}
use Rattle.and_top.specs.declared.answers.Fault.TheVariants as faults
use Rattle.and_top.specs.Outside.{Holds, ReadFailed, WasTooLong}
use Rattle.and_top.specs.Words.{Named}

-- ---- the limits, and what a fault of a part is for the whole

-- the most bytes of a scenario's file, and of a capture's
abbrev pub max_scenario_len : ℕ
max_scenario_len = 16777216

abbrev pub max_capture_len : ℕ
max_capture_len = 33554432

abbrev pub fault_of_read : Which → ReadAnswer → Fault
fault_of_read file reads.Failed = faults.Read file
fault_of_read file reads.TooLong = faults.TooLong file
fault_of_read file reads.NoMemory = faults.NoMemory

abbrev pub fault_of_scenario : ScenarioFault → Fault
fault_of_scenario scenario_faults.NoMemory = faults.NoMemory
fault_of_scenario fault = faults.Scenario fault

abbrev pub fault_of_capture : CaptureFault → Fault
fault_of_capture capture_faults.NoMemory = faults.NoMemory
fault_of_capture fault = faults.Capture fault

-- ---- the contents

-- the bytes are no scenario, and refused for this fault, the first check that fails
abbrev pub RefusedAs : ScenarioFault → List ℕ → Type 0
RefusedAs scenario_faults.NoMemory bytes = ⊥
RefusedAs fault bytes = TellsOf bytes fault

-- the bytes are a capture refused for this fault, the first check that fails
abbrev pub CaptureRefusedAs : CaptureFault → List ℕ → Type 0
CaptureRefusedAs capture_faults.NoMemory bytes = ⊥
CaptureRefusedAs fault bytes = reading bytes ≡ Err fault

-- some bytes, the content of this name where that is told, are this scenario
pub record ScenarioAt (files : Disk) (name : List ℕ) (scenario : Scenario) : Type 0 where
  pub bytes : List ℕ
  pub held : Holds files name bytes
  pub within : length bytes ≤ max_scenario_len
  pub text : IsText bytes scenario

-- some bytes, the content of this name where that is told, are refused for this fault
pub record NoScenarioAt (files : Disk) (name : List ℕ) (fault : ScenarioFault) : Type 0 where
  pub bytes : List ℕ
  pub held : Holds files name bytes
  pub within : length bytes ≤ max_scenario_len
  pub refused : RefusedAs fault bytes

-- some bytes, the content of this name where that is told, are this capture
pub record CaptureAt (files : Disk) (name : List ℕ) (capture : Capture) : Type 0 where
  pub bytes : List ℕ
  pub held : Holds files name bytes
  pub within : length bytes ≤ max_capture_len
  pub reads : reading bytes ≡ Ok capture

-- some bytes, the content of this name where that is told, are refused for this fault
pub record NoCaptureAt (files : Disk) (name : List ℕ) (fault : CaptureFault) : Type 0 where
  pub bytes : List ℕ
  pub held : Holds files name bytes
  pub within : length bytes ≤ max_capture_len
  pub refused : CaptureRefusedAs fault bytes

-- ---- the answers

-- the work on the scenario, whose read is the call of this number, ended with this fault
abbrev pub ScenarioFails : ℕ → Disk → Disk → List ℕ → Fault → Type 0
ScenarioFails n old new name (faults.Read which.Scenario) = ReadFailed n old new name
ScenarioFails n old new name (faults.TooLong which.Scenario) = WasTooLong n max_scenario_len old new name
ScenarioFails n old new name (faults.Scenario fault) = NoScenarioAt old name fault
ScenarioFails n old new name faults.NoMemory = Unit {0}
ScenarioFails n old new name _ = ⊥

-- the work on the capture, whose read is the call of this number, ended with this fault
abbrev pub CaptureFails : ℕ → Disk → Disk → List ℕ → Fault → Type 0
CaptureFails n old new name (faults.Read which.Capture) = ReadFailed n old new name
CaptureFails n old new name (faults.TooLong which.Capture) = WasTooLong n max_capture_len old new name
CaptureFails n old new name (faults.Capture fault) = NoCaptureAt old name fault
CaptureFails n old new name faults.NoMemory = Unit {0}
CaptureFails n old new name _ = ⊥

-- The work ended with this fault before anything was written: on the scenario, in the first read, or, after the scenario was read and taken, on the
-- capture, in the second
abbrev pub Refuses : Named → Disk → Disk → Fault → Type 0
Refuses names old new fault =
    ScenarioFails 1 old new names.scenario fault
    ⊎ ((scenario : Scenario) × ScenarioAt old names.scenario scenario × CaptureFails 2 old new names.capture fault)
