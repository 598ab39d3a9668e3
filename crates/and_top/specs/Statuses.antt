-- The statuses of the program, and what it says to the user.
use Rattle.std.specs.Prelude.{◌≡◌, ◌≤◌, ℕ, List, [], ◌∷◌, ◌++◌, length, codes, Some, Result, Ok, Err}
use Rattle.and_capture.specs.declared.capture.Capture.{Capture}
use Rattle.and_events.specs.declared.plan.Scenario.{Scenario}
use Rattle.and_top.specs.declared.answers.Which.{Which}
use Rattle.and_top.specs.declared.answers.Which.TheVariants as which
use Rattle.and_top.specs.declared.answers.Fault.{Fault}
use Rattle.and_top.specs.declared.answers.Fault.TheVariants as faults
use Rattle.and_top.specs.Answers.{Answers}
use Rattle.and_capture.specs.declared.fault.CaptureFault.{CaptureFault}
use Rattle.and_capture.specs.declared.fault.CaptureFault.TheVariants as capture_faults
use Rattle.and_capture.specs.Reading.{reading}
use Rattle.and_outside.specs.Disk.{Disk}
use Rattle.and_script.specs.Answers.{IsText}
use Rattle.and_script.specs.declared.fault.ScenarioFault.{ScenarioFault}
use Rattle.and_script.specs.declared.fault.ScenarioFault.TheVariants as scenario_faults
use Rattle.and_top.specs.Inputs.{max_scenario_len, max_capture_len, RefusedAs, CaptureRefusedAs}
use Rattle.and_top.specs.Outside.{IsQuiet}
use Rattle.std.specs.Fmt.{decimal}
use Rattle.and_outside.specs.Stream.{Stream}
use Rattle.and_top.specs.Telling.{Tells}
use Rattle.and_top.specs.Words.{Named}

-- the status of each fault; 1 is that of words that are no command
abbrev pub fault_status : Fault → ℕ
fault_status (faults.Scenario fault) = 2
fault_status (faults.Capture fault) = 3
fault_status (faults.Read file) = 4
fault_status (faults.Write file) = 5
fault_status faults.NoMemory = 6
fault_status (faults.TooLong file) = 7

abbrev pub status_of : Result (Unit {0}) Fault → ℕ
status_of (Ok done) = 0
status_of (Err fault) = fault_status fault

-- the file's name as it is given to the files; the report has none
abbrev pub file_name : Named → Which → List ℕ
file_name names which.Scenario = names.scenario
file_name names which.Capture = names.capture
file_name names which.Trace = names.out ++ codes ".trace"
file_name names which.Delivered = names.out ++ codes ".delivered.pcap"
file_name names which.Underlay = names.out ++ codes ".underlay.pcap"
file_name names which.Report = codes "output"

abbrev pub usage_text : List ℕ
usage_text = codes "usage: andromeda replay SCENARIO CAPTURE OUT" ++ 10 ∷ []

-- the line of a refused scenario: the check that failed first, and the path of the value where it failed. The last is never answered
abbrev pub scenario_line : ScenarioFault → List ℕ
scenario_line scenario_faults.NotJson = codes "scenario: NotJson" ++ 10 ∷ []
scenario_line (scenario_faults.Field path) = codes "scenario: Field " ++ (path ++ 10 ∷ [])
scenario_line (scenario_faults.Unknown path) = codes "scenario: Unknown " ++ (path ++ 10 ∷ [])
scenario_line (scenario_faults.Range path) = codes "scenario: Range " ++ (path ++ 10 ∷ [])
scenario_line (scenario_faults.Limit path) = codes "scenario: Limit " ++ (path ++ 10 ∷ [])
scenario_line scenario_faults.NoMemory = codes "no memory" ++ 10 ∷ []

-- the line of a refused capture: the check that failed first, and, of a record, its place in decimal digits. The last is never answered
abbrev pub capture_text : CaptureFault → List ℕ → List ℕ
capture_text capture_faults.CutHeader place = codes "capture: CutHeader" ++ 10 ∷ []
capture_text capture_faults.Magic place = codes "capture: Magic" ++ 10 ∷ []
capture_text capture_faults.Major place = codes "capture: Major" ++ 10 ∷ []
capture_text capture_faults.LinkType place = codes "capture: LinkType" ++ 10 ∷ []
capture_text (capture_faults.CutRecord at) place = codes "capture: CutRecord " ++ (place ++ 10 ∷ [])
capture_text (capture_faults.LongRecord at) place = codes "capture: LongRecord " ++ (place ++ 10 ∷ [])
capture_text capture_faults.TooMany place = codes "capture: TooMany" ++ 10 ∷ []
capture_text capture_faults.NoMemory place = codes "no memory" ++ 10 ∷ []

-- how many bytes stand before the record that was refused
abbrev pub place_in : CaptureFault → ℕ
place_in (capture_faults.CutRecord at) = at
place_in (capture_faults.LongRecord at) = at
place_in _ = 0

abbrev pub capture_line : CaptureFault → List ℕ
capture_line fault = capture_text fault (decimal (place_in fault))

-- the line of each fault
abbrev pub fault_line : Named → Fault → List ℕ
fault_line names (faults.Scenario fault) = scenario_line fault
fault_line names (faults.Capture fault) = capture_line fault
fault_line names (faults.Read file) = codes "read failed: " ++ (file_name names file ++ 10 ∷ [])
fault_line names (faults.Write file) = codes "write failed: " ++ (file_name names file ++ 10 ∷ [])
fault_line names (faults.TooLong file) = codes "too long: " ++ (file_name names file ++ 10 ∷ [])
fault_line names faults.NoMemory = codes "no memory" ++ 10 ∷ []

-- nothing is said of an Ok; of a fault its line
abbrev pub Says : Named → Result (Unit {0}) Fault → Stream → Stream → Type 0
Says names (Ok done) old new = new ≡ old
Says names (Err fault) old new = Tells 3 (fault_line names fault) old new

-- A replay was done between these states of the files, of the report's sink and of the user's, and this is its status.
pub record Replayed (names : Named) (old new : Disk) (before after err_before err_after : Stream) (status : ℕ) : Type 0 where
  pub answer : Result (Unit {0}) Fault
  pub answers : Answers names old new before after answer
  pub status_is : status ≡ status_of answer
  pub says : Says names answer err_before err_after

-- The scenario is told, within its limit, and accepted
pub record TellsScenario (names : Named) (old : Disk) : Type 0 where
  pub text : List ℕ
  pub told : old.content names.scenario ≡ Some text
  pub within : length text ≤ max_scenario_len
  pub scenario : Scenario
  pub is_text : IsText text scenario

-- The capture is told, within its limit, and accepted
pub record TellsCapture (names : Named) (old : Disk) : Type 0 where
  pub file : List ℕ
  pub told : old.content names.capture ≡ Some file
  pub within : length file ≤ max_capture_len
  pub capture : Capture
  pub reads : reading file ≡ Ok capture

-- The scenario is told, within its limit, and refused
pub record TellsNoScenario (names : Named) (old : Disk) : Type 0 where
  pub text : List ℕ
  pub told : old.content names.scenario ≡ Some text
  pub within : length text ≤ max_scenario_len
  pub fault : ScenarioFault
  pub refused : RefusedAs fault text

-- The capture is told, within its limit, and refused
pub record TellsNoCapture (names : Named) (old : Disk) : Type 0 where
  pub file : List ℕ
  pub told : old.content names.capture ≡ Some file
  pub within : length file ≤ max_capture_len
  pub fault : CaptureFault
  pub refused : CaptureRefusedAs fault file

-- Both files are told, within their limits and accepted, and no read can have failed.
pub record CanComplete (names : Named) (old new : Disk) : Type 0 where
  pub scenario : TellsScenario names old
  pub capture : TellsCapture names old
  pub quiet : IsQuiet old new

-- The scenario is refused, and no read can have failed
pub record MustRefuseScenario (names : Named) (old new : Disk) : Type 0 where
  pub scenario : TellsNoScenario names old
  pub quiet : IsQuiet old new

-- The scenario is accepted and the capture is refused, and no read can have failed
pub record MustRefuseCapture (names : Named) (old new : Disk) : Type 0 where
  pub scenario : TellsScenario names old
  pub capture : TellsNoCapture names old
  pub quiet : IsQuiet old new

-- want of memory, or a write failed
abbrev pub IsLate : Fault → Type 0
IsLate faults.NoMemory = Unit {0}
IsLate (faults.Write which.Trace) = Unit {0}
IsLate (faults.Write which.Delivered) = Unit {0}
IsLate (faults.Write which.Underlay) = Unit {0}
IsLate (faults.Write which.Report) = Unit {0}
IsLate _ = ⊥

-- the scenario was refused, or memory was wanting; nothing else
abbrev pub RefusesScenario : Result (Unit {0}) Fault → Type 0
RefusesScenario (Err (faults.Scenario fault)) = Unit {0}
RefusesScenario (Err faults.NoMemory) = Unit {0}
RefusesScenario _ = ⊥

-- the capture was refused, or memory was wanting; nothing else
abbrev pub RefusesCapture : Result (Unit {0}) Fault → Type 0
RefusesCapture (Err (faults.Capture fault)) = Unit {0}
RefusesCapture (Err faults.NoMemory) = Unit {0}
RefusesCapture _ = ⊥
