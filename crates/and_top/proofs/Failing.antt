-- Reads that fail, refusals, and what a fault of the second read tells of the whole call.
use Rattle.std.proofs.Common.{◌≡◌, ◌≢◌, ◌≤◌, ◌∙◌, ℕ, List, length, Some, Err, true, refl, arith, inl, inr, ◌⊎◌}
use Rattle.and_capture.specs.declared.capture.Capture.{Capture}
use Rattle.and_capture.specs.declared.fault.CaptureFault.{CaptureFault}
use Rattle.and_capture.specs.declared.fault.CaptureFault.TheVariants as capture_faults
use Rattle.and_capture.specs.Reading.{reading}
use Rattle.and_outside.specs.Causes.{Rose, RoseBy, TellsLength, raised}
use Rattle.and_outside.specs.Disk.{Disk, counts_of}
use Rattle.and_outside.specs.declared.answer.ReadAnswer.{ReadAnswer}
use Rattle.and_outside.specs.declared.answer.ReadAnswer.TheVariants as reads
use Rattle.and_script.specs.Answers.{TellsOf}
use Rattle.and_script.specs.declared.fault.ScenarioFault.{ScenarioFault}
use Rattle.and_script.specs.declared.fault.ScenarioFault.TheVariants as scenario_faults
use Rattle.and_top.specs.declared.answers.Fault.{Fault}
use Rattle.and_top.specs.declared.answers.Fault.TheVariants as faults
use Rattle.and_top.specs.declared.answers.Which.TheVariants as which
use Rattle.and_top.specs.Inputs.{max_scenario_len, max_capture_len, CaptureAt, NoCaptureAt, ScenarioFails, CaptureFails, fault_of_read, fault_of_scenario, fault_of_capture}
use Rattle.and_top.specs.Outside.{Calls, Stays, Holds, ReadFailed, WasTooLong}

-- ---- how many calls were made

pub calls_one : (old new : Disk) → new.calls ≡ raised 1 old.calls → new.before ≡ counts_of old → Calls 1 old new
calls_one old new number before =
    record {
      number = number;
      read_faults = rw before (omega arith);
      write_faults = rw before (omega arith);
      taken = rw before (omega arith);
    }

pub calls_two : (old mid new : Disk) → Stays old mid → Calls 1 old mid → Calls 1 mid new → Calls 2 old new
calls_two old mid new stays one more =
    let a = one.number in
    let b = more.number in
    let c = stays.read_faults in
    let d = more.read_faults in
    let e = stays.write_faults in
    let f = more.write_faults in
    let g = stays.taken in
    let h = more.taken in
    record { number = omega (arith, a, b); read_faults = omega (arith, c, d); write_faults = omega (arith, e, f); taken = omega (arith, g, h) }

-- ---- one read

-- what the files' own clauses say of a read that did not succeed
pub record ReadRefused (limit : ℕ) (old new : Disk) (name : List ℕ) (answer : ReadAnswer) : Type 0 where
  pub calls : new.calls ≡ raised 1 old.calls
  pub before : new.before ≡ counts_of old
  pub failed : answer ≡ reads.Failed → Rose old.read_faults new.read_faults
  pub calm_told : (t : List ℕ) → old.content name ≡ Some t → old.calm ≡ true → answer ≢ reads.Failed
  pub too_long : answer ≡ reads.TooLong → RoseBy limit old.taken new.taken
  pub exact : (t : List ℕ) → old.content name ≡ Some t → (old.calm ≡ true) ⊎ (¬ Rose old.read_faults new.read_faults) → TellsLength answer limit (length t)

read_failed : (limit : ℕ) (old new : Disk) (name : List ℕ) → ReadRefused limit old new name reads.Failed → ReadFailed 1 old new name
read_failed limit old new name r =
    record { call = calls_one old new r.calls r.before; rose = rw r.before (r.failed refl); never = λ t told calm. r.calm_told t told calm refl }

was_too_long : (limit : ℕ) (old new : Disk) (name : List ℕ) → ReadRefused limit old new name reads.TooLong → WasTooLong 1 limit old new name
was_too_long limit old new name r =
    record { call = calls_one old new r.calls r.before; taken = rw r.before (r.too_long refl); longer = rw r.before r.exact }

pub scenario_unread : (old new : Disk) (name : List ℕ) (answer : ReadAnswer) → ReadRefused max_scenario_len old new name answer → ScenarioFails 1 old new name (fault_of_read which.Scenario answer)
scenario_unread old new name reads.Failed r = read_failed max_scenario_len old new name r
scenario_unread old new name reads.TooLong r = was_too_long max_scenario_len old new name r
scenario_unread old new name reads.NoMemory r = tt

pub capture_unread : (old new : Disk) (name : List ℕ) (answer : ReadAnswer) → ReadRefused max_capture_len old new name answer → CaptureFails 1 old new name (fault_of_read which.Capture answer)
capture_unread old new name reads.Failed r = read_failed max_capture_len old new name r
capture_unread old new name reads.TooLong r = was_too_long max_capture_len old new name r
capture_unread old new name reads.NoMemory r = tt

-- ---- what was read and is refused

pub scenario_refused : (old new : Disk) (name bytes : List ℕ) (fault : ScenarioFault) → Holds old name bytes → length bytes ≤ max_scenario_len → TellsOf bytes fault
    → ScenarioFails 1 old new name (fault_of_scenario fault)
scenario_refused old new name bytes scenario_faults.NoMemory held within r = tt
scenario_refused old new name bytes scenario_faults.NotJson held within r = record { bytes = bytes; held = held; within = within; refused = r }
scenario_refused old new name bytes (scenario_faults.Field path) held within r = record { bytes = bytes; held = held; within = within; refused = r }
scenario_refused old new name bytes (scenario_faults.Unknown path) held within r = record { bytes = bytes; held = held; within = within; refused = r }
scenario_refused old new name bytes (scenario_faults.Range path) held within r = record { bytes = bytes; held = held; within = within; refused = r }
scenario_refused old new name bytes (scenario_faults.Limit path) held within r = record { bytes = bytes; held = held; within = within; refused = r }

pub capture_refused : (old new : Disk) (name bytes : List ℕ) (fault : CaptureFault) → Holds old name bytes → length bytes ≤ max_capture_len
    → (fault ≢ capture_faults.NoMemory → reading bytes ≡ Err fault) → CaptureFails 1 old new name (fault_of_capture fault)
capture_refused old new name bytes capture_faults.NoMemory held within r = tt
capture_refused old new name bytes capture_faults.CutHeader held within r = record { bytes = bytes; held = held; within = within; refused = r (λ e. cc) }
capture_refused old new name bytes capture_faults.Magic held within r = record { bytes = bytes; held = held; within = within; refused = r (λ e. cc) }
capture_refused old new name bytes capture_faults.Major held within r = record { bytes = bytes; held = held; within = within; refused = r (λ e. cc) }
capture_refused old new name bytes capture_faults.LinkType held within r = record { bytes = bytes; held = held; within = within; refused = r (λ e. cc) }
capture_refused old new name bytes (capture_faults.CutRecord at) held within r = record { bytes = bytes; held = held; within = within; refused = r (λ e. cc) }
capture_refused old new name bytes (capture_faults.LongRecord at) held within r = record { bytes = bytes; held = held; within = within; refused = r (λ e. cc) }
capture_refused old new name bytes capture_faults.TooMany held within r = record { bytes = bytes; held = held; within = within; refused = r (λ e. cc) }

-- ---- the second read, told from the beginning of the call

held_before : (old mid : Disk) (name bytes : List ℕ) → Stays old mid → Holds mid name bytes → Holds old name bytes
held_before old mid name bytes stays held t told = held t (stays.contents name ∙ told)

pub capture_before : (old mid : Disk) (name : List ℕ) (capture : Capture) → Stays old mid → CaptureAt mid name capture → CaptureAt old name capture
capture_before old mid name capture stays at = record { bytes = at.bytes; held = held_before old mid name at.bytes stays at.held; within = at.within; reads = at.reads }

failed_later : (old mid new : Disk) (name : List ℕ) → Stays old mid → Calls 1 old mid → ReadFailed 1 mid new name → ReadFailed 2 old new name
failed_later old mid new name stays one f =
    record { call = calls_two old mid new stays one f.call; rose = f.rose; never = λ t told calm. f.never t (stays.contents name ∙ told) (stays.calm calm) }

quiet_later : (old mid new : Disk) → Stays old mid → (old.calm ≡ true) ⊎ (¬ Rose new.before.read_faults new.read_faults)
    → (mid.calm ≡ true) ⊎ (¬ Rose new.before.read_faults new.read_faults)
quiet_later old mid new stays (inl calm) = inl (stays.calm calm)
quiet_later old mid new stays (inr none) = inr none

too_long_later : (limit : ℕ) (old mid new : Disk) (name : List ℕ) → Stays old mid → Calls 1 old mid → WasTooLong 1 limit mid new name → WasTooLong 2 limit old new name
too_long_later limit old mid new name stays one f =
    record {
      call = calls_two old mid new stays one f.call;
      taken = f.taken;
      longer = λ t told quiet. f.longer t (stays.contents name ∙ told) (quiet_later old mid new stays quiet);
    }

no_capture_before : (old mid : Disk) (name : List ℕ) (fault : CaptureFault) → Stays old mid → NoCaptureAt mid name fault → NoCaptureAt old name fault
no_capture_before old mid name fault stays at = record { bytes = at.bytes; held = held_before old mid name at.bytes stays at.held; within = at.within; refused = at.refused }

pub capture_fails_later : (old mid new : Disk) (name : List ℕ) (fault : Fault) → Stays old mid → Calls 1 old mid → CaptureFails 1 mid new name fault → CaptureFails 2 old new name fault
capture_fails_later old mid new name (faults.Read which.Capture) stays one f = failed_later old mid new name stays one f
capture_fails_later old mid new name (faults.TooLong which.Capture) stays one f = too_long_later max_capture_len old mid new name stays one f
capture_fails_later old mid new name (faults.Capture fault) stays one f = no_capture_before old mid name fault stays f
capture_fails_later old mid new name faults.NoMemory stays one f = tt
capture_fails_later old mid new name _ stays one f = f
