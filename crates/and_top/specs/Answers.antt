-- What the top call answers, and where.
use Rattle.std.specs.Prelude.{◌≡◌, ◌≢◌, ◌≤◌, ◌⊎◌, ℕ, ◌+◌, List, ◌++◌, codes, true, Some, Result, Ok, Err, string_bytes}
use Rattle.and_top.specs.declared.answers.Which.TheVariants as which
use Rattle.and_top.specs.declared.answers.Fault.{Fault}
use Rattle.and_top.specs.declared.answers.Fault.TheVariants as faults
use Rattle.and_top.specs.declared.answers.Job.{Job}
use Rattle.and_top.specs.Headline.{Ran, trace_in, delivered_in, underlay_in, report_in}
use Rattle.and_top.specs.Inputs.{Refuses}
use Rattle.and_outside.specs.Disk.{Disk}
use Rattle.and_top.specs.Outside.{Calls, Holds, WriteFailed}
use Rattle.and_outside.specs.Stream.{Stream}
use Rattle.and_top.specs.Telling.{Wrote, WrotePart}
use Rattle.and_top.specs.Words.{Named}

-- the names of a job
abbrev pub names_in : Job → Named
names_in job = record { scenario = string_bytes job.scenario; capture = string_bytes job.capture; out = string_bytes job.out }

-- the names of the files that are written
abbrev pub trace_name : Named → List ℕ
trace_name names = names.out ++ codes ".trace"

abbrev pub delivered_name : Named → List ℕ
delivered_name names = names.out ++ codes ".delivered.pcap"

abbrev pub underlay_name : Named → List ℕ
underlay_name names = names.out ++ codes ".underlay.pcap"

-- no other file than these three was written, and no count of files falls
pub record Leaves (names : Named) (old new : Disk) : Type 0 where
  pub others : (other : List ℕ) → other ≢ trace_name names → other ≢ delivered_name names → other ≢ underlay_name names → new.content other ≡ old.content other
  pub calm : old.calm ≡ true → new.calm ≡ true
  pub tells : old.tells ≡ true → new.tells ≡ true
  pub write_faults : old.write_faults ≤ new.write_faults
  pub read_faults : old.read_faults ≤ new.read_faults
  pub taken : old.taken ≤ new.taken

-- no file was written
abbrev pub Untouched : Disk → Disk → Type 0
Untouched old new = (name : List ℕ) → new.content name ≡ old.content name

-- the text is the content of the file of this name, where that is told; it is told where it was told before, and by files that tell what they are given
pub record Stands (name : List ℕ) (old new : Disk) (text : List ℕ) : Type 0 where
  pub held : Holds new name text
  pub told : (before : List ℕ) → old.content name ≡ Some before → new.content name ≡ Some text
  pub given : old.tells ≡ true → new.content name ≡ Some text

-- what a replay writes
pub record Outputs : Type 0 where
  pub trace : List ℕ
  pub delivered : List ℕ  -- the capture of the frames that were delivered
  pub underlay : List ℕ  -- the capture of the packets of the underlay
  pub report : List ℕ

-- the file is as it was
abbrev pub IsKept : List ℕ → Disk → Disk → Type 0
IsKept name old new = new.content name ≡ old.content name

-- all three files stand
pub record AllStand (names : Named) (old new : Disk) (o : Outputs) : Type 0 where
  pub trace : Stands (trace_name names) old new o.trace
  pub delivered : Stands (delivered_name names) old new o.delivered
  pub underlay : Stands (underlay_name names) old new o.underlay

-- The trace, the capture of what was delivered and that of the underlay were written in this order, the first by the call of this number from 1, and then the
-- report was put. Where a write failed, it was the last call: the count of failed writes rose in it, the files before it stand, nothing is known of its own,
-- those after it are as they were, and nothing was put. Where the put failed, faults of the sink rose: the files stand, and a prefix of the report
abbrev pub Writes : ℕ → Named → Disk → Disk → Stream → Stream → Outputs → Result (Unit {0}) Fault → Type 0
Writes n names old new before after o (Ok done) = Calls (n + 2) old new × AllStand names old new o × Wrote 1 o.report before after
Writes n names old new before after o (Err (faults.Write which.Trace)) =
    WriteFailed n old new × IsKept (delivered_name names) old new × IsKept (underlay_name names) old new × (after ≡ before)
Writes n names old new before after o (Err (faults.Write which.Delivered)) =
    WriteFailed (n + 1) old new × Stands (trace_name names) old new o.trace × IsKept (underlay_name names) old new × (after ≡ before)
Writes n names old new before after o (Err (faults.Write which.Underlay)) =
    WriteFailed (n + 2) old new × Stands (trace_name names) old new o.trace × Stands (delivered_name names) old new o.delivered × (after ≡ before)
Writes n names old new before after o (Err (faults.Write which.Report)) = Calls (n + 2) old new × AllStand names old new o × WrotePart 1 o.report before after
Writes n names old new before after o (Err _) = ⊥

-- what the run writes
abbrev pub outputs_in : (names : Named) (files : Disk) → Ran names files → Outputs
outputs_in names files ran =
    record { trace = trace_in names files ran; delivered = delivered_in names files ran; underlay = underlay_in names files ran; report = report_in names files ran }

-- The answer of a replay between two states of the files and of the report's sink. Where it is no fault of a write, nothing was written or put
abbrev pub Done : Named → Disk → Disk → Stream → Stream → Result (Unit {0}) Fault → Type 0
Done names old new before after result = (ran : Ran names old) × Writes 3 names old new before after (outputs_in names old ran) result

abbrev pub Answers : Named → Disk → Disk → Stream → Stream → Result (Unit {0}) Fault → Type 0
Answers names old new before after (Ok done) = Done names old new before after (Ok done)
Answers names old new before after (Err fault) =
    (Refuses names old new fault × Untouched old new × (after ≡ before)) ⊎ Done names old new before after (Err fault)
