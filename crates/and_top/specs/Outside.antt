-- What a call leaves of files, and how a read or a write of it can fail.
use Rattle.std.specs.Prelude.{◌≡◌, ◌≢◌, ◌≤◌, ◌<◌, ◌⊎◌, ℕ, List, true, length, Option, Some}
use Rattle.and_outside.specs.Causes.{Rose, RoseBy, raised}
use Rattle.and_outside.specs.Disk.{Disk}

-- no file was written: every content stays, as told or untold as it was
pub record Stays (old new : Disk) : Type 0 where
  pub contents : (name : List ℕ) → new.content name ≡ old.content name
  pub calm : old.calm ≡ true → new.calm ≡ true
  pub tells : old.tells ≡ true → new.tells ≡ true
  pub write_faults : new.write_faults ≡ old.write_faults
  pub read_faults : old.read_faults ≤ new.read_faults
  pub taken : old.taken ≤ new.taken

-- no other file was written, and no count of files falls
pub record LeavesOthers (name : List ℕ) (old new : Disk) : Type 0 where
  pub others : (other : List ℕ) → other ≢ name → new.content other ≡ old.content other
  pub calm : old.calm ≡ true → new.calm ≡ true
  pub tells : old.tells ≡ true → new.tells ≡ true
  pub write_faults : old.write_faults ≤ new.write_faults
  pub read_faults : old.read_faults ≤ new.read_faults
  pub taken : old.taken ≤ new.taken

-- these bytes are the content of the name, where that is told
abbrev pub Holds : Disk → List ℕ → List ℕ → Type 0
Holds d name bytes = (t : List ℕ) → d.content name ≡ Some t → bytes ≡ t

-- no read can have failed: the files were calm, or no fault came
abbrev pub IsQuiet : Disk → Disk → Type 0
IsQuiet old new = (old.calm ≡ true) ⊎ (¬ Rose old.read_faults new.read_faults)

-- so many reads and writes were made, of which the last began at counts not below the old ones
pub record Calls (n : ℕ) (old new : Disk) : Type 0 where
  pub number : new.calls ≡ raised n old.calls
  pub read_faults : old.read_faults ≤ new.before.read_faults
  pub write_faults : old.write_faults ≤ new.before.write_faults
  pub taken : old.taken ≤ new.before.taken

-- the read failed which was the call of this number from 1: it shows in the count that this call raised. Calm files never fail to read what they tell
pub record ReadFailed (n : ℕ) (old new : Disk) (name : List ℕ) : Type 0 where
  pub call : Calls n old new
  pub rose : Rose new.before.read_faults new.read_faults
  pub never : (t : List ℕ) → old.content name ≡ Some t → old.calm ≡ true → ⊥

-- more than the limit was taken by the read which was the call of this number from 1; a told content is longer than that, where this read cannot have failed
pub record WasTooLong (n limit : ℕ) (old new : Disk) (name : List ℕ) : Type 0 where
  pub call : Calls n old new
  pub taken : RoseBy limit new.before.taken new.taken
  pub longer : (t : List ℕ) → old.content name ≡ Some t → (old.calm ≡ true) ⊎ (¬ Rose new.before.read_faults new.read_faults) → limit < length t

-- the write failed which was the call of this number from 1
pub record WriteFailed (n : ℕ) (old new : Disk) : Type 0 where
  pub call : Calls n old new
  pub rose : Rose new.before.write_faults new.write_faults
