-- What files mean at a moment.
use Rattle.std.specs.Prelude.{ℕ, List, Bool, Option}
use Rattle.and_outside.specs.declared.counts.Counts.{Counts}

-- how many reads failed, how many writes failed and how many bytes reads took: the three never fall. Calm files never fail to read what they tell,
-- and telling files tell what they are given: no call ends either. The content of a name, None where it is not told. How many reads and writes were
-- made, and what the counts were when the last of them began
pub record Disk : Type 0 where
  pub read_faults : ℕ
  pub write_faults : ℕ
  pub taken : ℕ
  pub calm : Bool
  pub tells : Bool
  pub content : List ℕ → Option (List ℕ)
  pub calls : ℕ
  pub before : Counts

-- its counts
abbrev pub counts_of : Disk → Counts
counts_of d = record { read_faults = d.read_faults; write_faults = d.write_faults; taken = d.taken }
