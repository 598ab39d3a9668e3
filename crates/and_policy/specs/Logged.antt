-- The log entries in a list of entries or of operations.
use Rattle.std.specs.Prelude.{Bool, false, List, [], ◌∷◌, Option, Some, None}
use Rattle.and_policy.specs.declared.entry.Entry.{Entry}
use Rattle.and_policy.specs.declared.entry.Op.{Op}
use Rattle.and_policy.specs.declared.entry.Op.TheVariants as ops

-- the entry that an operation is
abbrev pub entry_of_op : Op → Option Entry
entry_of_op (ops.Entry entry) = Some entry
entry_of_op (ops.Offload order) = None

-- the later entries, after this one where there is one
abbrev pub before : Option Entry → List Entry → List Entry
before None later = later
before (Some entry) later = entry ∷ later

abbrev pub entries_in : {T : Type 0} → (T → Option Entry) → List T → List Entry
entries_in entry_of [] = []
entries_in entry_of (x ∷ later) = before (entry_of x) (entries_in entry_of later)

-- there is an entry, and it passes the test
abbrev pub is_entry : (Entry → Bool) → Option Entry → Bool
is_entry test None = false
is_entry test (Some entry) = test entry
