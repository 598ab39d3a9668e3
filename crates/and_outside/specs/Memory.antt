-- Files and a sink that are kept in memory, as contracts see them.
use Rattle.std.specs.Prelude.{ℕ, ◌+◌, ◌-◌, ◌==◌, ◌||◌, nat_lt, List, [], ◌∷◌, ◌++◌, length, Option, Some, None, is_none, Bool, true, false, if◌then◌else◌}
use Rattle.std.specs.List.{list_any}
use Rattle.std.specs.Option.{option_or}
use Rattle.std.specs.Str.{bytes_eq}
use Rattle.and_outside.specs.Causes.{raised}
use Rattle.and_outside.specs.Disk.{Disk}
use Rattle.and_outside.specs.Stream.{Stream}
use Rattle.and_outside.specs.declared.counts.Counts.{Counts}

-- a name, and what it was given to hold
pub record Kept : Type 0 where
  pub name : List ℕ
  pub bytes : List ℕ

-- the last content of the name, and None where the name is not there
abbrev pub content_of : List Kept → List ℕ → Option (List ℕ)
content_of [] name = None
content_of (k ∷ ks) name = option_or (content_of ks name) (if bytes_eq k.name name then Some k.bytes else None)

-- files in memory: what is there, the oldest first, the numbers of the calls that fail, the number
-- of the next call, the places and bytes that are left, the counts, and what these were when the last call began
pub record Shelf : Type 0 where
  pub kept : List Kept
  pub failing : List ℕ
  pub next : ℕ
  pub places : ℕ
  pub room : ℕ
  pub read_faults : ℕ
  pub write_faults : ℕ
  pub taken : ℕ
  pub before : Counts

abbrev pub no_counts : Counts
no_counts = record { read_faults = 0; write_faults = 0; taken = 0 }

-- nothing is there yet
abbrev pub empty_shelf : ℕ → ℕ → List ℕ → Shelf
empty_shelf places room failing =
    record { kept = []; failing = failing; next = 0; places = places; room = room; read_faults = 0; write_faults = 0; taken = 0; before = no_counts }

-- the number is in the list
abbrev pub is_listed : List ℕ → ℕ → Bool
is_listed failing number = list_any (λ n. n == number) failing

abbrev pub is_empty : {X : Type 0} → List X → Bool
is_empty [] = true
is_empty (x ∷ xs) = false

-- one more content, which uses a place and the bytes of its name and content
abbrev pub with_file : Shelf → List ℕ → List ℕ → Shelf
with_file s name bytes = record s {
  kept = s.kept ++ record { name = name; bytes = bytes } ∷ [];
  places = s.places - 1;
  room = s.room - (length name + length bytes);
}

-- as files are seen by their callers: they are calm where no call is to fail, and tell everything
abbrev pub disk_of : Shelf → Disk
disk_of s =
    record {
      read_faults = s.read_faults;
      write_faults = s.write_faults;
      taken = s.taken;
      calm = is_empty s.failing;
      tells = true;
      content = content_of s.kept;
      calls = s.next;
      before = s.before;
    }

abbrev pub counts_in : Shelf → Counts
counts_in s = record { read_faults = s.read_faults; write_faults = s.write_faults; taken = s.taken }

-- the next call begins: it is counted, and finds these counts
abbrev pub begun : Shelf → Shelf
begun s = record s { next = raised 1 s.next; before = counts_in s }

-- the next read of the name fails
abbrev pub read_fails : Shelf → List ℕ → Bool
read_fails s name = is_listed s.failing s.next || is_none (content_of s.kept name)

-- after a read that fails
abbrev pub after_failed_read : Shelf → Shelf
after_failed_read s = record (begun s) { read_faults = raised 1 s.read_faults }

-- after a read that took n bytes
abbrev pub after_read : Shelf → ℕ → Shelf
after_read s n = record (begun s) { taken = raised n s.taken }

-- the next write, of the bytes to the name, fails
abbrev pub write_fails : Shelf → List ℕ → List ℕ → Bool
write_fails s name bytes =
    is_listed s.failing s.next || (s.places == 0 || nat_lt s.room (length name + length bytes))

-- after the next write
abbrev pub after_write : Shelf → List ℕ → List ℕ → Shelf
after_write s name bytes =
    if write_fails s name bytes
    then record (begun s) { write_faults = raised 1 s.write_faults }
    else with_file (begun s) name bytes

-- a sink in memory: what was written, the numbers of the puts that fail, the number of the next put,
-- the bytes that are left, the count, and what it was when the last put began
pub record Roll : Type 0 where
  pub bytes : List ℕ
  pub failing : List ℕ
  pub next : ℕ
  pub room : ℕ
  pub faults : ℕ
  pub before : ℕ

-- as a sink is seen by its callers: it tells everything
abbrev pub stream_of : Roll → Stream
stream_of r = record { faults = r.faults; written = Some r.bytes; calls = r.next; before = r.before }

-- nothing was written yet
abbrev pub empty_roll : ℕ → List ℕ → Roll
empty_roll room failing = record { bytes = []; failing = failing; next = 0; room = room; faults = 0; before = 0 }

-- the next put of the bytes fails
abbrev pub put_fails : Roll → List ℕ → Bool
put_fails r bytes = is_listed r.failing r.next || nat_lt r.room (length bytes)

-- after the next put
abbrev pub after_put : Roll → List ℕ → Roll
after_put r bytes =
    if put_fails r bytes
    then record r { next = raised 1 r.next; before = r.faults; faults = raised 1 r.faults }
    else record r { next = raised 1 r.next; before = r.faults; bytes = r.bytes ++ bytes; room = r.room - length bytes }
