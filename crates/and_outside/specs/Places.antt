-- Where the files of a `MemoryFiles` stand among its bytes.
use Rattle.std.specs.Prelude.{ℕ, ◌-◌, ◌≤◌, List, map, take, drop}
use Rattle.and_outside.specs.Memory.{Kept}
use Rattle.and_outside.specs.declared.place.Place.{Place}

-- the bytes from low to high
abbrev pub between : List ℕ → ℕ → ℕ → List ℕ
between bytes low high = take (high - low) (drop low bytes)

-- the content at a place
abbrev pub content_at : List ℕ → Place → List ℕ
content_at bytes p = between bytes p.bytes p.end

-- the name and the content at a place
abbrev pub kept_at : List ℕ → Place → Kept
kept_at bytes p = record { name = between bytes p.name p.bytes; bytes = content_at bytes p }

abbrev pub kept_in : List ℕ → List Place → List Kept
kept_in bytes places = map (kept_at bytes) places

-- the place is among so many bytes
abbrev pub IsWithin : ℕ → Place → Type 0
IsWithin n p = (p.name ≤ p.bytes) × (p.bytes ≤ p.end) × (p.end ≤ n)
