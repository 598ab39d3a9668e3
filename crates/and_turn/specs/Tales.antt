-- Words of tales: a tale is a list of lines, and each line names the number of a seat.
use Rattle.std.specs.Prelude.{◌≡◌, ℕ, ◌==◌, List, ◌++◌, length, filter, nat_lt, if◌then◌else◌}

module _ {L : Type 0} where
  -- `lines` begins with `seen`
  abbrev pub IsPrefix : List L → List L → Type 0
  IsPrefix seen lines = (rest : List L) × (lines ≡ seen ++ rest)

  -- the lines with the number n, in order
  abbrev pub own : (L → ℕ) → List L → ℕ → List L
  own seat_of lines n = filter (λ l. seat_of l == n) lines

  -- the longer of two lists, and the first of two equally long ones
  abbrev pub longer : List L → List L → List L
  longer a b = if nat_lt (length a) (length b) then b else a
