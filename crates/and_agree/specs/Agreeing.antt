-- The operations of tables beside those of a programme.
use Rattle.std.specs.Prelude.{◌≡◌, ◌≢◌, ℕ, suc, ◌<◌, ◌≤◌, List, length, take, slice_get, Some}
use Rattle.and_policy.specs.declared.entry.Op.{Op}
use Rattle.and_agree.specs.declared.comparing.Settled.{Settled}
use Rattle.and_agree.specs.declared.comparing.Settled.TheVariants.{Done, Early, Differs}

-- all before this place, counted from 0, is the same, and these elements there are not
pub record Differ (tables programme : List Op) (place : ℕ) (table book : Op) : Type 0 where
  pub same : take place tables ≡ take place programme
  pub in_tables : slice_get tables place ≡ Some table
  pub in_programme : slice_get programme place ≡ Some book
  pub differ : table ≢ book

-- this place is the first where they differ
abbrev pub DifferAt : List Op → List Op → ℕ → Type 0
DifferAt tables programme place = (table book : Op) × Differ tables programme place table book

-- the answer is right where so many operations of the programme are announced. No two answers are
abbrev pub Tells : ℕ → List Op → List Op → Settled → Type 0
Tells announced tables programme Done = (length tables ≤ announced) × (take (length tables) programme ≡ tables)
Tells announced tables programme (Early number) = (number ≡ announced) × (announced < length tables)
Tells announced tables programme (Differs at table book) =
    (length tables ≤ announced) × ((place : ℕ) × (at ≡ suc place) × Differ tables programme place table book)
