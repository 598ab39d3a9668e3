-- What a review stands on.
use Rattle.std.specs.Prelude.{◌≡◌, ℕ, List, ◌++◌}
use Rattle.and_policy.specs.declared.entry.Entry.{Entry}
use Rattle.and_events.specs.Usage.{Used}

-- the usage in the order of its keys, for how many keys there is room in all, and the entries of the log whose routes are known
pub record ReviewsView : Type 0 where
  pub used : List Used
  pub room : ℕ
  pub known : List Entry

-- the known entries are the first ones of the log
abbrev pub Begins : List Entry → List Entry → Type 0
Begins known log = (later : List Entry) × (log ≡ known ++ later)
