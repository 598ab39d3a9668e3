-- What is kept of the entries that are known.
use Rattle.std.specs.Prelude.{◌≡◌, length}
use Rattle.and_policy.specs.Logs.{now}
use Rattle.and_policy.specs.Programmes.{entries}
use Rattle.and_review.specs.declared.known.KnownRoutes.TheInside.{Inside}

-- only entries were applied to the tables, and their ticks are counted
pub record IsFollowed (k : Inside) : Type 0 where
  pub alone : length k.tables ≡ length (entries k.tables)
  pub ticks : k.ticks ≡ now (entries k.tables)
