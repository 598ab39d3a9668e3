-- What a sink means at a moment.
use Rattle.std.specs.Prelude.{ℕ, List, Option}

-- how many puts failed, which never falls; all that was written, None where it is not told; how many puts were made, and how many had failed when the
-- last of them began
pub record Stream : Type 0 where
  pub faults : ℕ
  pub written : Option (List ℕ)
  pub calls : ℕ
  pub before : ℕ
