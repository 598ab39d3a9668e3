-- A batch that was applied in part.
use Rattle.std.specs.Prelude.{◌≡◌, ℕ, ◌<◌, List, ◌++◌, length, take}
use Rattle.and_policy.specs.declared.entry.Op.{Op}

-- some operations of the batch were applied, from the first on, and not all
pub record IsStopped (before batch after : List Op) : Type 0 where
  pub count : ℕ
  pub fewer : count < length batch
  pub is : after ≡ before ++ take count batch
