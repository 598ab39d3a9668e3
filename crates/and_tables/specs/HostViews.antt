-- What contracts see of the tables of a host.
use Rattle.std.specs.Prelude.{ℕ, List}
use Rattle.and_policy.specs.declared.entry.Op.{Op}

-- the host, the number of gateways, and the operations that were applied, the oldest first
pub record HostView : Type 0 where
  pub host : ℕ
  pub gateways : ℕ
  pub ops : List Op
