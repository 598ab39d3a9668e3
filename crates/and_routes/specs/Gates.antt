-- What the tables of a gateway keep.
use Rattle.std.specs.Prelude.{◌<◌, ◌^◌, None, length}
use Rattle.and_policy.specs.Fitting.{IsLog}
use Rattle.and_policy.specs.Programmes.{entries}
use Rattle.and_policy.specs.Registers.{IsRegister}
use Rattle.and_routes.specs.Buckets.{IsPrefixes}
use Rattle.and_routes.specs.declared.tables.GatewayTables.TheInside.{Inside}

-- where the entries among the operations are a log, the look-ups are of it
pub record IsKept (t : Inside) : Type 0 where
  pub short : length t.ops.items < 2 ^ 32
  pub register : IsLog None (entries t.ops.items) → IsRegister t.register (entries t.ops.items)
  pub prefixes : IsLog None (entries t.ops.items) → IsPrefixes t.prefixes (entries t.ops.items)
