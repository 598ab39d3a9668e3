-- Look-ups that are the same, and room in them.
use Rattle.std.specs.Prelude.{◌≡◌, ℕ, ◌<◌, nat_eq}
use Rattle.std.specs.HashMap as hash
use Rattle.std.specs.Vec.{vec_len, vec_capacity}
use Rattle.and_policy.specs.declared.entry.Op.{Op}
use Rattle.and_policy.specs.declared.entry.Op.TheVariants as ops
use Rattle.and_tables.specs.declared.chain.Chain.{Chain}
use Rattle.and_tables.specs.declared.index.Index.{Index}
use Rattle.and_tables.specs.Chains.{IsSameChain}
use Rattle.and_tables.specs.Numbers.{pair_eq}

pub record IsSameIndex (x y : Index) : Type 0 where
  pub entered : (net : ℕ) → hash.get nat_eq y.entered net ≡ hash.get nat_eq x.entered net
  pub ordered : (q : ℕ × ℕ) → hash.get pair_eq y.ordered q ≡ hash.get pair_eq x.ordered q
  pub touched : (net : ℕ) → hash.get nat_eq y.touched net ≡ hash.get nat_eq x.touched net
  pub into : IsSameChain x.into y.into
  pub until : IsSameChain x.until y.until

-- for one order more
pub record HasLink (c : Chain) : Type 0 where
  pub last : 0 < hash.spare c.last
  pub before : vec_len c.before < vec_capacity c.before

pub record HasLinks (x : Index) : Type 0 where
  pub ordered : 0 < hash.spare x.ordered
  pub into : HasLink x.into
  pub until : HasLink x.until

-- what the operation needs of the room for orders
abbrev pub HasOwnLinks : Op → Index → Type 0
HasOwnLinks (ops.Entry entry) x = Unit {0}
HasOwnLinks (ops.Offload order) x = HasLinks x

-- for this operation
pub record HasRoom (op : Op) (x : Index) : Type 0 where
  pub entered : 0 < hash.spare x.entered
  pub touched : 0 < hash.spare x.touched
  pub links : HasOwnLinks op x
