-- What the indexes of a log have.
use Rattle.std.specs.Prelude.{◌≡◌, ℕ, ◌<◌, nat_eq, List, length}
use Rattle.std.specs.HashSet as bag
use Rattle.std.specs.HashSet.{hash_set_len, HashSet}
use Rattle.std.specs.declared.hash.FoldHasher.{FoldHasher}
use Rattle.std.specs.declared.hash.BuildHasherDefault.{BuildHasherDefault}
use Rattle.and_policy.specs.declared.entry.Entry.{Entry}
use Rattle.and_policy.specs.declared.index.Index.{Index}
use Rattle.and_policy.specs.Logs.{nets, has_net}
use Rattle.and_policy.specs.Numbered as numbered
use Rattle.and_policy.specs.Numbered.{IsNumbered, rule_numbers, route_numbers}
use Rattle.and_policy.specs.Registers as registers
use Rattle.and_policy.specs.Registers.{IsRegister}

-- the set has the networks of the entries k
pub record AreNets (x : HashSet ℕ (BuildHasherDefault FoldHasher)) (k : List Entry) : Type 0 where
  pub has : (net : ℕ) → bag.contains nat_eq x net ≡ has_net k net
  pub count : hash_set_len x ≡ length (nets k)

-- the indexes say what the entries k have
pub record IsIndex (x : Index) (k : List Entry) : Type 0 where
  pub nets : AreNets x.nets k
  pub rules : IsNumbered x.rules (rule_numbers k)
  pub routes : IsNumbered x.routes (route_numbers k)
  pub register : IsRegister x.register k

-- one entry more takes no memory
pub record HasRoom (x : Index) : Type 0 where
  pub nets : 0 < bag.spare x.nets
  pub rules : numbered.HasRoom x.rules
  pub routes : numbered.HasRoom x.routes
  pub register : registers.HasRoom x.register
