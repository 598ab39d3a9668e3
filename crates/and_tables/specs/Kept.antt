-- What the tables keep.
use Rattle.std.specs.Prelude.{◌≡◌, ◌<◌, ◌≤◌, ◌^◌, length, ℕ, List, None}
use Rattle.and_policy.specs.declared.entry.Op.{Op}
use Rattle.and_policy.specs.declared.entry.Order.{Order}
use Rattle.and_policy.specs.Fitting.{IsLog}
use Rattle.and_policy.specs.Programmes.{entries, is_entry_of, orders_for, touched}
use Rattle.and_policy.specs.Logs.{now}
use Rattle.and_policy.specs.Registers.{IsRegister}
use Rattle.and_tables.specs.declared.host.HostTables.TheInside.{Inside}
use Rattle.and_tables.specs.declared.index.Index.{Index}
use Rattle.and_tables.specs.Books.{IsRulebook}
use Rattle.and_tables.specs.Chains.{IsChain}
use Rattle.and_tables.specs.Lasts.{IsLast}
use Rattle.and_tables.specs.Numbers.{at, at_pair}
use Rattle.and_tables.specs.Orders.{AreTouched}

-- over plain variables: the operations, the ticks, the place of each network's last entry, and of each last order
pub record Keeps (p : List Op) (ticks : ℕ) (entered : ℕ → ℕ) (ordered : ℕ → ℕ → ℕ) : Type 0 where
  pub ticks_are : ticks ≡ now (entries p)
  pub orders : (net ip : ℕ) → IsLast (orders_for net ip) p (ordered net ip)
  pub networks : IsLog None (entries p) → (net : ℕ) → IsLast (is_entry_of (entries p) net) p (entered net)

-- the orders are chained by their destination networks and by their ends, and the source network of each was touched
pub record AreChained (p : List Op) (x : Index) : Type 0 where
  pub into : IsChain (λ (o : Order). o.to_net) p x.into
  pub until : IsChain (λ (o : Order). o.until) p x.until
  pub touched : AreTouched p (at x.touched)

-- the place of the last touch of each network
abbrev pub Knows : List Op → (ℕ → ℕ) → Type 0
Knows p last_touch = IsLog None (entries p) → (net : ℕ) → last_touch net ≡ touched p (length p) net

pub record IsKept (t : Inside) : Type 0 where
  pub gated : 0 < t.gateways
  pub short : length t.ops.items < 2 ^ 32
  pub few : t.ticks ≤ length t.ops.items
  pub keeps : Keeps t.ops.items t.ticks (at t.index.entered) (at_pair t.index.ordered)
  pub chained : AreChained t.ops.items t.index
  pub knows : Knows t.ops.items (at t.index.touched)
  pub register : IsLog None (entries t.ops.items) → IsRegister t.register (entries t.ops.items)
  pub rules : IsLog None (entries t.ops.items) → IsRulebook t.rules (entries t.ops.items)
