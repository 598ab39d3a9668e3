-- Chains of orders with the same key: from the last one to the one before it, and so on. Places count from 1, and so do the numbers of orders.
use Rattle.std.specs.Prelude.{◌≡◌, ◌≤◌, ℕ, zero, suc, ◌==◌, Bool, false, nat_eq, List, [], ◌∷◌, take, Some, length, slice_get, slice_index_or, unwrap_or}
use Rattle.std.specs.HashMap as hash
use Rattle.std.specs.HashMap.{HashMap}
use Rattle.std.specs.declared.hash.FoldHasher.{FoldHasher}
use Rattle.std.specs.declared.hash.BuildHasherDefault.{BuildHasherDefault}
use Rattle.and_policy.specs.declared.entry.Op.{Op}
use Rattle.and_policy.specs.declared.entry.Op.TheVariants as ops
use Rattle.and_policy.specs.declared.entry.Order.{Order}
use Rattle.and_tables.specs.declared.chain.Chain.{Chain}
use Rattle.and_tables.specs.declared.chain.Link.{Link}
use Rattle.and_tables.specs.Lasts.{IsLast}

-- the operation is an order with this key
abbrev pub keyed : (Order → ℕ) → ℕ → Op → Bool
keyed by q (ops.Entry entry) = false
keyed by q (ops.Offload order) = by order == q

-- how many of the operations are orders
abbrev pub orders_in : List Op → ℕ
orders_in [] = zero
orders_in (ops.Entry entry ∷ p) = orders_in p
orders_in (ops.Offload order ∷ p) = suc (orders_in p)

abbrev pub nowhere : Link
nowhere = record { place = 0; number = 0 }

-- the link at a key
abbrev pub link_at : HashMap ℕ Link (BuildHasherDefault FoldHasher) → ℕ → Link
link_at m key = unwrap_or (hash.get nat_eq m key) nowhere

-- the link of the order before the one with this number
abbrev pub before : Chain → ℕ → Link
before c zero = nowhere
before c (suc number) = slice_index_or c.before.items number nowhere

-- what comes before an order has a smaller number
abbrev pub IsLinked : Chain → Type 0
IsLinked c = (number : ℕ) → (slice_index_or c.before.items number nowhere).number ≤ number

-- the last of the operations that meets the test, an order, stands there
pub record IsLastLink (test : Op → Bool) (p : List Op) (link : Link) : Type 0 where
  pub place : IsLast test p link.place
  pub number : link.number ≡ orders_in (take link.place p)

-- each key's last order is known, and for each order the one before it with the same key
pub record IsChain (by : Order → ℕ) (p : List Op) (c : Chain) : Type 0 where
  pub long : length c.before.items ≡ orders_in p
  pub linked : IsLinked c
  pub lasts : (q : ℕ) → IsLastLink (keyed by q) p (link_at c.last q)
  pub befores : (place : ℕ) (order : Order) → slice_get p place ≡ Some (ops.Offload order)
      → IsLastLink (keyed by (by order)) (take place p) (slice_index_or c.before.items (orders_in (take place p)) nowhere)

-- the same links
pub record IsSameChain (x y : Chain) : Type 0 where
  pub last : (q : ℕ) → hash.get nat_eq y.last q ≡ hash.get nat_eq x.last q
  pub before : y.before.items ≡ x.before.items
