-- The orders among operations, by their places, which count from 1, and which of them live by what is kept.
use Rattle.std.specs.Prelude.{◌≡◌, ◌<◌, ℕ, zero, suc, ◌==◌, ◌&&◌, ◌||◌, Bool, false, nat_le, nat_lt, if◌then◌else◌, List, length, Option, Some, None, slice_get}
use Rattle.and_policy.specs.declared.entry.Entry.TheVariants.{Tick}
use Rattle.and_policy.specs.declared.entry.Op.{Op}
use Rattle.and_policy.specs.declared.entry.Op.TheVariants as ops
use Rattle.and_policy.specs.declared.entry.Order.{Order}
use Rattle.and_policy.specs.Programmes.{is_net}

abbrev pub the_order : Option Op → Option Order
the_order (Some (ops.Offload order)) = Some order
the_order (Some (ops.Entry entry)) = None
the_order None = None

-- the order at the place, from 1
abbrev pub order_at : List Op → ℕ → Option Order
order_at p zero = None
order_at p (suc place) = the_order (slice_get p place)

abbrev pub lives_at : ℕ → (ℕ → ℕ) → ℕ → Order → Bool
lives_at ticks entered place order = nat_le (entered order.net) place && nat_le (entered order.to_net) place && nat_lt ticks order.until

abbrev pub live_by : ℕ → (ℕ → ℕ) → ℕ → Option Order → Option Order
live_by ticks entered place None = None
live_by ticks entered place (Some order) = if lives_at ticks entered place order then Some order else None

-- the order at the place, where by the kept places it lives
abbrev pub live_at : List Op → ℕ → (ℕ → ℕ) → ℕ → Option Order
live_at p ticks entered place = live_by ticks entered place (order_at p place)

-- the order at the place, where it is the last for its network and address, and lives
abbrev pub alive_by : ℕ → (ℕ → ℕ) → (ℕ → ℕ → ℕ) → ℕ → Option Order → Option Order
alive_by ticks entered ordered place None = None
alive_by ticks entered ordered place (Some order) =
    if (ordered order.net order.ip == place) && lives_at ticks entered place order then Some order else None

abbrev pub alive_at : List Op → ℕ → (ℕ → ℕ) → (ℕ → ℕ → ℕ) → ℕ → Option Order
alive_at p ticks entered ordered place = alive_by ticks entered ordered place (order_at p place)

abbrev pub meets : (Order → Bool) → Option Order → Bool
meets test None = false
meets test (Some order) = test order

-- one of the places from 1 to n meets the test
abbrev pub any_upto : (ℕ → Bool) → ℕ → Bool
any_upto test zero = false
any_upto test (suc n) = test (suc n) || any_upto test n

-- a live order meets the test
abbrev pub any_alive : List Op → ℕ → (ℕ → ℕ) → (ℕ → ℕ → ℕ) → (Order → Bool) → Bool
any_alive p ticks entered ordered test = any_upto (λ place. meets test (alive_at p ticks entered ordered place)) (length p)

-- the operation, which names this network, ends the live order, but for orders of the network that it names, and one that it renews.
-- After it there are so many ticks
abbrev pub hits : Option ℕ → Op → ℕ → Order → Bool
hits name (ops.Offload other) ticks order = false
hits name (ops.Entry Tick) ticks order = order.until == ticks
hits name (ops.Entry entry) ticks order = is_net name order.to_net

-- the source network of each order was touched
abbrev pub AreTouched : List Op → (ℕ → ℕ) → Type 0
AreTouched p touch = (place : ℕ) (order : Order) → order_at p place ≡ Some order → 0 < touch order.net

-- no order with this key lives before the floor
abbrev pub IsNoneBelow : (Order → ℕ) → List Op → ℕ → (ℕ → ℕ) → (ℕ → ℕ → ℕ) → ℕ → ℕ → Type 0
IsNoneBelow by p ticks entered ordered key floor =
    (place : ℕ) (order : Order) → place < floor → alive_at p ticks entered ordered place ≡ Some order → by order ≡ key → ⊥
