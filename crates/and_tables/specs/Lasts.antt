-- Where among operations the last one of a kind stands.
use Rattle.std.specs.Prelude.{◌≡◌, ℕ, zero, suc, ◌==◌, ◌&&◌, ◌||◌, not, Bool, false, nat_lt, if◌then◌else◌, List, [], ◌∷◌, drop, slice_get, Option, Some, None}
use Rattle.std.specs.List.{list_any}
use Rattle.and_policy.specs.declared.entry.Entry.{Entry}
use Rattle.and_policy.specs.declared.entry.Op.{Op}
use Rattle.and_policy.specs.declared.entry.Op.TheVariants as ops
use Rattle.and_policy.specs.declared.entry.Order.{Order}
use Rattle.and_policy.specs.Programmes.{lives, living, ends, is_entry_of}
use Rattle.and_policy.specs.Logs.{now}

-- some operation after the place q meets the test exactly where q is before `place`: so it stands at `place`, and none after it
pub record IsLast (test : Op → Bool) (p : List Op) (place : ℕ) : Type 0 where
  pub later : (q : ℕ) → list_any test (drop q p) ≡ nat_lt q place

-- the order at the place, where it lives
abbrev pub alive : List Entry → List Op → Option Op → Option Order
alive k later (Some (ops.Offload order)) = if lives k order later then Some order else None
alive k later (Some (ops.Entry entry)) = None
alive k later None = None

abbrev pub order_by : List Entry → List Op → ℕ → Option Order
order_by k p zero = None
order_by k p (suc place) = alive k (drop (suc place) p) (slice_get p place)

-- the same operations are entries of the same networks by the entries k2 as by k
abbrev pub Agree : List Entry → List Entry → List Op → Type 0
Agree k k2 [] = Unit {0}
Agree k k2 (op ∷ later) = ((net : ℕ) → is_entry_of k2 net op ≡ is_entry_of k net op) × Agree k k2 later

-- the order lives on after one operation more, k2 being the entries with it
abbrev pub stays : List Entry → Op → Order → Bool
stays k2 op order = not (ends k2 order op) && nat_lt (now k2) order.until

-- the order that the operation gives, where it lives
abbrev pub fresh : List Entry → Op → List Order
fresh k2 (ops.Entry entry) = []
fresh k2 (ops.Offload order) = if nat_lt (now k2) order.until then order ∷ [] else []

-- the operation ends an order with this source network
abbrev pub ends_of : List Entry → List Entry → List Op → Op → ℕ → Bool
ends_of k k2 p op net = list_any (λ order. (order.net == net) && not (stays k2 op order)) (living k p)

-- the order has this network as source or destination
abbrev pub involves : ℕ → Order → Bool
involves net order = (order.net == net) || (order.to_net == net)

abbrev pub order_involves : ℕ → Op → Bool
order_involves net (ops.Entry entry) = false
order_involves net (ops.Offload order) = involves net order
