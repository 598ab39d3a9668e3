-- One operation, by the network that it names.
use Rattle.std.specs.Prelude.{ℕ, ◌==◌, ◌&&◌, ◌||◌, not, Bool, nat_lt, List, Option, Some, None}
use Rattle.std.specs.List.{list_any}
use Rattle.and_policy.specs.declared.entry.Entry.TheVariants.{AddNet, AddVm, RemoveVm, Place, AddRule, DelRule, AddRoute, DelRoute, Tick}
use Rattle.and_policy.specs.declared.entry.Op.{Op}
use Rattle.and_policy.specs.declared.entry.Op.TheVariants as ops
use Rattle.and_policy.specs.declared.entry.Order.{Order}
use Rattle.and_policy.specs.Programmes.{is_net, orders_for}

-- the network of an operation, `home` being the networks of VMs by number
abbrev pub named : (ℕ → Option ℕ) → Op → Option ℕ
named home (ops.Offload order) = None
named home (ops.Entry (AddNet net)) = Some net
named home (ops.Entry (AddVm vm net mac ip host)) = Some net
named home (ops.Entry (RemoveVm vm)) = home vm
named home (ops.Entry (Place vm host)) = home vm
named home (ops.Entry (AddRule net rule)) = Some net
named home (ops.Entry (DelRule net number)) = Some net
named home (ops.Entry (AddRoute net route)) = Some net
named home (ops.Entry (DelRoute net number)) = Some net
named home (ops.Entry Tick) = None

abbrev pub ticks_of : Op → ℕ
ticks_of (ops.Entry Tick) = 1
ticks_of _ = 0

-- the network that the operation names, or for which it is an order
abbrev pub own : Option ℕ → Op → Option ℕ
own name (ops.Offload order) = Some order.net
own name (ops.Entry entry) = name

-- the order lives on after the operation, which names this network, at this many ticks
abbrev pub stays_by : Option ℕ → Op → ℕ → Order → Bool
stays_by name op ticks order =
    not (is_net name order.net || is_net name order.to_net || orders_for order.net order.ip op) && nat_lt ticks order.until

abbrev pub is_ended : Option ℕ → Op → ℕ → ℕ → Order → Bool
is_ended name op ticks net order = (order.net == net) && not (stays_by name op ticks order)

abbrev pub ends_by : Option ℕ → Op → ℕ → List Order → ℕ → Bool
ends_by name op ticks live net = list_any (is_ended name op ticks net) live
