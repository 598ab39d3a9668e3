-- Programmes of nodes: log entries and offload orders, the oldest first. Places count from 1.
use Rattle.std.specs.Prelude.{ℕ, zero, suc, ◌-◌, ◌==◌, ◌&&◌, ◌||◌, not, Bool, false, nat_lt, if◌then◌else◌, List, [], ◌∷◌, take, slice_get, Option, Some, None, option_map, position}
use Rattle.std.specs.List.{list_any, find}
use Rattle.and_policy.specs.declared.packet.Tuple.{Tuple}
use Rattle.and_policy.specs.declared.entry.Entry.{Entry}
use Rattle.and_policy.specs.declared.entry.Entry.TheVariants.{AddNet, AddVm, RemoveVm, Place, AddRule, DelRule, AddRoute, DelRoute, Tick}
use Rattle.and_policy.specs.declared.entry.Order.{Order}
use Rattle.and_policy.specs.declared.entry.Op.{Op}
use Rattle.and_policy.specs.declared.entry.Op.TheVariants as ops
use Rattle.and_policy.specs.declared.decision.Exit.{Exit}
use Rattle.and_policy.specs.declared.decision.Exit.TheVariants as exits
use Rattle.and_policy.specs.declared.decision.Dest.{Dest}
use Rattle.and_policy.specs.declared.decision.Dest.TheVariants.{Offload, Hover}
use Rattle.and_policy.specs.declared.decision.Leaving.{Leaving}
use Rattle.and_policy.specs.declared.decision.Leaving.TheVariants as leavings
use Rattle.and_policy.specs.Logs.{Vm, added, vm_of, now}
use Rattle.and_policy.specs.Egress.{egress}
use Rattle.and_policy.specs.FlowHash.{gateway_of}

-- the log entries among the operations
abbrev pub entries : List Op → List Entry
entries [] = []
entries (ops.Entry entry ∷ later) = entry ∷ entries later
entries (ops.Offload order ∷ later) = entries later

-- the log entries among the first j operations of the programme p
abbrev pub prefix : List Op → ℕ → List Entry
prefix p j = entries (take j p)

-- the network of the VM, as its entry among k added it
abbrev pub net_of_vm : List Entry → ℕ → Option ℕ
net_of_vm k vm = option_map (λ v. v.net) (find (λ v. v.number == vm) (added k))

-- the entry adds the VM
abbrev pub adds : ℕ → Entry → Bool
adds vm (AddVm v net mac ip host) = v == vm
adds vm _ = false

-- the number of the VM's AddVm entry among k, from 1
abbrev pub added_at : List Entry → ℕ → Option ℕ
added_at k vm = option_map suc (position (adds vm) k)

-- the network of an entry: the one that it names, or that of its VM. The peer of a route does not count
abbrev pub net_of : List Entry → Entry → Option ℕ
net_of k (AddNet net) = Some net
net_of k (AddVm vm net mac ip host) = Some net
net_of k (RemoveVm vm) = net_of_vm k vm
net_of k (Place vm host) = net_of_vm k vm
net_of k (AddRule net rule) = Some net
net_of k (DelRule net number) = Some net
net_of k (AddRoute net route) = Some net
net_of k (DelRoute net number) = Some net
net_of k Tick = None

abbrev pub is_net : Option ℕ → ℕ → Bool
is_net None net = false
is_net (Some n) net = n == net

-- the operation is an entry of the network
abbrev pub is_entry_of : List Entry → ℕ → Op → Bool
is_entry_of k net (ops.Entry entry) = is_net (net_of k entry) net
is_entry_of k net (ops.Offload order) = false

-- the operation is an order for this network and address
abbrev pub orders_for : ℕ → ℕ → Op → Bool
orders_for net ip (ops.Entry entry) = false
orders_for net ip (ops.Offload order) = (order.net == net) && (order.ip == ip)

-- an operation after the order that ends it: an entry of its source or destination network, or an order for the same
abbrev pub ends : List Entry → Order → Op → Bool
ends k order op = is_entry_of k order.net op || is_entry_of k order.to_net op || orders_for order.net order.ip op

-- the order lives: no operation after it ends it, and its time is not over
abbrev pub lives : List Entry → Order → List Op → Bool
lives k order later = not (list_any (ends k order) later) && nat_lt (now k) order.until

-- the orders among the operations that live, k being the entries of the whole list
abbrev pub living : List Entry → List Op → List Order
living k [] = []
living k (ops.Entry entry ∷ later) = living k later
living k (ops.Offload order ∷ later) = if lives k order later then order ∷ living k later else living k later

-- the live orders among the first j operations
abbrev pub live_orders : List Op → ℕ → List Order
live_orders p j = living (prefix p j) (take j p)

-- the live order for this source network and address among the first j operations
abbrev pub live : List Op → ℕ → ℕ → ℕ → Option Order
live p j net ip = find (λ order. (order.net == net) && (order.ip == ip)) (live_orders p j)

abbrev pub same_order : Order → Order → Bool
same_order a b = (a.net == b.net) && (a.ip == b.ip) && (a.to_net == b.to_net) && (a.to_host == b.to_host) && (a.until == b.until)

-- some order with this source network was live before the operation at place q and is not live after it
abbrev pub ends_order : List Op → ℕ → ℕ → Bool
ends_order p q net =
    list_any (λ order. (order.net == net) && not (list_any (same_order order) (live_orders p q))) (live_orders p (q - 1))

abbrev pub is_order_of : ℕ → Op → Bool
is_order_of net (ops.Entry entry) = false
is_order_of net (ops.Offload order) = order.net == net

abbrev pub is_some_and : (Op → Bool) → Option Op → Bool
is_some_and test None = false
is_some_and test (Some op) = test op

-- the operation at place q touches the network: it is an entry of it, an order with this source network, or ends one
abbrev pub touches : List Op → ℕ → ℕ → Bool
touches p q net = is_some_and (λ op. is_entry_of (prefix p q) net op || is_order_of net op) (slice_get p (q - 1)) || ends_order p q net

-- the greatest place up to j whose operation touches the network, or 0
abbrev pub touched : List Op → ℕ → ℕ → ℕ
touched p zero net = 0
touched p (suc j) net = if touches p (suc j) net then suc j else touched p j net

abbrev pub dest_by : ℕ → Tuple → Option Order → Dest
dest_by gateways x None = Hover (gateway_of gateways x)
dest_by gateways x (Some order) = Offload order.to_host order.to_net

abbrev pub leaving_by : Exit → Dest → Leaving
leaving_by exits.NoVm dest = leavings.NoVm
leaving_by exits.Spoofed dest = leavings.Spoofed
leaving_by (exits.Denied number) dest = leavings.Denied number
leaving_by (exits.Allowed by sealed) dest = leavings.Allowed by sealed dest

-- the VM's network; where the VM is not live none is asked for
abbrev pub own_net : Option Vm → ℕ
own_net None = 0
own_net (Some v) = v.net

-- what the first j operations say of a packet of this VM, with this many gateways
abbrev pub leaving : ℕ → List Op → ℕ → ℕ → Tuple → Leaving
leaving gateways p j vm x =
    leaving_by (egress (prefix p j) vm x) (dest_by gateways x (live p j (own_net (vm_of (prefix p j) vm)) x.destination))
