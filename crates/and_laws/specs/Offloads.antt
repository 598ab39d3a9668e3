-- Orders and offloads that lead where the route leads.
use Rattle.std.specs.Prelude.{◌≡◌, ℕ, List, [], ◌∷◌, ◌++◌, Some}
use Rattle.and_policy.specs.declared.entry.Entry.{Entry}
use Rattle.and_policy.specs.declared.entry.Order.{Order}
use Rattle.and_policy.specs.declared.entry.Op.{Op}
use Rattle.and_policy.specs.declared.entry.Op.TheVariants as ops
use Rattle.and_policy.specs.declared.decision.Name.{Name}
use Rattle.and_policy.specs.declared.decision.Dest.TheVariants.{Offload}
use Rattle.and_policy.specs.declared.decision.Routed.TheVariants as routeds
use Rattle.and_policy.specs.Owners.{routed}
use Rattle.and_policy.specs.Programmes.{prefix, live}
use Rattle.and_events.specs.declared.event.Node.{Node}
use Rattle.and_events.specs.declared.event.Departure.TheVariants.{Allowed}
use Rattle.and_events.specs.declared.event.Event.{Event}
use Rattle.and_events.specs.declared.event.Event.TheVariants.{Egress}
use Rattle.and_events.specs.declared.plan.Plan.{Plan}
use Rattle.and_events.specs.Places.{IsNode}
use Rattle.and_events.specs.State.{state, source_net, programme_of}
use Rattle.and_events.specs.Legal.{entries_at}
use Rattle.and_events.specs.Just.{address}

-- ---- orders

-- the order leads where the route of its source network leads, under these entries
abbrev pub IsRouted : List Entry → Order → Type 0
IsRouted k order = (by : Name) × (routed k order.net order.ip ≡ routeds.To by order.to_net order.to_host)

-- so does each order among the operations, under the entries before it; these follow the entries k
abbrev pub AllRouted : List Entry → List Op → Type 0
AllRouted k [] = Unit {0}
AllRouted k (ops.Entry entry ∷ later) = AllRouted (k ++ entry ∷ []) later
AllRouted k (ops.Offload order ∷ later) = IsRouted k order × AllRouted k later

-- at each node an order that lives at some number of operations leads where the route leads, under the entries behind that number
abbrev pub HasRightOrders : Plan → List Event → Type 0
HasRightOrders plan h =
    (node : Node) → IsNode plan.settings node → (j net ip : ℕ) (order : Order) → live (programme_of plan (state plan h) node) j net ip ≡ Some order
    → (by : Name) × (routed (prefix (programme_of plan (state plan h) node) j) net ip ≡ routeds.To by order.to_net order.to_host)

-- ---- offloads

-- an Egress that offloads its packet sends it where the route of the source network leads, under the entries behind the Egress
abbrev pub LeadsRight : Plan → List Event → Event → Type 0
LeadsRight plan h (Egress a i at way (Allowed by sealed (Offload host net) end)) =
    (route : Name) × (routed (entries_at plan (state plan h) a at) (source_net plan i) (address plan i) ≡ routeds.To route net host)
LeadsRight plan h _ = Unit {0}

-- all offloads of the history do
unfoldable pub HasRightOffloads : Plan → List Event → Type 0
HasRightOffloads plan [] = Unit {0}
HasRightOffloads plan (e ∷ h) = HasRightOffloads plan h × LeadsRight plan h e
