-- The decisions about a packet, one event further, and what each says.
use Rattle.std.specs.Prelude.{◌≡◌, ◌⊎◌, ℕ, Bool, List, [], ◌∷◌, ◌==◌, if◌then◌else◌}
use Rattle.and_policy.specs.declared.entry.Entry.{Entry}
use Rattle.and_policy.specs.declared.decision.Name.{Name}
use Rattle.and_policy.specs.declared.decision.Dest.{Dest}
use Rattle.and_policy.specs.declared.decision.Dest.TheVariants.{Offload, Hover}
use Rattle.and_policy.specs.declared.decision.Exit.{Exit}
use Rattle.and_policy.specs.declared.decision.Exit.TheVariants as exits
use Rattle.and_policy.specs.declared.decision.Routed.{Routed}
use Rattle.and_policy.specs.declared.decision.Routed.TheVariants as routeds
use Rattle.and_policy.specs.Egress.{egress}
use Rattle.and_policy.specs.Owners.{routed}
use Rattle.and_events.specs.declared.event.Actor.{Actor}
use Rattle.and_events.specs.declared.event.Queue.TheVariants.{Seal}
use Rattle.and_events.specs.declared.event.End.{End}
use Rattle.and_events.specs.declared.event.End.TheVariants.{Queued, Full, Hops}
use Rattle.and_events.specs.declared.event.Departure.TheVariants.{Allowed}
use Rattle.and_events.specs.declared.event.Passage.TheVariants as passages
use Rattle.and_events.specs.declared.event.Event.{Event}
use Rattle.and_events.specs.declared.event.Event.TheVariants.{Egress, Route}
use Rattle.and_events.specs.declared.plan.Plan.{Plan}
use Rattle.and_events.specs.Just.{Left, Led, address, IsFull}
use Rattle.and_events.specs.Legal.{entries_at}
use Rattle.and_events.specs.Places.{queue_place, node_of}
use Rattle.and_events.specs.State.{State, packet_at, tuple_at, source_net}

abbrev pub with_egress : Plan → State → ℕ → List Left → Event → List Left
with_egress plan s i found (Egress a j at way d) = if j == i then record { behind = entries_at plan s a at; said = d } ∷ found else found
with_egress plan s i found _ = found

abbrev pub with_route : Plan → State → ℕ → List Led → Event → List Led
with_route plan s i found (Route a j at p) = if j == i then record { behind = entries_at plan s a at; said = p } ∷ found else found
with_route plan s i found _ = found

-- what the egress rules, and the route of the source network, say of the packet under these entries
abbrev pub exit_of : Plan → ℕ → List Entry → Exit
exit_of plan i k = egress k (packet_at plan i).vm (tuple_at plan i)

abbrev pub routed_from : Plan → ℕ → List Entry → Routed
routed_from plan i k = routed k (source_net plan i) (address plan i)

-- the Egress sends the packet there, and its entries allow it by the name that is written
abbrev pub Allows : Plan → ℕ → Left → Dest → Type 0
Allows plan i left dest =
    (by : Name) × (sealed : Bool) × (end : End) × (left.said ≡ Allowed by sealed dest end) × (exit_of plan i left.behind ≡ exits.Allowed by sealed)

-- the route leads to this network and host, by some name
abbrev pub LeadsTo : Routed → ℕ → ℕ → Type 0
LeadsTo said net host = (by : Name) × (said ≡ routeds.To by net host)

-- the Route sends the packet into this network, and its entries give it by the name that is written
abbrev pub SendsInto : Plan → ℕ → Led → ℕ → Type 0
SendsInto plan i led net =
    (by : Name) × (host : ℕ) × (end : End) × (led.said ≡ passages.Send by net host end) × (routed_from plan i led.behind ≡ routeds.To by net host)

-- there is one Route of the packet, and it sends the packet into this network
abbrev pub SentOnce : Plan → ℕ → List Led → ℕ → Type 0
SentOnce plan i leds net = (led : Led) × (leds ≡ led ∷ []) × SendsInto plan i led net

-- the Egress leads the packet into this network: by an offload to which the route leads, or to a gateway and by the one Route
abbrev pub Leads : Plan → ℕ → Left → List Led → ℕ → Type 0
Leads plan i left leds net =
    ((host : ℕ) × Allows plan i left (Offload host net) × LeadsTo (routed_from plan i left.behind) net host)
    ⊎ (((gateway : ℕ) × Allows plan i left (Hover gateway)) × SentOnce plan i leds net)

-- there is one Egress of the packet, and it leads the packet into this network
abbrev pub LedOnce : Plan → ℕ → List Left → List Led → ℕ → Type 0
LedOnce plan i lefts leds net = (left : Left) × (lefts ≡ left ∷ []) × Leads plan i left leds net

-- a packet that is to be sealed ended so: nothing is sent, so no hop can be wanting
abbrev pub LostAtSeal : Plan → State → Actor → End → Type 0
LostAtSeal plan s a Queued = Unit {0}
LostAtSeal plan s a Full = IsFull plan s (queue_place plan.settings (node_of a) Seal)
LostAtSeal plan s a Hops = ⊥
