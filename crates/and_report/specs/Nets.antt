-- The networks of VMs and of packets, as the pass over the lines keeps them.
use Rattle.std.specs.Prelude.{◌≡◌, ℕ, ◌≤◌, ◌^◌, List, map, slice_set, slice_index_or, Option, None}
use Rattle.and_policy.specs.declared.placements.Placements.{Placements}
use Rattle.and_policy.specs.Placements.{ArePlacements}
use Rattle.and_policy.specs.Programmes.{net_of_vm}
use Rattle.and_events.specs.declared.event.Carried.{Carried}
use Rattle.and_events.specs.declared.event.End.TheVariants.{Queued}
use Rattle.and_events.specs.declared.event.Departure.{Departure}
use Rattle.and_events.specs.declared.event.Departure.TheVariants.{Allowed}
use Rattle.and_events.specs.declared.event.Passage.{Passage}
use Rattle.and_events.specs.declared.event.Passage.TheVariants.{Send}
use Rattle.and_events.specs.declared.event.Event.{Event}
use Rattle.and_events.specs.declared.event.Event.TheVariants.{Inject, Egress, Sealed, Route, Redirect, Ingress}
use Rattle.and_events.specs.declared.plan.Plan.{Plan}
use Rattle.and_events.specs.State.{state, source_net, dest_net}
use Rattle.and_report.specs.declared.fate.Fate.{Fate}
use Rattle.and_report.specs.Fates.{inject_fate, departure_fate, end_fate, passage_fate, return_fate, arrival_fate}

-- ---- VMs

-- the placements are those of the plan's log, where each VM has a number of 32 bits
pub record AreVmNets (plan : Plan) (nets : Placements) : Type 0 where
  pub placements : ArePlacements nets plan.log
  pub short : (vm : ℕ) → 2 ^ 32 ≤ vm → net_of_vm plan.log vm ≡ None

-- ---- packets

abbrev pub net_of : Carried → ℕ
net_of c = c.net

-- the network that each packet carries after a history
abbrev pub nets_in : Plan → List Event → List ℕ
nets_in plan h = map net_of (state plan h).flow.carried

abbrev pub departs_under : ℕ → List ℕ → ℕ → Departure → List ℕ
departs_under own nets i (Allowed by sealed dest Queued) = slice_set nets i (dest_net own dest)
departs_under own nets i _ = nets

abbrev pub passes_under : List ℕ → ℕ → Passage → List ℕ
passes_under nets i (Send by net host Queued) = slice_set nets i net
passes_under nets i _ = nets

-- the networks after an event. A coprocessor, a redirect and a hairpin send a packet on under the network that it has
abbrev pub nets_after : Plan → List ℕ → Event → List ℕ
nets_after plan nets (Egress a i at way d) = departs_under (source_net plan i) nets i d
nets_after plan nets (Route a i at p) = passes_under nets i p
nets_after plan nets _ = nets

-- the fate that an event is, where packets carry these networks
abbrev pub fate_under : Plan → List ℕ → Event → Option Fate
fate_under plan nets (Inject step i full) = inject_fate full
fate_under plan nets (Egress a i at way d) = departure_fate (source_net plan i) d
fate_under plan nets (Sealed a i end) = end_fate end
fate_under plan nets (Route a i at p) = passage_fate (slice_index_or nets i 0) p
fate_under plan nets (Redirect a i at back) = return_fate back
fate_under plan nets (Ingress a i at way arrival) = arrival_fate (slice_index_or nets i 0) arrival
fate_under plan nets _ = None
