-- What becomes of packets: the events of a history that are fates.
use Rattle.std.specs.Prelude.{ℕ, Bool, true, false, List, [], ◌∷◌, Option, Some, None}
use Rattle.std.specs.List.{cons_option}
use Rattle.and_policy.specs.Egress.{number_of}
use Rattle.and_events.specs.declared.event.End.{End}
use Rattle.and_events.specs.declared.event.End.TheVariants.{Queued, Full, Hops}
use Rattle.and_events.specs.declared.event.Departure.{Departure}
use Rattle.and_events.specs.declared.event.Departure.TheVariants as departures
use Rattle.and_events.specs.declared.event.Passage.{Passage}
use Rattle.and_events.specs.declared.event.Passage.TheVariants as passages
use Rattle.and_events.specs.declared.event.Return.{Return}
use Rattle.and_events.specs.declared.event.Return.TheVariants as returns
use Rattle.and_events.specs.declared.event.Arrival.{Arrival}
use Rattle.and_events.specs.declared.event.Arrival.TheVariants as arrivals
use Rattle.and_events.specs.declared.event.Event.{Event}
use Rattle.and_events.specs.declared.event.Event.TheVariants.{Inject, Egress, Sealed, Route, Redirect, Ingress}
use Rattle.and_events.specs.declared.plan.Plan.{Plan}
use Rattle.and_events.specs.State.{State, state, source_net, carried_at}
use Rattle.and_report.specs.declared.fate.Fate.{Fate}
use Rattle.and_report.specs.declared.fate.Fate.TheVariants.{Delivered, Spoofed, NoVm, NoOwner, EgressDenied, IngressDenied, RouteDropped, InBlackout, AtFullQueue, OutOfHops}

-- a try to put a packet into a queue that is a loss
abbrev pub end_fate : End → Option Fate
end_fate Queued = None
end_fate Full = Some AtFullQueue
end_fate Hops = Some OutOfHops

abbrev pub inject_fate : Bool → Option Fate
inject_fate true = Some AtFullQueue
inject_fate false = None

-- of a packet whose source VM is in this network
abbrev pub departure_fate : ℕ → Departure → Option Fate
departure_fate net departures.NoVm = Some NoVm
departure_fate net departures.Spoofed = Some Spoofed
departure_fate net (departures.Denied number) = Some (EgressDenied net number)
departure_fate net (departures.Allowed by sealed dest end) = end_fate end

-- of a packet that came to a gateway under this network
abbrev pub passage_fate : ℕ → Passage → Option Fate
passage_fate net (passages.Dropped by) = Some (RouteDropped net (number_of by))
passage_fate net (passages.NoOwner by) = Some NoOwner
passage_fate net (passages.Send by to host end) = end_fate end
passage_fate net (passages.Hops by) = Some OutOfHops

abbrev pub return_fate : Return → Option Fate
return_fate returns.NoOwner = Some NoOwner
return_fate (returns.Send host end) = end_fate end
return_fate returns.Hops = Some OutOfHops

abbrev pub running_fate : ℕ → ℕ → ℕ → Bool → Fate
running_fate net vm number true = Delivered vm
running_fate net vm number false = IngressDenied net number

-- of a packet that came to a host under this network
abbrev pub arrival_fate : ℕ → Arrival → Option Fate
arrival_fate net arrivals.NoOwner = Some NoOwner
arrival_fate net (arrivals.Running vm by pass) = Some (running_fate net vm (number_of by) pass)
arrival_fate net (arrivals.Blackout vm) = Some InBlackout
arrival_fate net (arrivals.Hairpin vm host end) = end_fate end
arrival_fate net (arrivals.Absent vm gateway end) = end_fate end

-- the fate that an event is, in the state just before it
unfoldable pub fate_by : Plan → State → Event → Option Fate
fate_by plan s (Inject step i full) = inject_fate full
fate_by plan s (Egress a i at way d) = departure_fate (source_net plan i) d
fate_by plan s (Sealed a i end) = end_fate end
fate_by plan s (Route a i at p) = passage_fate (carried_at s i).net p
fate_by plan s (Redirect a i at back) = return_fate back
fate_by plan s (Ingress a i at way arrival) = arrival_fate (carried_at s i).net arrival
fate_by plan s _ = None

-- the fates of a history, the newest first
unfoldable pub fates_of : Plan → List Event → List Fate
fates_of plan [] = []
fates_of plan (e ∷ h) = cons_option (fate_by plan (state plan h) e) (fates_of plan h)
