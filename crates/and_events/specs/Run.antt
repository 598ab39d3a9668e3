-- Runs; what became of each packet, and where it is.
use Rattle.std.specs.Prelude.{◌≡◌, ℕ, ◌+◌, ◌<◌, Bool, true, false, ◌==◌, cond, List, [], ◌∷◌, length, Option, Some, None}
use Rattle.std.specs.List.{fold, filter}
use Rattle.and_events.specs.declared.event.End.{End}
use Rattle.and_events.specs.declared.event.End.TheVariants.{Queued, Full, Hops}
use Rattle.and_events.specs.declared.event.Departure.{Departure}
use Rattle.and_events.specs.declared.event.Departure.TheVariants.{NoVm, Spoofed, Denied, Allowed}
use Rattle.and_events.specs.declared.event.Passage.{Passage}
use Rattle.and_events.specs.declared.event.Passage.TheVariants as passages
use Rattle.and_events.specs.declared.event.Return.{Return}
use Rattle.and_events.specs.declared.event.Return.TheVariants as returns
use Rattle.and_events.specs.declared.event.Arrival.{Arrival}
use Rattle.and_events.specs.declared.event.Arrival.TheVariants as arrivals
use Rattle.and_events.specs.declared.event.Event.{Event}
use Rattle.and_events.specs.declared.event.Event.TheVariants.{Inject, Egress, Sealed, Route, Redirect, Ingress}
use Rattle.and_events.specs.declared.event.Line.{Line}
use Rattle.and_events.specs.declared.plan.Plan.{Plan}
use Rattle.and_events.specs.Flow.{Move, Send, placed}
use Rattle.and_events.specs.State.{State, state, move_of}
use Rattle.and_events.specs.Legal.{Legal}

-- each event is legal in the state just before it. The newest event is first
unfoldable pub Run : Plan → List Event → Type 0
Run plan [] = Unit {0}
Run plan (e ∷ h) = Run plan h × Legal plan (state plan h) e

-- the events of lines, the oldest of which is first, as a history, whose newest event is first
abbrev pub past : List Line → List Event
past lines = fold (λ h l. l.event ∷ h) [] lines

-- ---- fates

abbrev pub end_fate : ℕ → End → Option ℕ
end_fate i Queued = None
end_fate i Full = Some i
end_fate i Hops = Some i

abbrev pub departure_fate : ℕ → Departure → Option ℕ
departure_fate i (Allowed by sealed dest end) = end_fate i end
departure_fate i _ = Some i

abbrev pub passage_fate : ℕ → Passage → Option ℕ
passage_fate i (passages.Send by net host end) = end_fate i end
passage_fate i _ = Some i

abbrev pub return_fate : ℕ → Return → Option ℕ
return_fate i (returns.Send host end) = end_fate i end
return_fate i _ = Some i

abbrev pub arrival_fate : ℕ → Arrival → Option ℕ
arrival_fate i (arrivals.Hairpin vm host end) = end_fate i end
arrival_fate i (arrivals.Absent vm gateway end) = end_fate i end
arrival_fate i _ = Some i

-- the packet whose fate an event is
unfoldable pub fate_of : Event → Option ℕ
fate_of (Inject step i true) = Some i
fate_of (Egress a i at way d) = departure_fate i d
fate_of (Sealed a i end) = end_fate i end
fate_of (Route a i at p) = passage_fate i p
fate_of (Redirect a i at back) = return_fate i back
fate_of (Ingress a i at way arrival) = arrival_fate i arrival
fate_of _ = None

abbrev pub is_it : ℕ → Option ℕ → Bool
is_it i None = false
is_it i (Some j) = j == i

-- the events that are fates of the packet
unfoldable pub fates : List Event → ℕ → List Event
fates h i = filter (λ e. is_it i (fate_of e)) h

-- ---- injections, places, sends

-- the packet that an event injects
unfoldable pub injected_by : Event → Option ℕ
injected_by (Inject step i full) = Some i
injected_by _ = None

-- how often the packet was injected
unfoldable pub injections : List Event → ℕ → ℕ
injections [] i = 0
injections (e ∷ h) i = cond (is_it i (injected_by e)) 1 0 + injections h i

-- how many places the packet has: those in queues, and the hands that hold it
abbrev pub places : Plan → List Event → ℕ → ℕ
places plan h i = placed i (state plan h).flow

-- the event is a send of the packet: the packet enters a `wire` queue
abbrev pub is_send : ℕ → Move → Bool
is_send i (Send a q j net target) = j == i
is_send i _ = false

-- how often the packet was sent
unfoldable pub sends : Plan → List Event → ℕ → ℕ
sends plan [] i = 0
sends plan (e ∷ h) i = cond (is_send i (move_of plan (state plan h) e)) 1 0 + sends plan h i
