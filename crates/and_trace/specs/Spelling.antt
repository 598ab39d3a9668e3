-- The trace of a history: a line of words for each event.
use Rattle.std.specs.Prelude.{ℕ, ◌<◌, ◌^◌, Bool, true, false, List, [], ◌∷◌, ◌++◌, codes}
use Rattle.std.specs.List.{flat_map}
use Rattle.and_policy.specs.declared.decision.Name.{Name}
use Rattle.and_policy.specs.declared.decision.Name.TheVariants as names
use Rattle.and_policy.specs.declared.decision.Way.{Way}
use Rattle.and_policy.specs.declared.decision.Way.TheVariants as ways
use Rattle.and_policy.specs.declared.decision.Dest.{Dest}
use Rattle.and_policy.specs.declared.decision.Dest.TheVariants.{Offload, Hover}
use Rattle.and_events.specs.declared.event.Node.{Node}
use Rattle.and_events.specs.declared.event.Node.TheVariants.{Host, Gate}
use Rattle.and_events.specs.declared.event.Actor.{Actor}
use Rattle.and_events.specs.declared.event.Actor.TheVariants.{Worker, Coproc, Gateway}
use Rattle.and_events.specs.declared.event.Queue.{Queue}
use Rattle.and_events.specs.declared.event.Queue.TheVariants.{Out, Wire, Seal}
use Rattle.and_events.specs.declared.event.End.{End}
use Rattle.and_events.specs.declared.event.End.TheVariants.{Queued, Full, Hops}
use Rattle.and_events.specs.declared.event.Departure.{Departure}
use Rattle.and_events.specs.declared.event.Departure.TheVariants.{NoVm, Spoofed, Denied, Allowed}
use Rattle.and_events.specs.declared.event.Passage.{Passage}
use Rattle.and_events.specs.declared.event.Passage.TheVariants as passages
use Rattle.and_events.specs.declared.event.Return.{Return}
use Rattle.and_events.specs.declared.event.Return.TheVariants as returns
use Rattle.and_events.specs.declared.event.Arrival.{Arrival}
use Rattle.and_events.specs.declared.event.Arrival.TheVariants as arrivals
use Rattle.and_events.specs.declared.event.Event.{Event}
use Rattle.and_events.specs.declared.event.Event.TheVariants as events
use Rattle.and_trace.specs.declared.word.Key.{Key}
use Rattle.and_trace.specs.declared.word.Key.TheVariants as keys
use Rattle.and_trace.specs.declared.word.Word.{Word}
use Rattle.and_trace.specs.declared.word.Word.TheVariants.{Text, Number, AtHost, AtGate, HostWorker, HostCoproc, GateWorker}
use Rattle.and_trace.specs.Words.{spelling, key_text}

-- ---- parts of a line

abbrev pub node_word : Node → Word
node_word (Host h) = AtHost h
node_word (Gate g) = AtGate g

-- who takes packets. The last case is met by no event that has a spelling
abbrev pub actor_word : Actor → Word
actor_word (Worker host index) = HostWorker host index
actor_word (Coproc host) = HostCoproc host
actor_word (Gateway g) = GateWorker g
actor_word _ = Text keys.Free

abbrev pub queue_word : Queue → Word
queue_word Out = Text keys.Out
queue_word Wire = Text keys.Wire
queue_word Seal = Text keys.Seal

abbrev pub end_word : End → Word
end_word Queued = Text keys.Queued
end_word Full = Text keys.Full
end_word Hops = Text keys.Hops

abbrev pub way_word : Way → Word
way_word ways.Fast = Text keys.Fast
way_word ways.Slow = Text keys.Slow

abbrev pub full_word : Bool → Word
full_word true = Text keys.Full
full_word false = Text keys.Queued

-- a rule, or a route, by its number
abbrev pub name_words : Key → Name → List Word
name_words kind names.Implied = Text keys.Implied ∷ []
name_words kind (names.Rule number) = Text kind ∷ Number number ∷ []

abbrev pub mark_word : Bool → Word
mark_word true = Text keys.Sealed
mark_word false = Text keys.Plain

abbrev pub dest_words : Dest → List Word
dest_words (Offload host net) = Text keys.Offload ∷ AtHost host ∷ Number net ∷ []
dest_words (Hover gate) = Text keys.Hover ∷ AtGate gate ∷ []

abbrev pub departure_words : Departure → List Word
departure_words NoVm = Text keys.NoVm ∷ []
departure_words Spoofed = Text keys.Spoofed ∷ []
departure_words (Denied number) = Text keys.Denied ∷ Number number ∷ []
departure_words (Allowed by sealed dest end) =
    Text keys.Allow ∷ name_words keys.Rule by ++ mark_word sealed ∷ dest_words dest ++ end_word end ∷ []

abbrev pub passage_words : Passage → List Word
passage_words (passages.Dropped by) = name_words keys.Route by ++ Text keys.Drop ∷ []
passage_words (passages.NoOwner by) = name_words keys.Route by ++ Text keys.NoOwner ∷ []
passage_words (passages.Send by net host end) = name_words keys.Route by ++ Text keys.Send ∷ AtHost host ∷ Number net ∷ end_word end ∷ []
passage_words (passages.Hops by) = name_words keys.Route by ++ Text keys.Hops ∷ []

abbrev pub return_words : Return → List Word
return_words returns.NoOwner = Text keys.NoOwner ∷ []
return_words (returns.Send host end) = Text keys.Send ∷ AtHost host ∷ end_word end ∷ []
return_words returns.Hops = Text keys.Hops ∷ []

abbrev pub verdict_word : Bool → Word
verdict_word true = Text keys.Deliver
verdict_word false = Text keys.Drop

abbrev pub arrival_words : Arrival → List Word
arrival_words arrivals.NoOwner = Text keys.NoOwner ∷ []
arrival_words (arrivals.Running vm by pass) =
    Text keys.Vm ∷ Number vm ∷ Text keys.Running ∷ name_words keys.Rule by ++ verdict_word pass ∷ []
arrival_words (arrivals.Blackout vm) = Text keys.Vm ∷ Number vm ∷ Text keys.Blackout ∷ []
arrival_words (arrivals.Hairpin vm host end) = Text keys.Vm ∷ Number vm ∷ Text keys.Hairpin ∷ AtHost host ∷ end_word end ∷ []
arrival_words (arrivals.Absent vm gate end) = Text keys.Vm ∷ Number vm ∷ Text keys.Absent ∷ AtGate gate ∷ end_word end ∷ []

-- ---- lines

abbrev pub kind_of : Event → Key
kind_of (events.Append step) = keys.Append
kind_of (events.Review step) = keys.Review
kind_of (events.Hold step) = keys.Hold
kind_of (events.Free step) = keys.Free
kind_of (events.Wait step) = keys.Wait
kind_of (events.Inject step i full) = keys.Inject
kind_of (events.Blackout step) = keys.Blackout
kind_of (events.Resume step) = keys.Resume
kind_of (events.Finish step) = keys.Finish
kind_of (events.Announce node upto) = keys.Announce
kind_of (events.Installed node upto) = keys.Installed
kind_of (events.Take a q i) = keys.Take
kind_of (events.Egress a i at way d) = keys.Egress
kind_of (events.Sealed a i end) = keys.Sealed
kind_of (events.Route a i at p) = keys.Route
kind_of (events.Redirect a i at back) = keys.Redirect
kind_of (events.Ingress a i at way arrival) = keys.Ingress
kind_of (events.Unpin host vm) = keys.Unpin

-- the words after the first
abbrev pub rest_of : Event → List Word
rest_of (events.Append step) = Number step ∷ []
rest_of (events.Review step) = Number step ∷ []
rest_of (events.Hold step) = Number step ∷ []
rest_of (events.Free step) = Number step ∷ []
rest_of (events.Wait step) = Number step ∷ []
rest_of (events.Inject step i full) = Number step ∷ Number i ∷ full_word full ∷ []
rest_of (events.Blackout step) = Number step ∷ []
rest_of (events.Resume step) = Number step ∷ []
rest_of (events.Finish step) = Number step ∷ []
rest_of (events.Announce node upto) = node_word node ∷ Number upto ∷ []
rest_of (events.Installed node upto) = node_word node ∷ Number upto ∷ []
rest_of (events.Take a q i) = actor_word a ∷ queue_word q ∷ Number i ∷ []
rest_of (events.Egress a i at way d) = actor_word a ∷ Number i ∷ Number at ∷ way_word way ∷ departure_words d
rest_of (events.Sealed a i end) = actor_word a ∷ Number i ∷ end_word end ∷ []
rest_of (events.Route a i at p) = actor_word a ∷ Number i ∷ Number at ∷ passage_words p
rest_of (events.Redirect a i at back) = actor_word a ∷ Number i ∷ Number at ∷ return_words back
rest_of (events.Ingress a i at way arrival) = actor_word a ∷ Number i ∷ Number at ∷ way_word way ∷ arrival_words arrival
rest_of (events.Unpin host vm) = AtHost host ∷ Number vm ∷ []

-- the event takes a packet, or is what became of one in hand
abbrev pub MovesPacket : Event → Type 0
MovesPacket (events.Take a q i) = Unit {0}
MovesPacket (events.Egress a i at way d) = Unit {0}
MovesPacket (events.Sealed a i end) = Unit {0}
MovesPacket (events.Route a i at p) = Unit {0}
MovesPacket (events.Redirect a i at back) = Unit {0}
MovesPacket (events.Ingress a i at way arrival) = Unit {0}
MovesPacket _ = ⊥

-- a word with one space before it
abbrev pub spaced : Word → List ℕ
spaced w = 32 ∷ spelling w

-- words with one space between
abbrev pub said : Event → List ℕ
said e = key_text (kind_of e) ++ flat_map spaced (rest_of e)

-- and a line feed at the end
abbrev pub line_of : Event → List ℕ
line_of e = said e ++ 10 ∷ []

abbrev pub title : List ℕ
title = codes "andromeda trace 1\n"

-- the trace of a history, whose newest event is first; the oldest has the first line under the title
unfoldable pub trace : List Event → List ℕ
trace [] = title
trace (e ∷ h) = trace h ++ line_of e

-- ---- what has a spelling

abbrev pub TakesPackets : Actor → Type 0
TakesPackets (Worker host index) = Unit {0}
TakesPackets (Coproc host) = Unit {0}
TakesPackets (Gateway g) = Unit {0}
TakesPackets _ = ⊥

-- an event's actor, if it names one, is a worker, a coprocessor or a gateway's worker
abbrev pub HasSpelling : Event → Type 0
HasSpelling (events.Take a q i) = TakesPackets a
HasSpelling (events.Egress a i at way d) = TakesPackets a
HasSpelling (events.Sealed a i end) = TakesPackets a
HasSpelling (events.Route a i at p) = TakesPackets a
HasSpelling (events.Redirect a i at back) = TakesPackets a
HasSpelling (events.Ingress a i at way arrival) = TakesPackets a
HasSpelling _ = Unit {0}

-- numbers of at most 64 bits; those of an event have 32
abbrev pub FitsWord : Word → Type 0
FitsWord (Text k) = Unit {0}
FitsWord (Number n) = n < 2 ^ 64
FitsWord (AtHost host) = host < 2 ^ 64
FitsWord (AtGate gate) = gate < 2 ^ 64
FitsWord (HostWorker host index) = (host < 2 ^ 64) × (index < 2 ^ 64)
FitsWord (HostCoproc host) = host < 2 ^ 64
FitsWord (GateWorker gate) = gate < 2 ^ 64

abbrev pub FitWords : List Word → Type 0
FitWords [] = Unit {0}
FitWords (w ∷ ws) = FitsWord w × FitWords ws

-- every event of the history has a spelling
unfoldable pub IsSpelled : List Event → Type 0
IsSpelled [] = Unit {0}
IsSpelled (e ∷ h) = IsSpelled h × HasSpelling e × FitWords (rest_of e)

-- every event of the history, if it names an actor, names one that takes packets
unfoldable pub HaveSpellings : List Event → Type 0
HaveSpellings [] = Unit {0}
HaveSpellings (e ∷ h) = HaveSpellings h × HasSpelling e
