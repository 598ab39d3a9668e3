-- The words of a line name its event: it is read back.
use Rattle.std.proofs.Common.{◌≡◌, Bool, true, false, List, [], ◌∷◌, refl, sym, ap, ◌∙◌}
use Rattle.and_policy.specs.declared.decision.Name.{Name}
use Rattle.and_policy.specs.declared.decision.Name.TheVariants as names
use Rattle.and_policy.specs.declared.decision.Way.{Way}
use Rattle.and_policy.specs.declared.decision.Way.TheVariants as ways
use Rattle.and_policy.specs.declared.decision.Dest.{Dest}
use Rattle.and_policy.specs.declared.decision.Dest.TheVariants.{Offload, Hover}
use Rattle.and_events.specs.declared.event.Node.{Node}
use Rattle.and_events.specs.declared.event.Node.TheVariants.{Host, Gate}
use Rattle.and_events.specs.declared.event.Actor.{Actor}
use Rattle.and_events.specs.declared.event.Actor.TheVariants.{HostInstall, GateInstall, Worker, Coproc, Gateway, Controller, Driver}
use Rattle.and_events.specs.declared.event.Queue.{Queue}
use Rattle.and_events.specs.declared.event.Queue.TheVariants.{Out, Wire, Seal}
use Rattle.and_events.specs.declared.event.End.{End}
use Rattle.and_events.specs.declared.event.End.TheVariants.{Queued, Full, Hops}
use Rattle.and_events.specs.declared.event.Departure.{Departure}
use Rattle.and_events.specs.declared.event.Departure.TheVariants.{NoVm, Spoofed, Denied, Allowed}
use Rattle.and_events.specs.declared.event.Passage.{Passage}
use Rattle.and_events.specs.declared.event.Passage.TheVariants as passages
use Rattle.and_events.specs.declared.event.Return.{Return}
use Rattle.and_events.specs.declared.event.Return.TheVariants as returns
use Rattle.and_events.specs.declared.event.Arrival.{Arrival}
use Rattle.and_events.specs.declared.event.Arrival.TheVariants as arrivals
use Rattle.and_events.specs.declared.event.Event.{Event}
use Rattle.and_events.specs.declared.event.Event.TheVariants as events
use Rattle.and_trace.specs.declared.word.Key.{Key}
use Rattle.and_trace.specs.declared.word.Key.TheVariants as keys
use Rattle.and_trace.specs.declared.word.Word.{Word}
use Rattle.and_trace.specs.declared.word.Word.TheVariants.{Text, Number, AtHost, AtGate, HostWorker, HostCoproc, GateWorker}
use Rattle.and_trace.specs.Spelling.{node_word, actor_word, queue_word, end_word, way_word, full_word, mark_word, verdict_word, departure_words, passage_words, return_words, arrival_words, kind_of, rest_of, HasSpelling, TakesPackets}

-- ---- single words

abbrev node_from : Word → Node
node_from (AtHost h) = Host h
node_from (AtGate g) = Gate g
node_from _ = Host 0

node_is : (n : Node) → node_from (node_word n) ≡ n
node_is (Host h) = refl
node_is (Gate g) = refl

abbrev actor_from : Word → Actor
actor_from (HostWorker host index) = Worker host index
actor_from (HostCoproc host) = Coproc host
actor_from (GateWorker g) = Gateway g
actor_from _ = Driver

actor_is : (a : Actor) → TakesPackets a → actor_from (actor_word a) ≡ a
actor_is (Worker host index) t = refl
actor_is (Coproc host) t = refl
actor_is (Gateway g) t = refl
actor_is (HostInstall h) t = absurd t
actor_is (GateInstall g) t = absurd t
actor_is Controller t = absurd t
actor_is Driver t = absurd t

abbrev queue_from : Word → Queue
queue_from (Text keys.Out) = Out
queue_from (Text keys.Wire) = Wire
queue_from _ = Seal

queue_is : (q : Queue) → queue_from (queue_word q) ≡ q
queue_is Out = refl
queue_is Wire = refl
queue_is Seal = refl

abbrev end_from : Word → End
end_from (Text keys.Queued) = Queued
end_from (Text keys.Full) = Full
end_from _ = Hops

end_is : (e : End) → end_from (end_word e) ≡ e
end_is Queued = refl
end_is Full = refl
end_is Hops = refl

abbrev way_from : Word → Way
way_from (Text keys.Fast) = ways.Fast
way_from _ = ways.Slow

way_is : (w : Way) → way_from (way_word w) ≡ w
way_is ways.Fast = refl
way_is ways.Slow = refl

abbrev full_from : Word → Bool
full_from (Text keys.Full) = true
full_from _ = false

full_is : (b : Bool) → full_from (full_word b) ≡ b
full_is true = refl
full_is false = refl

abbrev mark_from : Word → Bool
mark_from (Text keys.Sealed) = true
mark_from _ = false

mark_is : (b : Bool) → mark_from (mark_word b) ≡ b
mark_is true = refl
mark_is false = refl

abbrev verdict_from : Word → Bool
verdict_from (Text keys.Deliver) = true
verdict_from _ = false

verdict_is : (b : Bool) → verdict_from (verdict_word b) ≡ b
verdict_is true = refl
verdict_is false = refl

-- ---- departures

abbrev allowed_from : Name → Word → List Word → Departure
allowed_from by m (Text keys.Offload ∷ AtHost h ∷ Number net ∷ e ∷ []) = Allowed by (mark_from m) (Offload h net) (end_from e)
allowed_from by m (Text keys.Hover ∷ AtGate g ∷ e ∷ []) = Allowed by (mark_from m) (Hover g) (end_from e)
allowed_from by m _ = NoVm

abbrev departure_from : List Word → Departure
departure_from (Text keys.Spoofed ∷ []) = Spoofed
departure_from (Text keys.Denied ∷ Number n ∷ []) = Denied n
departure_from (Text keys.Allow ∷ Text keys.Implied ∷ m ∷ ws) = allowed_from names.Implied m ws
departure_from (Text keys.Allow ∷ Text keys.Rule ∷ Number n ∷ m ∷ ws) = allowed_from (names.Rule n) m ws
departure_from _ = NoVm

allowed_is : (by : Name) (sealed : Bool) (dest : Dest) (end : End)
    → Allowed by (mark_from (mark_word sealed)) dest (end_from (end_word end)) ≡ Allowed by sealed dest end
allowed_is by sealed dest end =
    ap (λ m. Allowed by m dest (end_from (end_word end))) (mark_is sealed) ∙ ap (λ e. Allowed by sealed dest e) (end_is end)

departure_is : (d : Departure) → departure_from (departure_words d) ≡ d
departure_is NoVm = refl
departure_is Spoofed = refl
departure_is (Denied n) = refl
departure_is (Allowed names.Implied sealed (Offload host net) end) = allowed_is names.Implied sealed (Offload host net) end
departure_is (Allowed names.Implied sealed (Hover g) end) = allowed_is names.Implied sealed (Hover g) end
departure_is (Allowed (names.Rule n) sealed (Offload host net) end) = allowed_is (names.Rule n) sealed (Offload host net) end
departure_is (Allowed (names.Rule n) sealed (Hover g) end) = allowed_is (names.Rule n) sealed (Hover g) end

-- ---- passages

abbrev led_from : Name → List Word → Passage
led_from by (Text keys.Drop ∷ []) = passages.Dropped by
led_from by (Text keys.NoOwner ∷ []) = passages.NoOwner by
led_from by (Text keys.Send ∷ AtHost host ∷ Number net ∷ e ∷ []) = passages.Send by net host (end_from e)
led_from by _ = passages.Hops by

abbrev passage_from : List Word → Passage
passage_from (Text keys.Route ∷ Number n ∷ ws) = led_from (names.Rule n) ws
passage_from (Text keys.Implied ∷ ws) = led_from names.Implied ws
passage_from _ = passages.Hops names.Implied

passage_is : (p : Passage) → passage_from (passage_words p) ≡ p
passage_is (passages.Dropped names.Implied) = refl
passage_is (passages.Dropped (names.Rule n)) = refl
passage_is (passages.NoOwner names.Implied) = refl
passage_is (passages.NoOwner (names.Rule n)) = refl
passage_is (passages.Send names.Implied net host end) = ap (λ e. passages.Send names.Implied net host e) (end_is end)
passage_is (passages.Send (names.Rule n) net host end) = ap (λ e. passages.Send (names.Rule n) net host e) (end_is end)
passage_is (passages.Hops names.Implied) = refl
passage_is (passages.Hops (names.Rule n)) = refl

-- ---- returns

abbrev return_from : List Word → Return
return_from (Text keys.Send ∷ AtHost host ∷ e ∷ []) = returns.Send host (end_from e)
return_from (Text keys.Hops ∷ []) = returns.Hops
return_from _ = returns.NoOwner

return_is : (b : Return) → return_from (return_words b) ≡ b
return_is returns.NoOwner = refl
return_is (returns.Send host end) = ap (λ e. returns.Send host e) (end_is end)
return_is returns.Hops = refl

-- ---- arrivals

abbrev arrival_from : List Word → Arrival
arrival_from (Text keys.Vm ∷ Number vm ∷ Text keys.Running ∷ Text keys.Implied ∷ v ∷ []) = arrivals.Running vm names.Implied (verdict_from v)
arrival_from (Text keys.Vm ∷ Number vm ∷ Text keys.Running ∷ Text keys.Rule ∷ Number n ∷ v ∷ []) = arrivals.Running vm (names.Rule n) (verdict_from v)
arrival_from (Text keys.Vm ∷ Number vm ∷ Text keys.Blackout ∷ []) = arrivals.Blackout vm
arrival_from (Text keys.Vm ∷ Number vm ∷ Text keys.Hairpin ∷ AtHost host ∷ e ∷ []) = arrivals.Hairpin vm host (end_from e)
arrival_from (Text keys.Vm ∷ Number vm ∷ Text keys.Absent ∷ AtGate gate ∷ e ∷ []) = arrivals.Absent vm gate (end_from e)
arrival_from _ = arrivals.NoOwner

arrival_is : (r : Arrival) → arrival_from (arrival_words r) ≡ r
arrival_is arrivals.NoOwner = refl
arrival_is (arrivals.Running vm names.Implied pass) = ap (λ b. arrivals.Running vm names.Implied b) (verdict_is pass)
arrival_is (arrivals.Running vm (names.Rule n) pass) = ap (λ b. arrivals.Running vm (names.Rule n) b) (verdict_is pass)
arrival_is (arrivals.Blackout vm) = refl
arrival_is (arrivals.Hairpin vm host end) = ap (λ e. arrivals.Hairpin vm host e) (end_is end)
arrival_is (arrivals.Absent vm gate end) = ap (λ e. arrivals.Absent vm gate e) (end_is end)

-- ---- events

abbrev pub event_from : Key → List Word → Event
event_from keys.Append (Number s ∷ []) = events.Append s
event_from keys.Review (Number s ∷ []) = events.Review s
event_from keys.Hold (Number s ∷ []) = events.Hold s
event_from keys.Free (Number s ∷ []) = events.Free s
event_from keys.Wait (Number s ∷ []) = events.Wait s
event_from keys.Inject (Number s ∷ Number i ∷ f ∷ []) = events.Inject s i (full_from f)
event_from keys.Blackout (Number s ∷ []) = events.Blackout s
event_from keys.Resume (Number s ∷ []) = events.Resume s
event_from keys.Finish (Number s ∷ []) = events.Finish s
event_from keys.Announce (n ∷ Number upto ∷ []) = events.Announce (node_from n) upto
event_from keys.Installed (n ∷ Number upto ∷ []) = events.Installed (node_from n) upto
event_from keys.Take (a ∷ q ∷ Number i ∷ []) = events.Take (actor_from a) (queue_from q) i
event_from keys.Egress (a ∷ Number i ∷ Number at ∷ w ∷ ws) = events.Egress (actor_from a) i at (way_from w) (departure_from ws)
event_from keys.Sealed (a ∷ Number i ∷ e ∷ []) = events.Sealed (actor_from a) i (end_from e)
event_from keys.Route (a ∷ Number i ∷ Number at ∷ ws) = events.Route (actor_from a) i at (passage_from ws)
event_from keys.Redirect (a ∷ Number i ∷ Number at ∷ ws) = events.Redirect (actor_from a) i at (return_from ws)
event_from keys.Ingress (a ∷ Number i ∷ Number at ∷ w ∷ ws) = events.Ingress (actor_from a) i at (way_from w) (arrival_from ws)
event_from keys.Unpin (AtHost host ∷ Number vm ∷ []) = events.Unpin host vm
event_from _ _ = events.Finish 0

pub event_is : (e : Event) → HasSpelling e → event_from (kind_of e) (rest_of e) ≡ e
event_is (events.Append s) has = refl
event_is (events.Review s) has = refl
event_is (events.Hold s) has = refl
event_is (events.Free s) has = refl
event_is (events.Wait s) has = refl
event_is (events.Inject s i full) has = ap (λ b. events.Inject s i b) (full_is full)
event_is (events.Blackout s) has = refl
event_is (events.Resume s) has = refl
event_is (events.Finish s) has = refl
event_is (events.Announce node upto) has = ap (λ n. events.Announce n upto) (node_is node)
event_is (events.Installed node upto) has = ap (λ n. events.Installed n upto) (node_is node)
event_is (events.Take a q i) has = ap (λ b. events.Take b (queue_from (queue_word q)) i) (actor_is a has) ∙ ap (λ r. events.Take a r i) (queue_is q)
event_is (events.Egress a i at way d) has =
    ap (λ b. events.Egress b i at (way_from (way_word way)) (departure_from (departure_words d))) (actor_is a has)
    ∙ (ap (λ w. events.Egress a i at w (departure_from (departure_words d))) (way_is way) ∙ ap (λ x. events.Egress a i at way x) (departure_is d))
event_is (events.Sealed a i end) has = ap (λ b. events.Sealed b i (end_from (end_word end))) (actor_is a has) ∙ ap (λ e. events.Sealed a i e) (end_is end)
event_is (events.Route a i at p) has =
    ap (λ b. events.Route b i at (passage_from (passage_words p))) (actor_is a has) ∙ ap (λ x. events.Route a i at x) (passage_is p)
event_is (events.Redirect a i at back) has =
    ap (λ b. events.Redirect b i at (return_from (return_words back))) (actor_is a has) ∙ ap (λ x. events.Redirect a i at x) (return_is back)
event_is (events.Ingress a i at way r) has =
    ap (λ b. events.Ingress b i at (way_from (way_word way)) (arrival_from (arrival_words r))) (actor_is a has)
    ∙ (ap (λ w. events.Ingress a i at w (arrival_from (arrival_words r))) (way_is way) ∙ ap (λ x. events.Ingress a i at way x) (arrival_is r))
event_is (events.Unpin host vm) has = refl

-- two events with the same words are one
pub same_event : (e f : Event) → HasSpelling e → HasSpelling f → kind_of e ≡ kind_of f → rest_of e ≡ rest_of f → e ≡ f
same_event e f a b kind rest =
    sym (event_is e a) ∙ (ap (λ k. event_from k (rest_of e)) kind ∙ (ap (λ ws. event_from (kind_of f) ws) rest ∙ event_is f b))
