-- What the words of a line name, wherever they are those that are written for an event. Of other words nothing is asked: a reader prints what
-- they name, and compares.
use Rattle.std.specs.Prelude.{ℕ, zero, suc, ◌+◌, ◌-◌, ◌*◌, ◌%◌, ◌^◌, Bool, false, ◌==◌, ◌||◌, if◌then◌else◌, List, [], ◌∷◌, drop, fold, bytes_eq, codes}
use Rattle.std.specs.List.{before_first, after_first}
use Rattle.and_policy.specs.declared.decision.Name.{Name}
use Rattle.and_policy.specs.declared.decision.Name.TheVariants as names
use Rattle.and_policy.specs.declared.decision.Way.{Way}
use Rattle.and_policy.specs.declared.decision.Way.TheVariants as ways
use Rattle.and_policy.specs.declared.decision.Dest.TheVariants.{Offload, Hover}
use Rattle.and_events.specs.declared.event.Node.{Node}
use Rattle.and_events.specs.declared.event.Node.TheVariants.{Host, Gate}
use Rattle.and_events.specs.declared.event.Actor.{Actor}
use Rattle.and_events.specs.declared.event.Actor.TheVariants.{Worker, Coproc, Gateway}
use Rattle.and_events.specs.declared.event.Queue.{Queue}
use Rattle.and_events.specs.declared.event.Queue.TheVariants.{Out, Wire, Seal}
use Rattle.and_events.specs.declared.event.End.{End}
use Rattle.and_events.specs.declared.event.End.TheVariants.{Queued, Full, Hops}
use Rattle.and_events.specs.declared.event.Departure.{Departure}
use Rattle.and_events.specs.declared.event.Departure.TheVariants.{NoVm, Spoofed, Denied, Allowed}
use Rattle.and_events.specs.declared.event.Passage.{Passage}
use Rattle.and_events.specs.declared.event.Passage.TheVariants as passages
use Rattle.and_events.specs.declared.event.Return.{Return}
use Rattle.and_events.specs.declared.event.Return.TheVariants as returns
use Rattle.and_events.specs.declared.event.Arrival.{Arrival}
use Rattle.and_events.specs.declared.event.Arrival.TheVariants as arrivals
use Rattle.and_events.specs.declared.event.Event.{Event}
use Rattle.and_events.specs.declared.event.Event.TheVariants as events

-- ---- words

-- what stands before the first such byte, and what stands behind it
unfoldable pub upto : ℕ → List ℕ → List ℕ
upto mark xs = before_first (λ c. c == mark) xs

unfoldable pub past : ℕ → List ℕ → List ℕ
past mark xs = after_first (λ c. c == mark) xs

-- what is left after so many words, and the word that comes then
abbrev pub skip : ℕ → List ℕ → List ℕ
skip zero r = r
skip (suc n) r = skip n (past 32 r)

abbrev pub nth : ℕ → List ℕ → List ℕ
nth n r = upto 32 (skip n r)

-- whether the text begins with this byte
abbrev pub starts : ℕ → List ℕ → Bool
starts c [] = false
starts c (x ∷ xs) = x == c

-- ---- single words

-- a number of 32 bits with a digit behind it
abbrev pub digit_after : ℕ → ℕ → ℕ
digit_after n digit = (n * 10 % 2 ^ 32 + (digit - 48)) % 2 ^ 32

unfoldable pub number_in : List ℕ → ℕ
number_in w = fold digit_after 0 w

-- the number behind a letter
abbrev pub place_in : List ℕ → ℕ
place_in w = number_in (drop 1 w)

abbrev pub node_in : List ℕ → Node
node_in w = if starts 103 w then Gate (place_in w) else Host (place_in w)

abbrev pub actor_at : List ℕ → List ℕ → Actor
actor_at at role = if starts 103 at then Gateway (place_in at) else (if starts 99 role then Coproc (place_in at) else Worker (place_in at) (place_in role))

abbrev pub actor_in : List ℕ → Actor
actor_in w = actor_at (upto 46 w) (past 46 w)

abbrev pub queue_in : List ℕ → Queue
queue_in w = if bytes_eq w (codes "out") then Out else (if bytes_eq w (codes "wire") then Wire else Seal)

abbrev pub end_in : List ℕ → End
end_in w = if bytes_eq w (codes "queued") then Queued else (if bytes_eq w (codes "full") then Full else Hops)

abbrev pub way_in : List ℕ → Way
way_in w = if bytes_eq w (codes "fast") then ways.Fast else ways.Slow

-- ---- parts of a line, each chosen by one of its words

abbrev pub name_of : List ℕ → List ℕ → Name
name_of w r = if bytes_eq w (codes "implied") then names.Implied else names.Rule (number_in (nth 1 r))

abbrev pub name_in : List ℕ → Name
name_in r = name_of (nth 0 r) r

abbrev pub past_name_of : List ℕ → List ℕ → List ℕ
past_name_of w r = if bytes_eq w (codes "implied") then skip 1 r else skip 2 r

abbrev pub past_name : List ℕ → List ℕ
past_name r = past_name_of (nth 0 r) r

abbrev pub allowed_of : List ℕ → Name → List ℕ → Departure
allowed_of w by r = if bytes_eq w (codes "hover")
    then Allowed by (bytes_eq (nth 0 r) (codes "sealed")) (Hover (place_in (nth 2 r))) (end_in (nth 3 r))
    else Allowed by (bytes_eq (nth 0 r) (codes "sealed")) (Offload (place_in (nth 2 r)) (number_in (nth 3 r))) (end_in (nth 4 r))

abbrev pub allowed_in : Name → List ℕ → Departure
allowed_in by r = allowed_of (nth 1 r) by r

abbrev pub departure_of : List ℕ → List ℕ → Departure
departure_of w r = if bytes_eq w (codes "novm") then NoVm else (if bytes_eq w (codes "spoofed") then Spoofed
    else (if bytes_eq w (codes "denied") then Denied (number_in (nth 1 r)) else allowed_in (name_in (skip 1 r)) (past_name (skip 1 r))))

abbrev pub departure_in : List ℕ → Departure
departure_in r = departure_of (nth 0 r) r

abbrev pub passage_of : List ℕ → Name → List ℕ → Passage
passage_of w by r = if bytes_eq w (codes "drop") then passages.Dropped by else (if bytes_eq w (codes "noowner") then passages.NoOwner by
    else (if bytes_eq w (codes "hops") then passages.Hops by else passages.Send by (number_in (nth 2 r)) (place_in (nth 1 r)) (end_in (nth 3 r))))

abbrev pub passage_by : Name → List ℕ → Passage
passage_by by r = passage_of (nth 0 r) by r

abbrev pub passage_in : List ℕ → Passage
passage_in r = passage_by (name_in r) (past_name r)

abbrev pub return_of : List ℕ → List ℕ → Return
return_of w r = if bytes_eq w (codes "noowner") then returns.NoOwner else (if bytes_eq w (codes "hops") then returns.Hops
    else returns.Send (place_in (nth 1 r)) (end_in (nth 2 r)))

abbrev pub return_in : List ℕ → Return
return_in r = return_of (nth 0 r) r

abbrev pub running_in : ℕ → List ℕ → Arrival
running_in vm r = arrivals.Running vm (name_in r) (bytes_eq (nth 0 (past_name r)) (codes "deliver"))

-- what an arrival at a VM is, from the word behind its number on
abbrev pub met_of : List ℕ → ℕ → List ℕ → Arrival
met_of w vm r = if bytes_eq w (codes "blackout") then arrivals.Blackout vm
    else (if bytes_eq w (codes "hairpin") then arrivals.Hairpin vm (place_in (nth 1 r)) (end_in (nth 2 r))
    else (if bytes_eq w (codes "absent") then arrivals.Absent vm (place_in (nth 1 r)) (end_in (nth 2 r)) else running_in vm (skip 1 r)))

abbrev pub met_in : ℕ → List ℕ → Arrival
met_in vm r = met_of (nth 0 r) vm r

abbrev pub arrival_of : List ℕ → List ℕ → Arrival
arrival_of w r = if bytes_eq w (codes "noowner") then arrivals.NoOwner else met_in (number_in (nth 1 r)) (skip 2 r)

abbrev pub arrival_in : List ℕ → Arrival
arrival_in r = arrival_of (nth 0 r) r

-- ---- lines

abbrev pub step_in : List ℕ → ℕ → Event
step_in kind step = if bytes_eq kind (codes "append") then events.Append step else (if bytes_eq kind (codes "review") then events.Review step
    else (if bytes_eq kind (codes "hold") then events.Hold step else (if bytes_eq kind (codes "free") then events.Free step
    else (if bytes_eq kind (codes "wait") then events.Wait step else (if bytes_eq kind (codes "blackout") then events.Blackout step
    else (if bytes_eq kind (codes "resume") then events.Resume step else events.Finish step))))))

abbrev pub decision_in : List ℕ → Actor → ℕ → ℕ → List ℕ → Event
decision_in kind actor i at r = if bytes_eq kind (codes "route") then events.Route actor i at (passage_in r)
    else (if bytes_eq kind (codes "redirect") then events.Redirect actor i at (return_in r)
    else (if bytes_eq kind (codes "egress") then events.Egress actor i at (way_in (nth 0 r)) (departure_in (skip 1 r))
    else events.Ingress actor i at (way_in (nth 0 r)) (arrival_in (skip 1 r))))

abbrev pub decides : List ℕ → Bool
decides kind = bytes_eq kind (codes "egress") || bytes_eq kind (codes "route") || bytes_eq kind (codes "redirect") || bytes_eq kind (codes "ingress")

abbrev pub other_in : List ℕ → List ℕ → Event
other_in kind r = if bytes_eq kind (codes "take") then events.Take (actor_in (nth 0 r)) (queue_in (nth 1 r)) (number_in (nth 2 r))
    else (if bytes_eq kind (codes "sealed") then events.Sealed (actor_in (nth 0 r)) (number_in (nth 1 r)) (end_in (nth 2 r))
    else (if bytes_eq kind (codes "inject") then events.Inject (number_in (nth 0 r)) (number_in (nth 1 r)) (bytes_eq (nth 2 r) (codes "full"))
    else (if bytes_eq kind (codes "announce") then events.Announce (node_in (nth 0 r)) (number_in (nth 1 r))
    else (if bytes_eq kind (codes "installed") then events.Installed (node_in (nth 0 r)) (number_in (nth 1 r))
    else (if bytes_eq kind (codes "unpin") then events.Unpin (place_in (nth 0 r)) (number_in (nth 1 r)) else step_in kind (number_in (nth 0 r)))))))

abbrev pub event_by : List ℕ → List ℕ → Event
event_by kind r = if decides kind then decision_in kind (actor_in (nth 0 r)) (number_in (nth 1 r)) (number_in (nth 2 r)) (skip 3 r) else other_in kind r

abbrev pub event_in : List ℕ → Event
event_in line = event_by (upto 32 line) (past 32 line)
