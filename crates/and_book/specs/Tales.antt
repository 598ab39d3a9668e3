-- What a book's lines tell of seats: what ends a holding has the seat of the Take that began it, and an install that of its
-- announcement. The newest line is first.
use Rattle.std.specs.Prelude.{◌≡◌, ℕ, ◌==◌, Bool, false, if◌then◌else◌, List, [], ◌∷◌, Option, Some, None}
use Rattle.std.specs.List.{fold}
use Rattle.and_events.specs.declared.event.Actor.{Actor}
use Rattle.and_events.specs.declared.event.Event.{Event}
use Rattle.and_events.specs.declared.event.Event.TheVariants.{Announce, Installed, Take, Egress, Sealed, Route, Redirect, Ingress}
use Rattle.and_events.specs.declared.event.Line.{Line}
use Rattle.and_events.specs.declared.event.Node.{Node}
use Rattle.and_events.specs.declared.plan.Settings.{Settings}
use Rattle.and_events.specs.Places.{actor_number, node_place}

-- lines, the oldest of which is first, with the newest one first
abbrev pub newest_first : List Line → List Line
newest_first lines = fold (λ ls l. l ∷ ls) [] lines

-- the event is a Take by the actor
abbrev pub is_take_by : Settings → Actor → Event → Bool
is_take_by s a (Take b q i) = actor_number s b == actor_number s a
is_take_by s a _ = false

-- the event is an Announce at the node
abbrev pub is_announce_at : Settings → Node → Event → Bool
is_announce_at s node (Announce n upto) = node_place s n == node_place s node
is_announce_at s node _ = false

-- the seat of the actor's newest Take; none where it never took a packet
unfoldable pub taken_by : Settings → List Line → Actor → Option ℕ
taken_by s [] a = None
taken_by s (l ∷ older) a = if is_take_by s a l.event then Some l.seat else taken_by s older a

-- the seat of the node's newest Announce
unfoldable pub announced_by : Settings → List Line → Node → Option ℕ
announced_by s [] node = None
announced_by s (l ∷ older) node = if is_announce_at s node l.event then Some l.seat else announced_by s older node

-- after these lines, an event of this seat that ends a holding has the seat of its actor's newest Take, and an Installed that of
-- its node's newest Announce
abbrev pub KeepsSeat : Settings → List Line → ℕ → Event → Type 0
KeepsSeat s older seat (Egress a i at way d) = taken_by s older a ≡ Some seat
KeepsSeat s older seat (Sealed a i end) = taken_by s older a ≡ Some seat
KeepsSeat s older seat (Route a i at p) = taken_by s older a ≡ Some seat
KeepsSeat s older seat (Redirect a i at back) = taken_by s older a ≡ Some seat
KeepsSeat s older seat (Ingress a i at way arrival) = taken_by s older a ≡ Some seat
KeepsSeat s older seat (Installed node upto) = announced_by s older node ≡ Some seat
KeepsSeat s older seat _ = Unit {0}

-- so does each line
unfoldable pub KeepSeats : Settings → List Line → Type 0
KeepSeats s [] = Unit {0}
KeepSeats s (l ∷ older) = KeepSeats s older × KeepsSeat s older l.seat l.event
