-- Whatever a line names, its actor takes packets.
use Rattle.std.proofs.Common.{ℕ, Bool, true, false, if◌then◌else◌, List, codes, bytes_eq}
use Rattle.and_events.specs.declared.event.Actor.{Actor}
use Rattle.and_events.specs.declared.event.Actor.TheVariants.{Worker, Coproc, Gateway}
use Rattle.and_events.specs.declared.event.Event.{Event}
use Rattle.and_trace.specs.Spelling.{TakesPackets, HasSpelling}
use Rattle.and_trace.specs.Fields.{upto, past, nth, skip, starts, place_in, number_in, actor_in, decides, decision_in, step_in, other_in, event_in}

either_takes : (b : Bool) (a c : Actor) → TakesPackets a → TakesPackets c → TakesPackets (if b then a else c)
either_takes true a c x y = x
either_takes false a c x y = y

either_has : (b : Bool) (e f : Event) → HasSpelling e → HasSpelling f → HasSpelling (if b then e else f)
either_has true e f x y = x
either_has false e f x y = y

takes : (w : List ℕ) → TakesPackets (actor_in w)
takes w =
    let at = upto 46 w in let role = past 46 w in
    either_takes (starts 103 at) (Gateway (place_in at)) (if starts 99 role then Coproc (place_in at) else Worker (place_in at) (place_in role)) tt
    (either_takes (starts 99 role) (Coproc (place_in at)) (Worker (place_in at) (place_in role)) tt tt)

step_has : (kind : List ℕ) (n : ℕ) → HasSpelling (step_in kind n)
step_has kind n =
    either_has (bytes_eq kind (codes "append")) _ _ tt (either_has (bytes_eq kind (codes "review")) _ _ tt (either_has (bytes_eq kind (codes "hold")) _ _ tt
    (either_has (bytes_eq kind (codes "free")) _ _ tt (either_has (bytes_eq kind (codes "wait")) _ _ tt (either_has (bytes_eq kind (codes "blackout")) _ _ tt
    (either_has (bytes_eq kind (codes "resume")) _ _ tt tt))))))

decision_has : (kind : List ℕ) (a : Actor) (i at : ℕ) (r : List ℕ) → TakesPackets a → HasSpelling (decision_in kind a i at r)
decision_has kind a i at r t =
    either_has (bytes_eq kind (codes "route")) _ _ t (either_has (bytes_eq kind (codes "redirect")) _ _ t (either_has (bytes_eq kind (codes "egress")) _ _ t t))

other_has : (kind r : List ℕ) → HasSpelling (other_in kind r)
other_has kind r =
    either_has (bytes_eq kind (codes "take")) _ _ (takes (nth 0 r)) (either_has (bytes_eq kind (codes "sealed")) _ _ (takes (nth 0 r))
    (either_has (bytes_eq kind (codes "inject")) _ _ tt (either_has (bytes_eq kind (codes "announce")) _ _ tt (either_has (bytes_eq kind (codes "installed")) _ _ tt
    (either_has (bytes_eq kind (codes "unpin")) _ _ tt (step_has kind (number_in (nth 0 r))))))))

pub has_spelling : (line : List ℕ) → HasSpelling (event_in line)
has_spelling line =
    let kind = upto 32 line in let r = past 32 line in
    either_has (decides kind) (decision_in kind (actor_in (nth 0 r)) (number_in (nth 1 r)) (number_in (nth 2 r)) (skip 3 r)) (other_in kind r)
    (decision_has kind (actor_in (nth 0 r)) (number_in (nth 1 r)) (number_in (nth 2 r)) (skip 3 r) (takes (nth 0 r))) (other_has kind r)
