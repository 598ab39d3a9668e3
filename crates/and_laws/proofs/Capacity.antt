-- No queue has more packets than its capacity.
use Rattle.std.proofs.Common.{ℕ, ◌<◌, ◌≤◌, List, [], ◌∷◌, ◌++◌, length, drop, replicate, arith}
use Rattle.std.proofs.lemmas.List.{get_or-set_same, get_or-set_other, length-replicate, get_or-replicate, get_or_past}
use Rattle.std.proofs.lemmas.Bool.{cases_eq}
use Rattle.std.proofs.lemmas.Grind.{common_steps}
use Rattle.and_events.specs.declared.event.Event.{Event}
use Rattle.and_events.specs.declared.plan.Plan.{Plan}
use Rattle.and_events.specs.Places.{capacity_at, queue_count}
use Rattle.and_events.specs.Flow.{Flow, Move, Stay, Enter, Lose, Grab, Send, SealLater, Stop, flow_after, CanMove, queue_at, pushed, popped}
use Rattle.and_events.specs.State.{state, start, after, move_of}
use Rattle.and_events.specs.Run.{Run}
use Rattle.and_laws.specs.Limits.{IsWithinCapacity}
use Rattle.and_laws.proofs.LegalMoves.{legal_moves}
use Rattle.and_laws.proofs.Sizes.{sizes}

abbrev Within : (ℕ → ℕ) → List (List ℕ) → Type 0
Within capacity queues = (q : ℕ) → length (queue_at queues q) ≤ capacity q

within_pushed : (capacity : ℕ → ℕ) (queues : List (List ℕ)) (p i : ℕ) → Within capacity queues → p < length queues → length (queue_at queues p) < capacity p → Within capacity (pushed queues p i)
within_pushed capacity queues p i w there room q =
    let before = w q in
    let other = get_or-set_other queues p q (queue_at queues p ++ i ∷ []) [] in
    let same = get_or-set_same queues p (queue_at queues p ++ i ∷ []) [] there in
    grind (arith, common_steps, cases_eq q p, other, same, before)

within_popped : (capacity : ℕ → ℕ) (queues : List (List ℕ)) (p : ℕ) → Within capacity queues → Within capacity (popped queues p)
within_popped capacity queues p w q =
    let before = w q in
    let other = get_or-set_other queues p q (drop 1 (queue_at queues p)) [] in
    grind (arith, common_steps, cases_eq q p, other, before)

within_after : (capacity : ℕ → ℕ) (f : Flow) (m : Move) → CanMove capacity f m → Within capacity f.queues → Within capacity (flow_after f m).queues
unfolding CanMove flow_after
within_after capacity f Stay can w = w
within_after capacity f (Enter q i) can w = within_pushed capacity f.queues q i w can.0 can.1
within_after capacity f (Lose i) can w = w
within_after capacity f (Grab a q h) can w = within_popped capacity f.queues q w
within_after capacity f (Send a q i net target) can w = within_pushed capacity f.queues q i w can.1.0 can.1.1
within_after capacity f (SealLater a q i net target) can w = within_pushed capacity f.queues q i w can.1.0 can.1.1
within_after capacity f (Stop a i) can w = w

none_queued : (n : ℕ) (capacity : ℕ → ℕ) → Within capacity (replicate n [])
none_queued n capacity q =
    let empty : List ℕ = [] in
    let past = get_or_past (replicate n empty) q empty in
    grind (arith, common_steps, get_or-replicate n q empty empty, past, length-replicate n empty)

pub queues_within : (plan : Plan) (h : List Event) → Run plan h → IsWithinCapacity plan h
unfolding Run state start after
queues_within plan [] r = none_queued (queue_count plan.settings) (capacity_at plan.settings)
queues_within plan (e ∷ h) r =
    within_after (capacity_at plan.settings) (state plan h).flow (move_of plan (state plan h) e)
    (legal_moves plan (state plan h) e (sizes plan h) r.1) (queues_within plan h r.0)
