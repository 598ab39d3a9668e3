-- What a move does to the places of packets, whatever weight each packet has.
use Rattle.std.proofs.Common.{◌≡◌, ℕ, ◌+◌, ◌<◌, Bool, ◌==◌, cond, List, [], ◌∷◌, ◌++◌, length, drop, set, refl, ap, arith, Option, Some, None, length-append}
use Rattle.std.proofs.lemmas.List.{get_or_past}
use Rattle.std.specs.Prelude.{is_some}
use Rattle.std.specs.List.{sum_by, count_by}
use Rattle.std.proofs.lemmas.Grind.{common_steps}
use Rattle.std.proofs.lemmas.List.Sums.{sum_by-set, sum_by_push, sum_by-cons}
use Rattle.and_events.specs.declared.event.Held.{Held}
use Rattle.and_events.specs.Flow.{Flow, Move, Stay, Enter, Lose, Grab, Send, SealLater, Stop, flow_after, CanMove, placed, in_hand, pushed, popped, queue_at, hand_at, has_packet}
use Rattle.and_laws.specs.Fates.{queued_count, in_hand_count}

abbrev pub one_if : Bool → ℕ
one_if b = cond b 1 0

-- a move brings a packet in, or takes it out
unfoldable pub brought : (ℕ → ℕ) → Move → ℕ
brought w (Enter q j) = w j
brought w _ = 0

unfoldable pub taken_out : (ℕ → ℕ) → Move → ℕ
taken_out w (Stop a j) = w j
taken_out w _ = 0

-- what packets weigh: one alone, those of a queue, and that of a hand
pub record Weighs (w : ℕ → ℕ) (queue : List ℕ → ℕ) (hand : Option Held → ℕ) : Type 0 where
  pub at_end : (xs : List ℕ) (j : ℕ) → queue (xs ++ j ∷ []) ≡ queue xs + w j
  pub at_front : (j : ℕ) (xs : List ℕ) → queue (j ∷ xs) ≡ w j + queue xs
  pub empty : hand None ≡ 0
  pub full : (h : Held) → hand (Some h) ≡ w h.packet

pub front_within : (q j : ℕ) (rest : List ℕ) (queues : List (List ℕ)) → queue_at queues q ≡ j ∷ rest → q < length queues
front_within q j rest queues front = grind (arith, common_steps, get_or_past)

pub hand_within : (a : ℕ) (h : Held) (hands : List (Option Held)) → hand_at hands a ≡ Some h → a < length hands
hand_within a h hands e = grind (arith, common_steps, get_or_past)

module _ (w : ℕ → ℕ) (queue : List ℕ → ℕ) (hand : Option Held → ℕ) (weighs : Weighs w queue hand) where
  pub pushed_weighs : (queues : List (List ℕ)) (q j : ℕ) → q < length queues → sum_by queue (pushed queues q j) ≡ sum_by queue queues + w j
  pushed_weighs queues q j within =
      omega (arith, sum_by-set queue queues q (queue_at queues q ++ j ∷ []) [] within, weighs.at_end (queue_at queues q) j)

  pub popped_weighs : (queues : List (List ℕ)) (q j : ℕ) (rest : List ℕ) → queue_at queues q ≡ j ∷ rest → sum_by queue (popped queues q) + w j ≡ sum_by queue queues
  popped_weighs queues q j rest front =
      omega (
        arith,
        sum_by-set queue queues q (drop 1 (queue_at queues q)) [] (front_within q j rest queues front),
        ap (λ xs. queue (drop 1 xs)) front,
        ap queue front,
        weighs.at_front j rest,
      )

  -- an empty hand takes a packet
  pub filled_weighs : (hands : List (Option Held)) (a : ℕ) (h : Held) → a < length hands → hand_at hands a ≡ None → sum_by hand (set hands a (Some h)) ≡ sum_by hand hands + w h.packet
  filled_weighs hands a h within none =
      omega (arith, sum_by-set hand hands a (Some h) None within, ap hand none, weighs.empty, weighs.full h)

  -- a hand gives its packet away
  pub emptied_weighs : (hands : List (Option Held)) (a j : ℕ) (h : Held) → hand_at hands a ≡ Some h → h.packet ≡ j → sum_by hand (set hands a None) + w j ≡ sum_by hand hands
  emptied_weighs hands a j h has is =
      omega (arith, sum_by-set hand hands a None None (hand_within a h hands has), ap hand has, weighs.empty, weighs.full h, ap w is)

  pub weighed_after : (capacity : ℕ → ℕ) (f : Flow) (m : Move) → CanMove capacity f m → sum_by queue (flow_after f m).queues + sum_by hand (flow_after f m).hands + taken_out w m ≡ sum_by queue f.queues + sum_by hand f.hands + brought w m
  unfolding CanMove flow_after brought taken_out
  weighed_after capacity f Stay can = omega arith
  weighed_after capacity f (Enter q j) can = omega (arith, pushed_weighs f.queues q j can.0)
  weighed_after capacity f (Lose j) can = omega arith
  weighed_after capacity f (Grab a q new) (within, none, (rest, front)) =
      omega (arith, popped_weighs f.queues q new.packet rest front, filled_weighs f.hands a new within none)
  weighed_after capacity f (Send a q j net target) ((old, has, is), room, hops) =
      omega (arith, pushed_weighs f.queues q j room.0, emptied_weighs f.hands a j old has is)
  weighed_after capacity f (SealLater a q j net target) ((old, has, is), room) =
      omega (arith, pushed_weighs f.queues q j room.0, emptied_weighs f.hands a j old has is)
  weighed_after capacity f (Stop a j) (old, has, is) = omega (arith, emptied_weighs f.hands a j old has is)

-- ---- one packet alone

abbrev pub alone : ℕ → ℕ → ℕ
alone i j = one_if (j == i)

pub alone_weighs : (i : ℕ) → Weighs (alone i) (λ xs. count_by (λ x. x == i) xs) (λ o. one_if (has_packet i o))
alone_weighs i =
    record { at_end = λ xs j. sum_by_push (alone i) xs j; at_front = λ j xs. sum_by-cons (alone i) j xs; empty = refl; full = λ h. refl }

pub placed_after : (i : ℕ) (capacity : ℕ → ℕ) (f : Flow) (m : Move) → CanMove capacity f m → placed i (flow_after f m) + taken_out (alone i) m ≡ placed i f + brought (alone i) m
placed_after i capacity f m can = weighed_after (alone i) _ _ (alone_weighs i) capacity f m can

pub hand_set : (i a : ℕ) (hands : List (Option Held)) (new : Option Held) → a < length hands → in_hand i (set hands a new) + one_if (has_packet i (hand_at hands a)) ≡ in_hand i hands + one_if (has_packet i new)
hand_set i a hands new h = sum_by-set (λ o. one_if (has_packet i o)) hands a new None h

pub hand_one : (i j : ℕ) (h : Held) (o : Option Held) → o ≡ Some h → h.packet ≡ j → one_if (has_packet i o) ≡ one_if (j == i)
hand_one i j h o e p = rw (e, p)

-- ---- each packet as one

abbrev pub as_one : ℕ → ℕ
as_one j = 1

pub each_weighs : Weighs as_one length (λ o. one_if (is_some o))
each_weighs = record { at_end = λ xs j. length-append xs (j ∷ []); at_front = λ j xs. omega arith; empty = refl; full = λ h. refl }

pub counted_after : (capacity : ℕ → ℕ) (f : Flow) (m : Move) → CanMove capacity f m → queued_count (flow_after f m) + in_hand_count (flow_after f m) + taken_out as_one m ≡ queued_count f + in_hand_count f + brought as_one m
counted_after capacity f m can = weighed_after as_one length _ each_weighs capacity f m can
