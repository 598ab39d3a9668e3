-- A packet that has at most one place, and is in hand, is nowhere else.
use Rattle.std.proofs.Common.{◌≡◌, ℕ, ◌<◌, ◌≤◌, List, [], length, set, arith, Option, Some, None}
use Rattle.std.proofs.lemmas.List.Sums.{sum_by-set}
use Rattle.and_events.specs.declared.event.Held.{Held}
use Rattle.and_events.specs.Flow.{Flow, queue_at, hand_at, queued, in_hand, placed}
use Rattle.and_laws.specs.Stages.{count_in}
use Rattle.and_laws.proofs.Places.{hand_set, hand_within, hand_one}

count_within : (i q : ℕ) (queues : List (List ℕ)) → q < length queues → count_in i (queue_at queues q) ≤ queued i queues
count_within i q queues h = omega (arith, sum_by-set (count_in i) queues q [] [] h)

pub hand_counts : (i a : ℕ) (h : Held) (hands : List (Option Held)) → hand_at hands a ≡ Some h → h.packet ≡ i → 1 ≤ in_hand i hands
hand_counts i a h hands e p =
    let s = hand_set i a hands None (hand_within a h hands e) in
    let o = hand_one i i h (hand_at hands a) e p in
    grind (arith, s, o)

-- the packet is in the hand at a, and has at most one place
module _ (i a : ℕ) (h : Held) (f : Flow) (has : hand_at f.hands a ≡ Some h) (is : h.packet ≡ i) (one : placed i f ≤ 1) where
  pub in_no_queue : (q : ℕ) → q < length f.queues → count_in i (queue_at f.queues q) ≡ 0
  in_no_queue q there = omega (arith, count_within i q f.queues there, hand_counts i a h f.hands has is)

  pub in_no_other : (b : ℕ) (g : Held) → hand_at (set f.hands a None) b ≡ Some g → g.packet ≡ i → ⊥
  in_no_other b g other same =
      let s = hand_set i a f.hands None (hand_within a h f.hands has) in
      let o = hand_one i i h (hand_at f.hands a) has is in
      let c = hand_counts i b g (set f.hands a None) other same in
      grind (arith, s, o, c)
