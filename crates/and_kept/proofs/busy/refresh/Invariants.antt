use Rattle.std.proofs.Common.{◌≡◌, ℕ, ◌<◌, ◌≤◌, ◌⊎◌}
use Rattle.and_events.specs.Places.{hand_count}
use Rattle.and_kept.specs.Busy.{Tells}
use Rattle.and_kept.proofs.busy.refresh.Given as goal

-- those that were right are, and so are those that were looked at
abbrev pub invariant-loop-hand : goal.invariant-loop-hand
invariant-loop-hand l = record {
  size : l.busy.size ≡ l.initial.busy.size;
  told : (k : ℕ) → k < hand_count l.settings → ((l.fn.range.0 ≤ k) × (k < l.hand)) ⊎ Tells l.settings l.queues.numbers l.hands l.held.items l.initial.busy k → Tells l.settings l.queues.numbers l.hands l.held.items l.busy k;
}
