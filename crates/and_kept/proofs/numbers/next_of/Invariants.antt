use Rattle.std.proofs.Common.{◌-◌, ◌≡◌, ℕ, ◌+◌, ◌^◌, ◌<◌, ◌≤◌, false}
use Rattle.and_kept.specs.Numbers.{has_in}
use Rattle.and_kept.proofs.numbers.next_of.Given as goal

-- none up to now
abbrev pub invariant-loop-at : goal.invariant-loop-at
invariant-loop-at l = record {
  past : l.from ≤ l.at;
  within : l.at < 2 ^ 16 + 64;
  none : (j : ℕ) → l.from ≤ j → j < l.at → has_in l.words j ≡ false;
}

abbrev pub decreases-loop-at : goal.decreases-loop-at
decreases-loop-at l = l.size - l.at
