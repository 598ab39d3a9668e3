use Rattle.std.proofs.Common.{◌≡◌, ◌≤◌, ◌++◌, take, length}
use Rattle.and_events.specs.Run as spec
use Rattle.and_plain.specs.History.{history}
use Rattle.and_plain_fates.proofs.fate.fates.Given as goal

abbrev pub invariant-loop-at : goal.invariant-loop-at
invariant-loop-at l = record {
  within : l.at ≤ length l.events;
  found : l.found.items ++ spec.fates (history (take l.at l.events)) l.packet ≡ spec.fates (history l.events) l.packet;
}

abbrev pub decreases-loop-at : goal.decreases-loop-at
decreases-loop-at l = l.at
