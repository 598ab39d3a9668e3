use Rattle.std.proofs.Common.{◌≡◌, take}
use Rattle.and_events.specs.Just as spec
use Rattle.and_events.specs.State.{state}
use Rattle.and_plain.specs.History.{history}
use Rattle.and_plain_fates.proofs.behind.routes.Given as goal

abbrev pub invariant-loop-n : goal.invariant-loop-n
invariant-loop-n l = record {
  is : l.s ≡ state l.plan (history (take l.n l.events));
  found : l.found.items ≡ spec.passages_of l.plan (history (take l.n l.events)) l.packet;
}
