use Rattle.std.specs.Prelude.{◌↔◌, IsTrue}
use Rattle.std.proofs.Common.{◌≡◌, take}
use Rattle.and_events.specs.Just.{Just}
use Rattle.and_events.specs.State.{state}
use Rattle.and_plain.specs.History.{history}
use Rattle.and_plain_fates.proofs.just.is_just.Given as goal

abbrev pub invariant-loop-n : goal.invariant-loop-n
invariant-loop-n l = record {
  is : l.s ≡ state l.plan (history (take l.n l.events));
  just : IsTrue l.just ↔ Just l.plan (history (take l.n l.events)) l.packet;
}
