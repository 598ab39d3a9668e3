use Rattle.std.specs.Prelude.{◌↔◌, IsTrue}
use Rattle.std.proofs.Common.{◌≡◌, take}
use Rattle.and_events.specs.Fresh.{Fresh}
use Rattle.and_events.specs.State.{state}
use Rattle.and_plain.specs.History.{history}
use Rattle.and_plain_fates.proofs.fresh.is_fresh.Given as goal

abbrev pub invariant-loop-n : goal.invariant-loop-n
invariant-loop-n l = record {
  is : l.s ≡ state l.plan (history (take l.n l.events));
  fresh : IsTrue l.fresh ↔ Fresh l.plan (history (take l.n l.events)) l.packet;
}
