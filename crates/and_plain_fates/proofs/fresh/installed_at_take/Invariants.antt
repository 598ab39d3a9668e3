use Rattle.std.proofs.Common.{◌≡◌, take}
use Rattle.and_events.specs.Fresh as spec
use Rattle.and_events.specs.State.{state}
use Rattle.and_plain.specs.History.{history}
use Rattle.and_plain_fates.proofs.fresh.installed_at_take.Given as goal

abbrev pub invariant-loop-n : goal.invariant-loop-n
invariant-loop-n l = record {
  is : l.s ≡ state l.plan (history (take l.n l.events));
  taken : l.taken ≡ spec.installed_at_take l.plan (history (take l.n l.events)) l.actor l.packet;
}
