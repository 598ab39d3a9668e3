use Rattle.std.proofs.Common.{◌≡◌, take}
use Rattle.and_events.specs.Run.{Run}
use Rattle.and_events.specs.State.{state}
use Rattle.and_plain.specs.History.{history}
use Rattle.and_plain.proofs.run.first_illegal.Given as goal

abbrev pub invariant-loop-n : goal.invariant-loop-n
invariant-loop-n l = record { is : l.s ≡ state l.plan (history (take l.n l.events)); run : Run l.plan (history (take l.n l.events)) }
