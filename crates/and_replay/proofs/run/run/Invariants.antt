use Rattle.std.proofs.Common.{◌≡◌, ◌-◌, length}
use Rattle.and_laws.specs.Bound.{bound}
use Rattle.and_replay.specs.Turns.{IsUnderWay}
use Rattle.and_replay.proofs.run.run.Given as goal

abbrev pub invariant-turns : goal.invariant-turns
invariant-turns g l = record {
  way : IsUnderWay l.book l.parts;
  plan : l.book.plan ≡ l.fn.plan;
}

abbrev pub decreases-turns : goal.decreases-turns
decreases-turns g l = bound l.book.plan - length l.book.lines
