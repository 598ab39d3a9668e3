use Rattle.std.proofs.Common.{◌≡◌, ◌≤◌}
use Rattle.and_kept.specs.Numbers.{rank}
use Rattle.and_kept.proofs.numbers.NumberSet.nth.Given as goal

-- so many were passed
abbrev pub invariant-skip : goal.invariant-skip
invariant-skip l = record { within : l.from ≤ l.self.size; passed : rank l.self l.from ≡ l.i }
