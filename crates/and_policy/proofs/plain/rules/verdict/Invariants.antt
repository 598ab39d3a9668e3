use Rattle.std.proofs.Common.{◌≡◌, ◌≤◌, length, drop}
use Rattle.and_policy.specs.Egress.{deciding_rule}
use Rattle.and_policy.proofs.plain.rules.verdict.Given as goal

abbrev pub invariant-loop-at : goal.invariant-loop-at
invariant-loop-at l = (l.at ≤ length l.rules) × (l.best ≡ deciding_rule l.side l.tuple (drop l.at l.rules))

abbrev pub decreases-loop-at : goal.decreases-loop-at
decreases-loop-at l = l.at
