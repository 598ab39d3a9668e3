use Rattle.std.proofs.Common.{◌≡◌, ◌+◌, drop}
use Rattle.and_policy.specs.Egress.{deciding_rule}
use Rattle.and_slow.specs.Looked.{looked}
use Rattle.and_slow.proofs.first.first_match.Given as goal

abbrev pub invariant-loop-rule : goal.invariant-loop-rule
invariant-loop-rule g l =
    (deciding_rule l.side l.tuple l.rules ≡ deciding_rule l.side l.tuple (drop l.rule-index l.rules))
    × (l.steps ≡ l.initial.steps + l.rule-index)
    × (looked l.side l.tuple l.rules ≡ l.rule-index + looked l.side l.tuple (drop l.rule-index l.rules))
