use Rattle.std.proofs.Common.{◌≡◌, ◌≤◌, length, drop}
use Rattle.std.specs.List.{list_any}
use Rattle.and_policy.specs.Deletions.{deletes_some_rule}
use Rattle.and_policy.specs.Egress.{deciding_rule}
use Rattle.and_policy.specs.Logged.{entries_in}
use Rattle.and_policy.specs.Logs as logs
use Rattle.and_policy.proofs.plain.rules.verdict_in.Given as goal

abbrev pub invariant-loop-at : goal.invariant-loop-at
invariant-loop-at g l = (l.at ≤ length l.log) × (l.some ≡ list_any (deletes_some_rule l.net) (entries_in g.T.Logged.entry_of (drop l.at l.log))) × (l.best ≡ deciding_rule l.side l.tuple (logs.rules (entries_in g.T.Logged.entry_of (drop l.at l.log)) l.net))

abbrev pub decreases-loop-at : goal.decreases-loop-at
decreases-loop-at g l = l.at
