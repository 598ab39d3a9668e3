use Rattle.std.proofs.Common.{◌≡◌, ◌≤◌, length, drop}
use Rattle.std.specs.List.{list_any}
use Rattle.and_policy.specs.Logged.{entries_in}
use Rattle.and_policy.specs.Logs as logs
use Rattle.and_policy.proofs.plain.vms.is_removed.Given as goal

abbrev pub invariant-loop-at : goal.invariant-loop-at
invariant-loop-at g l = (l.at ≤ length l.log) × (l.removed ≡ list_any (logs.removes l.vm) (entries_in g.T.Logged.entry_of (drop l.at l.log)))

abbrev pub decreases-loop-at : goal.decreases-loop-at
decreases-loop-at g l = l.at
