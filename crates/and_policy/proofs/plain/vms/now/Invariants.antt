use Rattle.std.proofs.Common.{◌≡◌, ◌≤◌, length, drop}
use Rattle.std.proofs.Common.{◌+◌}
use Rattle.and_policy.specs.Logged.{entries_in}
use Rattle.and_policy.specs.Logs as logs
use Rattle.and_policy.proofs.plain.vms.now.Given as goal

abbrev pub invariant-loop-at : goal.invariant-loop-at
invariant-loop-at g l = (l.at ≤ length l.log) × (l.count + l.at ≤ length l.log) × (l.count ≡ logs.now (entries_in g.T.Logged.entry_of (drop l.at l.log)))

abbrev pub decreases-loop-at : goal.decreases-loop-at
decreases-loop-at g l = l.at
