use Rattle.std.proofs.Common.{◌≡◌, ◌≤◌, length, drop}
use Rattle.and_policy.specs.Logged.{entries_in}
use Rattle.and_policy.specs.Owners as owners
use Rattle.and_policy.proofs.plain.vms.owner.Given as goal

abbrev pub invariant-loop-at : goal.invariant-loop-at
invariant-loop-at g l = (l.at ≤ length l.log) × (l.found ≡ owners.owner (entries_in g.T.Logged.entry_of (drop l.at l.log)) l.net l.address)

abbrev pub decreases-loop-at : goal.decreases-loop-at
decreases-loop-at g l = l.at
