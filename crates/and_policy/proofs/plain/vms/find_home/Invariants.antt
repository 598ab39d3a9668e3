use Rattle.std.proofs.Common.{◌≡◌, ◌≤◌, length, drop}
use Rattle.std.specs.Prelude.{option_map}
use Rattle.and_policy.specs.Logged.{entries_in}
use Rattle.and_policy.specs.Homes.{home_of}
use Rattle.and_policy.specs.Logs as logs
use Rattle.and_policy.proofs.plain.vms.find_home.Given as goal

abbrev pub invariant-loop-at : goal.invariant-loop-at
invariant-loop-at g l = (l.at ≤ length l.log) × (l.found ≡ option_map home_of (logs.vm_of (entries_in g.T.Logged.entry_of (drop l.at l.log)) l.vm))

abbrev pub decreases-loop-at : goal.decreases-loop-at
decreases-loop-at g l = l.at
