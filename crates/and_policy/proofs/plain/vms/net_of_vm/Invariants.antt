use Rattle.std.proofs.Common.{◌≡◌, ◌≤◌, length, drop}
use Rattle.and_policy.specs.Logged.{entries_in}
use Rattle.and_policy.specs.Programmes as programmes
use Rattle.and_policy.proofs.plain.vms.net_of_vm.Given as goal

abbrev pub invariant-loop-at : goal.invariant-loop-at
invariant-loop-at g l = (l.at ≤ length l.log) × (l.found ≡ programmes.net_of_vm (entries_in g.T.Logged.entry_of (drop l.at l.log)) l.vm)

abbrev pub decreases-loop-at : goal.decreases-loop-at
decreases-loop-at g l = l.at
