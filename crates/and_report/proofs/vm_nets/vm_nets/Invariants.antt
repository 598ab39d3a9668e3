use Rattle.std.proofs.Common.{◌≡◌, ℕ, ◌≤◌, ◌^◌, None, take}
use Rattle.and_policy.specs.Placements.{ArePlacements}
use Rattle.and_policy.specs.Programmes.{net_of_vm}
use Rattle.and_report.proofs.vm_nets.vm_nets.Given as goal

abbrev pub invariant-loop-entry : goal.invariant-loop-entry
invariant-loop-entry l = record {
  placements : ArePlacements l.nets (take l.entry-index l.plan.log);
  short : (vm : ℕ) → 2 ^ 32 ≤ vm → net_of_vm (take l.entry-index l.plan.log) vm ≡ None;
}
