use Rattle.std.proofs.Common.{◌≡◌, ◌++◌, drop}
use Rattle.and_report.specs.Report.{vm_lines}
use Rattle.and_report.specs.Tally.{Tally}
use Rattle.and_report.specs.Totals.{AreReceived}
use Rattle.and_report.proofs.vms.put_vms.Given as goal

abbrev pub invariant-loop-vm : goal.invariant-loop-vm
invariant-loop-vm l = (t : Tally) → AreReceived t.fates l.received → l.fn.text.items ++ vm_lines l.plan t 0 l.plan.names ≡ l.text.items ++ vm_lines l.plan t l.vm (drop l.vm l.plan.names)
