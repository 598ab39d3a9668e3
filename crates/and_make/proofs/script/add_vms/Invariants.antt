use Rattle.std.proofs.Common.{◌≡◌, ◌++◌}
use Rattle.and_make.specs.Lists.{below}
use Rattle.and_make.specs.Script.{vm}
use Rattle.and_make.proofs.script.add_vms.Given as goal

abbrev pub invariant-loop-vm : goal.invariant-loop-vm
invariant-loop-vm l = l.items ≡ l.initial.items ++ below vm l.vm
