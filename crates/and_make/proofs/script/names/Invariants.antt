use Rattle.std.proofs.Common.{◌≡◌}
use Rattle.and_make.specs.Lists.{below}
use Rattle.and_make.specs.Vms.{name_of}
use Rattle.and_make.proofs.script.names.Given as goal

abbrev pub invariant-loop-vm : goal.invariant-loop-vm
invariant-loop-vm l = l.names ≡ below name_of l.vm
