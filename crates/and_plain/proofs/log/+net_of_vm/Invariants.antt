use Rattle.std.proofs.Common.{length}
use Rattle.and_plain.proofs.log.+net_of_vm.Given as goal

abbrev pub decreases-net_of_vm : goal.decreases-net_of_vm
decreases-net_of_vm l = length l.log.now
