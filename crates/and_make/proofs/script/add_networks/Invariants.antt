use Rattle.std.proofs.Common.{◌≡◌, ◌++◌}
use Rattle.and_make.specs.Lists.{below}
use Rattle.and_make.specs.Script.{network}
use Rattle.and_make.proofs.script.add_networks.Given as goal

abbrev pub invariant-loop-k : goal.invariant-loop-k
invariant-loop-k l = l.items ≡ l.initial.items ++ below network l.k
