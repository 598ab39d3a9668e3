use Rattle.std.proofs.Common.{◌≡◌}
use Rattle.and_make.specs.Script.{script}
use Rattle.and_make.proofs.script.script.Given as goal

abbrev pub invariant-loop-i : goal.invariant-loop-i
invariant-loop-i l = l.items ≡ script l.i
