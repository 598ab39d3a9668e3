use Rattle.std.proofs.Common.{◌≡◌, ◌++◌, drop}
use Rattle.and_usage.specs.Counting.{keys_over}
use Rattle.and_usage.proofs.usage.over_in.Given as goal

abbrev pub invariant-loop-one : goal.invariant-loop-one
invariant-loop-one l = keys_over l.threshold l.used ≡ l.keys.items ++ keys_over l.threshold (drop l.one-index l.used)
