use Rattle.std.proofs.Common.{◌≡◌, ◌≤◌, ◌*◌, take}
use Rattle.std.specs.List.{sum}
use Rattle.and_report.proofs.run_orders.sum_of.Given as goal

abbrev pub invariant-loop-number : goal.invariant-loop-number
invariant-loop-number l = record {
  sum : l.sum ≡ sum (take l.number-index l.numbers);
  within : l.sum ≤ 4294967295 * l.number-index;
}
