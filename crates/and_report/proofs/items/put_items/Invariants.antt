use Rattle.std.proofs.Common.{◌≡◌, ◌++◌, drop}
use Rattle.std.specs.List.{flat_map}
use Rattle.and_report.specs.Report as report
use Rattle.and_report.proofs.items.put_items.Given as goal

abbrev pub invariant-loop-r : goal.invariant-loop-r
invariant-loop-r l = l.fn.text.items ++ flat_map report.item_line l.refused ≡ l.text.items ++ flat_map report.item_line (drop l.r-index l.refused)
