use Rattle.std.proofs.Common.{◌≡◌, ◌++◌}
use Rattle.std.specs.List.{flat_map}
use Rattle.and_report.specs.Keys.{entry_line}
use Rattle.and_report.proofs.drops.put_keys.Given as goal

abbrev pub invariant-loop-key : goal.invariant-loop-key
invariant-loop-key l = l.fn.text.items ++ flat_map (entry_line l.stage) l.drops.entries ≡ l.text.items ++ flat_map (entry_line l.stage) l.key-iterator
