use Rattle.std.proofs.Common.{◌≡◌, replicate}
use Rattle.and_plain.proofs.rows.make_rows.Given as goal

abbrev pub invariant-loop-at : goal.invariant-loop-at
invariant-loop-at g l = l.rows.items ≡ replicate l.at (replicate l.width l.item)
