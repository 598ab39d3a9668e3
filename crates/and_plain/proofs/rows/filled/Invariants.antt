use Rattle.std.proofs.Common.{◌≡◌, replicate}
use Rattle.and_plain.proofs.rows.filled.Given as goal

abbrev pub invariant-loop-at : goal.invariant-loop-at
invariant-loop-at g l = l.items.items ≡ replicate l.at l.item
