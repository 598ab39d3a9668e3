use Rattle.and_decide.specs.Deciding.{AreRight}
use Rattle.tables_rows.proofs.filled.filled.Given as goal

abbrev pub invariant-loop-put : goal.invariant-loop-put
invariant-loop-put l = AreRight l.tables l.cache
