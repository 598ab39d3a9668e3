use Rattle.std.proofs.Common.{length}
use Rattle.and_report.proofs.rows.+put_some_rows.Given as goal

abbrev pub decreases-put_some_rows : goal.decreases-put_some_rows
decreases-put_some_rows l = length l.rows.now
