use Rattle.std.proofs.Common.{length}
use Rattle.and_script.proofs.fields.+read_rows.Given as goal

abbrev pub decreases-read_rows : goal.decreases-read_rows
decreases-read_rows l = length l.rows.now
