use Rattle.std.proofs.Common.{length}
use Rattle.and_plain_fates.proofs.behind.+put_entries.Given as goal

abbrev pub decreases-put_entries : goal.decreases-put_entries
decreases-put_entries l = length l.ops.now
