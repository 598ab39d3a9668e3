use Rattle.std.proofs.Common.{length}
use Rattle.and_plain.proofs.log.+now.Given as goal

abbrev pub decreases-now : goal.decreases-now
decreases-now l = length l.log.now
