use Rattle.std.proofs.Common.{length}
use Rattle.and_plain.proofs.log.+place.Given as goal

abbrev pub decreases-place : goal.decreases-place
decreases-place l = length l.log.now
