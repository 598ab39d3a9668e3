use Rattle.std.proofs.Common.{length}
use Rattle.and_plain.proofs.usage.+put_use.Given as goal

abbrev pub decreases-put_use : goal.decreases-put_use
decreases-put_use l = length l.usage.now
