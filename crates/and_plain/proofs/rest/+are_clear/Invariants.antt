use Rattle.std.proofs.Common.{length}
use Rattle.and_plain.proofs.rest.+are_clear.Given as goal

abbrev pub decreases-are_clear : goal.decreases-are_clear
decreases-are_clear l = length l.all.now
