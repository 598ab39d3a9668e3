use Rattle.and_plain.proofs.Deciding.{both_are}
use Rattle.and_plain.proofs.rest.can_unpin.Goals as goal

pub returns : goal.returns
returns c = both_are c.both.result c.is_ripe-ripe.result c.is_first_ripe-first.result c.both.ensures c.is_ripe-ripe.ensures c.is_first_ripe-first.ensures
