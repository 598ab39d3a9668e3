use Rattle.and_pins.proofs.Ripening.{can_unpin}
use Rattle.and_pins.proofs.laws.the_first_can_end.Goals as goal

pub returns : goal.returns
returns c = can_unpin
