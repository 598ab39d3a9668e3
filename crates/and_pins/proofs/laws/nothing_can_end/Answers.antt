use Rattle.and_pins.proofs.Ripening.{none_ripe}
use Rattle.and_pins.proofs.laws.nothing_can_end.Goals as goal

pub returns : goal.returns
returns c = none_ripe
