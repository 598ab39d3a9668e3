use Rattle.std.proofs.Common.{ℕ, ◌<◌, get_or}
use Rattle.and_pins.specs.declared.pin.Pin.{Pin}
use Rattle.and_pins.proofs.place.first_place.Given as goal

abbrev pub invariant-loop-at : goal.invariant-loop-at
invariant-loop-at l = (j : ℕ) (d : Pin) → j < l.at → l.least < (get_or l.pins j d).entry
