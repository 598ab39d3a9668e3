-- How a coprocessor's fields are seen.
use Rattle.and_hover.specs.declared.coproc.Coproc.TheInside.{Inside}
use Rattle.and_hover.specs.Coprocs.{CoprocView}

abbrev pub view_of : Inside → CoprocView
view_of c = record { host = c.host; hand = c.hand }
