-- The names of a `replay`, as lists.
use Rattle.and_top.specs.Words.{Named}
use Rattle.and_top.specs.declared.words.Names.{Names}

abbrev pub named : Names → Named
named n = record { scenario = n.scenario.now; capture = n.capture.now; out = n.out.now }
