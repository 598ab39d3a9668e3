use Rattle.and_plain.proofs.Ripe.{no_hairpin_of}
use Rattle.and_plain.proofs.rest.is_unpinned.Goals as goal

pub returns : goal.returns
returns c = no_hairpin_of c.port_rows.result.now c.args.s.now.ports c.are_clear.result c.port_rows.ensures c.are_clear.ensures
