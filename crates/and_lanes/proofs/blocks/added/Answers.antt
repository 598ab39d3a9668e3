use Rattle.and_lanes.proofs.Pairing.{fits_each}
use Rattle.and_lanes.proofs.blocks.added.Goals as goal

pub overflow_add-result : goal.overflow_add-result
overflow_add-result c = fits_each c.args.a c.args.b c.requires
