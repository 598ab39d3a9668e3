use Rattle.and_kept.proofs.LanesLemmas.{empty_lanes}
use Rattle.and_kept.proofs.queues.Queues.are_empty.Goals as goal

pub returns : goal.returns
returns c = empty_lanes c.self.inside.items.items c.self.inside.occupied c.args.self.now c.self.view_is c.self.invariant
