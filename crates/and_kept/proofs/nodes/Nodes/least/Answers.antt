use Rattle.std.proofs.Common.{ap}
use Rattle.and_kept.specs.Nodes.{NodesView}
use Rattle.and_kept.proofs.FloorLemmas.{least_is}
use Rattle.and_kept.proofs.nodes.Nodes.least.Goals as goal

pub returns-clause-least : goal.returns-clause-least
returns-clause-least c =
    least_is c.self.inside.log.items c.self.inside.nodes.items c.self.inside.floor.least c.self.inside.floor.count c.args.self.now.programmes
    (ap (λ (v : NodesView). v.programmes) c.self.view_is) c.self.invariant.1
