use Rattle.std.proofs.Common.{ap}
use Rattle.and_kept.specs.Nodes.{NodesView}
use Rattle.and_kept.proofs.NodesLemmas.{none_behind}
use Rattle.and_kept.proofs.nodes.Nodes.all_installed.Goals as goal

pub returns : goal.returns
returns c =
    none_behind c.self.inside.log.items c.self.inside.nodes.items c.self.inside.behind c.args.self.now.programmes (ap (λ (p : NodesView). p.programmes) c.self.view_is) c.self.invariant.0.behind
