use Rattle.std.proofs.Common.{◌∙◌, ap}
use Rattle.and_policy.specs.Programmes.{net_of_vm}
use Rattle.and_kept.specs.Nodes.{NodesView}
use Rattle.and_kept.proofs.nodes.Nodes.net.Goals as goal

pub returns : goal.returns
returns c = c.net.ensures c.self.inside.log.items c.self.invariant.0.placed ∙ ap (λ (p : NodesView). net_of_vm p.programmes.log c.args.vm) c.self.view_is
