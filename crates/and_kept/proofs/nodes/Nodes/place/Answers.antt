use Rattle.std.proofs.Common.{◌∙◌, ap}
use Rattle.and_policy.specs.Owners.{place}
use Rattle.and_kept.specs.Nodes.{NodesView}
use Rattle.and_kept.proofs.nodes.Nodes.place.Goals as goal

pub returns : goal.returns
returns c = c.place.ensures c.self.inside.log.items c.self.invariant.0.placed ∙ ap (λ (p : NodesView). place p.programmes.log c.args.vm) c.self.view_is
