use Rattle.std.proofs.Common.{◌∙◌, ap, arith}
use Rattle.and_policy.specs.Programmes.{added_at}
use Rattle.and_kept.specs.Nodes.{NodesView}
use Rattle.and_kept.proofs.nodes.Nodes.added.Goals as goal

pub returns : goal.returns
returns c =
    let inv = c.self.invariant.0 in
    c.added.ensures c.self.inside.log.items (omega (arith, inv.logged, inv.small)) inv.placed ∙ ap (λ (p : NodesView). added_at p.programmes.log c.args.vm) c.self.view_is
