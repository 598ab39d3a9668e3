use Rattle.std.proofs.Common.{◌∙◌, sym, ap}
use Rattle.and_events.specs.Programming.{Installs, programmes_after}
use Rattle.and_kept.specs.Nodes.{NodesView, programmes_of}
use Rattle.and_kept.proofs.NodesLemmas.{installs_nodes}
use Rattle.and_kept.proofs.nodes.Nodes.install.Goals as goal

pub returns-clause-programmes : goal.returns-clause-programmes
returns-clause-programmes c =
    installs_nodes c.self.inside.log.items c.self.inside.nodes.items c.install_at-upto.new.nodes.items c.args.node c.install_at-upto.ensures.nodes
    ∙ (ap (λ n. programmes_after (programmes_of c.self.inside.log.items c.self.inside.nodes.items) (Installs c.args.node n)) (sym c.install_at-upto.ensures.upto)
    ∙ ap (λ (p : NodesView). programmes_after p.programmes (Installs c.args.node c.install_at-upto.result)) c.self.view_is)
