use Rattle.std.proofs.Common.{◌∙◌, sym, ap}
use Rattle.and_events.specs.Programming.{Announces, programmes_after}
use Rattle.and_kept.specs.Nodes.{NodesView, programmes_of}
use Rattle.and_kept.proofs.NodesLemmas.{announces_nodes}
use Rattle.and_kept.proofs.nodes.Nodes.announce.Goals as goal

pub returns-clause-programmes : goal.returns-clause-programmes
returns-clause-programmes c =
    announces_nodes c.self.inside.log.items c.self.inside.nodes.items c.announce_at.new.nodes.items c.args.node c.announce_at.ensures.nodes
    ∙ (ap (λ n. programmes_after (programmes_of c.self.inside.log.items c.self.inside.nodes.items) (Announces c.args.node n)) (sym c.announce_at.ensures.upto)
    ∙ ap (λ (p : NodesView). programmes_after p.programmes (Announces c.args.node c.announce_at.result)) c.self.view_is)
