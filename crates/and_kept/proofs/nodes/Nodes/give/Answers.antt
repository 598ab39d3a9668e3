use Rattle.std.proofs.Common.{◌<◌, ◌∙◌, [], ◌∷◌, length, sym, ap, subst, refl, arith}
use Rattle.std.proofs.lemmas.List.{length-map}
use Rattle.and_policy.specs.declared.entry.Op.TheVariants as ops
use Rattle.and_events.specs.Programming.{Orders, programmes_after}
use Rattle.and_kept.specs.Nodes.{Programmed, NodesView}
use Rattle.and_kept.proofs.OrdersLemmas.{gives_nodes, gives_rooms}
use Rattle.and_kept.proofs.nodes.Nodes.give.Goals as goal

pub returns-clause-programmes : goal.returns-clause-programmes
returns-clause-programmes c =
    let nodes = c.self.inside.nodes.items in
    let host : c.args.given.host < length nodes =
    let there = subst (λ (v : NodesView). c.args.given.host < length v.programmes.ops) (sym c.self.view_is) c.requires.host in
    omega (arith, there, length-map nodes (λ (n : Programmed). n.ops)) in
    gives_nodes nodes c.give_at.new.nodes.items c.args.given.host c.self.inside.log.items c.args.given host refl c.give_at.ensures.nodes
    ∙ ap (λ (v : NodesView). programmes_after v.programmes (Orders (c.args.given ∷ []))) c.self.view_is

pub returns-clause-rooms : goal.returns-clause-rooms
returns-clause-rooms c =
    gives_rooms c.self.inside.nodes.items c.give_at.new.nodes.items c.args.given.host (ops.Offload c.args.given.order) c.give_at.ensures.nodes
    ∙ ap (λ (v : NodesView). v.rooms) c.self.view_is
