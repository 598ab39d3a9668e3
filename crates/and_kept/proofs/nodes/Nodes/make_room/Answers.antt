use Rattle.std.proofs.Common.{◌<◌, ◌≤◌, ◌∙◌, length, sym, ap, subst, arith}
use Rattle.std.proofs.lemmas.List.{length-map}
use Rattle.and_kept.specs.Nodes.{Programmed, NodesView, node_at, room_at, rooms_of}
use Rattle.and_kept.proofs.OrdersLemmas.{roomier_nodes, roomier_rooms}
use Rattle.and_kept.proofs.nodes.Nodes.make_room.Goals as goal

pub returns-clause-programmes : goal.returns-clause-programmes
returns-clause-programmes c =
    let made = c.make_room_in.new.nodes.items in
    roomier_nodes c.self.inside.nodes.items made c.args.node c.self.inside.log.items (node_at made c.args.node).limit c.make_room_in.ensures.nodes
    ∙ ap (λ (v : NodesView). v.programmes) c.self.view_is

pub returns-clause-never_less : goal.returns-clause-never_less
returns-clause-never_less c =
    let nodes = c.self.inside.nodes.items in
    let made = c.make_room_in.new.nodes.items in
    let node : c.args.node < length nodes =
    let there = subst (λ (v : NodesView). c.args.node < length v.programmes.ops) (sym c.self.view_is) c.requires.node in
    omega (arith, there, length-map nodes (λ (n : Programmed). n.ops)) in
    λ k. subst (λ (v : NodesView). room_at v.rooms k ≤ room_at (rooms_of made) k) c.self.view_is
    (roomier_rooms nodes made c.args.node (node_at made c.args.node).limit node c.make_room_in.ensures.never_less c.make_room_in.ensures.nodes k)
