use Rattle.std.proofs.Common.{◌<◌, ◌∙◌, sym, ap, subst, rules, length, vec_capacity}
use Rattle.and_events.specs.Programming.{Logs, programmes_after}
use Rattle.and_kept.specs.Nodes.{NodesView, IsFloor}
use Rattle.and_kept.proofs.NodesLemmas.{progress_more, logs_nodes, room_for}
use Rattle.and_kept.proofs.nodes.Nodes.append.Goals as goal

pub append-requires : goal.append-requires
append-requires c = room_for c.self.inside.limit c.self.inside.log.items c.self.inside.placements (subst (λ (p : NodesView). length p.programmes.log < p.limit) (sym c.self.view_is) c.requires) c.self.invariant.0.room

pub invariant_of-self : goal.invariant_of-self
invariant_of-self c =
    let log = c.self.inside.log.items in
    let room : length log < c.self.inside.limit = subst (λ (p : NodesView). length p.programmes.log < p.limit) (sym c.self.view_is) c.requires in (
      progress_more log c.push_reserved.new.self.items c.self.inside.nodes.items c.push_all.new.nodes.items c.self.inside.placements c.append.new.self c.args.entry c.self.inside.behind c.len-self-inside.result c.self.inside.limit (vec_capacity c.self.inside.log) (vec_capacity c.push_reserved.new.self)
          c.self.invariant.0 room c.push_reserved.ensures.items c.push_all.ensures.nodes c.push_all.ensures.behind (search rules) c.push_reserved.ensures.capacity
          (c.append.ensures.placements log c.self.invariant.0.placed) c.append.ensures.room,
      subst (λ hs. IsFloor hs c.self.inside.floor.least c.self.inside.floor.count) (sym c.push_all.ensures.heights) c.self.invariant.1,
    )

pub returns-clause-programmes : goal.returns-clause-programmes
returns-clause-programmes c =
    logs_nodes c.self.inside.log.items c.push_reserved.new.self.items c.self.inside.nodes.items c.push_all.new.nodes.items c.args.entry c.push_reserved.ensures.items c.push_all.ensures.nodes
    ∙ ap (λ (p : NodesView). programmes_after p.programmes (Logs c.args.entry)) c.self.view_is
