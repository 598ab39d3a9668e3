use Rattle.std.proofs.Common.{◌∙◌, refl, arith, rules}
use Rattle.and_kept.proofs.NodesLemmas.{have_none, have_more, room_there}
use Rattle.and_kept.proofs.nodes.push_all.Goals as goal

pub loop-node-init : goal.loop-node-init
loop-node-init c = record { have = have_none c.args.entry c.args.nodes.now.items; heights = refl; end = search rules }

pub push_at-requires : goal.push_at-requires
push_at-requires c = record {
  node = omega (arith, c.loop-node.invariant.have.same, c.loop-node.invariant.end);
  room = room_there c.args.entry c.args.nodes.now.items c.loop-node.nodes.items c.loop-node.node (omega arith) c.loop-node.invariant.have c.requires;
}

pub loop-node-preserved : goal.loop-node-preserved
loop-node-preserved c = record {
  have = have_more c.args.entry c.args.nodes.now.items c.loop-node.nodes.items c.push_at.new.nodes.items c.loop-node.node (omega arith) c.loop-node.invariant.have c.push_at.ensures.nodes c.push_at.ensures.behind;
  heights = c.push_at.ensures.heights ∙ c.loop-node.invariant.heights;
  end = c.loop-node.invariant.end;
}
