use Rattle.std.proofs.Common.{◌≡◌, length}
use Rattle.and_kept.specs.Nodes.{heights}
use Rattle.and_kept.proofs.NodesLemmas.{HaveEntry}
use Rattle.and_kept.proofs.nodes.push_all.Given as goal

abbrev pub invariant-loop-node : goal.invariant-loop-node
invariant-loop-node l = record {
  have : HaveEntry l.entry l.fn.nodes.items l.nodes.items l.node;
  heights : heights l.nodes.items ≡ heights l.fn.nodes.items;
  end : l.count ≡ length l.fn.nodes.items;
}
