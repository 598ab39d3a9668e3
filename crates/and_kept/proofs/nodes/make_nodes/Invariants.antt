use Rattle.std.proofs.Common.{◌≡◌, [], replicate}
use Rattle.and_kept.proofs.nodes.make_nodes.Given as goal

abbrev pub invariant-loop-node : goal.invariant-loop-node
invariant-loop-node l = l.nodes.items ≡ replicate l._node (record { ops = []; announced = 0; installed = 0; limit = l.limit })
