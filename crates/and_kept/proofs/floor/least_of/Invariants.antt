use Rattle.and_kept.specs.Nodes.{heights}
use Rattle.and_kept.proofs.FloorLemmas.{IsLeastOf}
use Rattle.and_kept.proofs.floor.least_of.Given as goal

abbrev pub invariant-loop-node : goal.invariant-loop-node
invariant-loop-node l = IsLeastOf (heights l.nodes) l.node-index l.least
