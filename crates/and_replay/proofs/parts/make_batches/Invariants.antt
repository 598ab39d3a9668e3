use Rattle.and_replay.specs.Parting.{FreshBatches}
use Rattle.and_replay.proofs.parts.make_batches.Given as goal

abbrev pub invariant-loop-node : goal.invariant-loop-node
invariant-loop-node l = FreshBatches l._node l.batches.items
