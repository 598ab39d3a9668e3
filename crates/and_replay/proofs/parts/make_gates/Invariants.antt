use Rattle.and_replay.specs.Parting.{FreshGates}
use Rattle.and_replay.proofs.parts.make_gates.Given as goal

abbrev pub invariant-loop-gateway : goal.invariant-loop-gateway
invariant-loop-gateway l = FreshGates l._gateway l.gates.items
