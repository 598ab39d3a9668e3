use Rattle.and_replay.specs.Parting.{FreshHovers}
use Rattle.and_replay.proofs.parts.make_hovers.Given as goal

abbrev pub invariant-loop-gateway : goal.invariant-loop-gateway
invariant-loop-gateway l = FreshHovers l.gateway l.hovers.items
