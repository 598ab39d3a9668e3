use Rattle.and_replay.specs.Parting.{FreshCoprocs}
use Rattle.and_replay.proofs.parts.make_coprocs.Given as goal

abbrev pub invariant-loop-host : goal.invariant-loop-host
invariant-loop-host l = FreshCoprocs l.host l.coprocs.items
