use Rattle.and_replay.specs.Parting.{FreshHosts}
use Rattle.and_replay.proofs.parts.make_hosts.Given as goal

abbrev pub invariant-loop-host : goal.invariant-loop-host
invariant-loop-host l = FreshHosts l.settings l.host l.hosts.items
