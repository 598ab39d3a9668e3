use Rattle.std.proofs.Common.{◌*◌}
use Rattle.and_replay.specs.Parting.{FreshWorkers}
use Rattle.and_replay.proofs.parts.make_workers.Given as goal

abbrev pub invariant-loop-host : goal.invariant-loop-host
invariant-loop-host l = FreshWorkers l.settings (l.host * l.settings.workers) l.workers.items
