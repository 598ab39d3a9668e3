use Rattle.std.proofs.Common.{◌+◌, ◌*◌}
use Rattle.and_replay.specs.Parting.{FreshWorkers}
use Rattle.and_replay.proofs.parts.add_workers.Given as goal

abbrev pub invariant-loop-index : goal.invariant-loop-index
invariant-loop-index l = FreshWorkers l.fn.settings (l.host * l.fn.settings.workers + l.index) l.workers.items
