use Rattle.std.proofs.Common.{◌≡◌}
use Rattle.and_events.specs.Places.{queue_count}
use Rattle.and_kept.specs.Lanes.{AreEmpty}
use Rattle.and_kept.proofs.queues.make_queues.Given as goal

abbrev pub invariant-loop-place : goal.invariant-loop-place
invariant-loop-place l = record {
  made : AreEmpty l.settings l.place l.queues.items;
  end : l.count ≡ queue_count l.settings;
}
