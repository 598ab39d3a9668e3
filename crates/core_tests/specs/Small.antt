-- The plan of the tests: one host, one gateway, no VM; it comes to rest and ends.
use Rattle.std.specs.Prelude.{[], ◌∷◌, false}
use Rattle.and_events.specs.declared.plan.Plan.{Plan}
use Rattle.and_events.specs.declared.plan.Step.TheVariants.{Wait, Finish}

abbrev pub small_plan : Plan
small_plan = record {
  settings = record { hosts = 1; gateways = 1; workers = 2; hop_limit = 16; out_queue = 256; wire_queue = 256; seal_queue = 256; threshold = 20000; life = 3 };
  steps = Wait ∷ Finish ∷ [];
  log = [];
  packets = [];
  refused = [];
  skipped = [];
  frames = 0;
  unsent = 0;
  nanos = false;
  names = [];
}
