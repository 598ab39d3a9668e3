-- The tests' plan is one that a book may have.
use Rattle.std.proofs.Common.{◌≡◌, refl, sym, subst, arith}
use Rattle.and_events.specs.declared.plan.Plan.{Plan}
use Rattle.and_events.specs.Sound.{IsSound}
use Rattle.core_tests.specs.Small.{small_plan}

sound_small : IsSound small_plan
sound_small = record {
  settings = record {
    hosts = (omega arith, omega arith);
    gateways = (omega arith, omega arith);
    workers = (omega arith, omega arith);
    hop_limit = (omega arith, omega arith);
    out_queue = (omega arith, omega arith);
    wire_queue = (omega arith, omega arith);
    seal_queue = (omega arith, omega arith);
    threshold = (omega arith, omega arith);
    life = (omega arith, omega arith);
  };
  names = omega arith;
  few_steps = omega arith;
  few_packets = omega arith;
  steps = (tt, record { holds = refl; log = refl; packets = refl });
}

pub small_sound : (p : Plan) → p ≡ small_plan → IsSound p
small_sound p is = subst IsSound (sym is) sound_small
