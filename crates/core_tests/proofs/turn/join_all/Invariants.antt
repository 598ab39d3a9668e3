use Rattle.std.proofs.Common.{◌≡◌, All, vec_len}
use Rattle.and_turn.specs.Seats.{IsFree, SitsAt, number_of, out_of}
use Rattle.core_tests.proofs.turn.join_all.Given as goal

abbrev pub invariant-loop-job : goal.invariant-loop-job
invariant-loop-job l = SitsAt l.lock l.first × IsFree l.first × (number_of l.first ≡ 0) × (out_of l.first ≡ vec_len l.jobs) × All (λ j. SitsAt l.lock j.seat × IsFree j.seat) l.jobs.items

abbrev pub decreases-loop-job : goal.decreases-loop-job
decreases-loop-job l = goal.left-loop-job l
