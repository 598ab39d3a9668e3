use Rattle.std.proofs.Common.{◌≡◌, ◌+◌, ◌≤◌, All, vec_len, vec_capacity}
use Rattle.and_turn.specs.Seats.{IsFree, SitsAt, made_of, number_of, out_of}
use Rattle.core_tests.proofs.turn.split_all.Given as goal

abbrev pub invariant-loop : goal.invariant-loop
invariant-loop l = SitsAt l.lock l.first × IsFree l.first × (number_of l.first ≡ 0) × (out_of l.first ≡ vec_len l.jobs) × (made_of l.first ≡ vec_len l.jobs + 1) × (vec_len l.jobs ≡ l.counter) × (8 ≤ vec_capacity l.jobs)
    × All (λ j. SitsAt l.lock j.seat × IsFree j.seat) l.jobs.items
