use Rattle.and_turn.specs.Seats.{IsFree, SitsAt}
use Rattle.bench_turn.proofs.work.take_turns.Given as goal

abbrev pub invariant-loop : goal.invariant-loop
invariant-loop g l = SitsAt l.lock l.job.seat × IsFree l.job.seat
