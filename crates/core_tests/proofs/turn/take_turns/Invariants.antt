use Rattle.and_turn.specs.Seats.{IsFree, SitsAt}
use Rattle.core_tests.proofs.turn.take_turns.Given as goal

abbrev pub invariant-loop-turn : goal.invariant-loop-turn
invariant-loop-turn g l = SitsAt l.lock l.job.seat × IsFree l.job.seat
