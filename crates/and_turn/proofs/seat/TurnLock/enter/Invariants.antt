use Rattle.std.proofs.Common.{◌≡◌}
use Rattle.and_turn.specs.Seats.{Queues, SitsAt, known_of}
use Rattle.and_turn.proofs.seat.TurnLock.enter.Given as goal

abbrev pub invariant-loop : goal.invariant-loop
invariant-loop g l = SitsAt l.self l.seat × (known_of l.seat ≡ known_of l.fn.seat) × Queues l.seat
