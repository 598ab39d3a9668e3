use Rattle.std.proofs.Common.{rules, Some}
use Rattle.and_turn.proofs.seat.TurnLock.lift.Goals as goal

pub exchange-requires : goal.exchange-requires
exchange-requires g c = (search rules, (Some c.requires.1.0, search rules))
