use Rattle.std.proofs.Common.{rules}
use Rattle.and_turn.proofs.Keeping.{draws}
use Rattle.and_turn.proofs.seat.TurnLock.draw.Goals as goal

pub fetch_add-seat-requires : goal.fetch_add-seat-requires
fetch_add-seat-requires g c = let r = c.requires in (search rules, search rules, draws g.S.Tale.lines g.S.Tale.root g.S.Tale.seat_of _ _ _ _ r.1.0 r.0.1)
