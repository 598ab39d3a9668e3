use Rattle.std.proofs.Common.{rules}
use Rattle.and_turn.proofs.Keeping.{learns}
use Rattle.and_turn.proofs.seat.TurnLock.learn.Goals as goal

pub load-seat-requires : goal.load-seat-requires
load-seat-requires g c = let r = c.requires in let t = r.1.0 in (search rules, search rules, learns g.S.Tale.lines g.S.Tale.root g.S.Tale.seat_of _ _ _ _ t.0 t.1 r.0.1)
