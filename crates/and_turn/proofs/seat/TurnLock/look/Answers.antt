use Rattle.std.proofs.Common.{rules}
use Rattle.and_turn.proofs.Keeping.{looks}
use Rattle.and_turn.proofs.seat.TurnLock.look.Goals as goal

pub load-requires : goal.load-requires
load-requires g c = let r = c.requires in let t = r.1.0 in (search rules, search rules, looks g.S.Tale.lines g.S.Tale.root g.S.Tale.seat_of _ _ _ _ t.0 t.1 r.0.1)
