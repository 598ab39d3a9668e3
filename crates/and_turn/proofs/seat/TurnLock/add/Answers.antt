use Rattle.std.proofs.Common.{rules}
use Rattle.and_turn.proofs.Keeping.{adds}
use Rattle.and_turn.proofs.seat.TurnLock.add.Goals as goal

pub fetch_add-requires : goal.fetch_add-requires
fetch_add-requires g c = let v = c.requires.value in let h = v.2 in
    (search rules, search rules, adds g.S.Tale.lines g.S.Tale.root g.S.Tale.seat_of _ _ _ _ h.0.0 v.0 v.1 _ h.0.1 c.requires.seat.1 h.1 v.3 v.4 v.5 v.6)
