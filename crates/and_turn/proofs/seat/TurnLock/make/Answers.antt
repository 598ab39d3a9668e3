use Rattle.and_turn.proofs.Closing.{opens_with}
use Rattle.and_turn.proofs.seat.TurnLock.make.Goals as goal

pub new-requires : goal.new-requires
new-requires g c = opens_with g.S.Tale.lines g.S.Tale.root g.S.Tale.seat_of _ _ _ _ c.of-key.ensures c.in-Ok.ensures.items c.push_reserved.ensures.items c.requires
