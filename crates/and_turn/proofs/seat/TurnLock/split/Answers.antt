use Rattle.std.proofs.Common.{rules}
use Rattle.and_turn.proofs.Keeping.{splits}
use Rattle.and_turn.proofs.seat.TurnLock.split.Goals as goal

pub split_seat-place-requires : goal.split_seat-place-requires
split_seat-place-requires g c = let r = c.requires.seat in
    (search rules, search rules, splits g.S.Tale.lines g.S.Tale.root g.S.Tale.seat_of _ _ _ r.1.0 r.0.1 r.2 c.requires.room)
