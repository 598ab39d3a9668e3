use Rattle.std.proofs.Common.{rules}
use Rattle.and_turn.proofs.Closing.{joined_ended, joined_out}
use Rattle.and_turn.proofs.Keeping.{joins, recalls}
use Rattle.and_turn.proofs.seat.TurnLock.join.Goals as goal

pub join_seat-requires : goal.join_seat-requires
join_seat-requires g c = let r = c.requires.seat in let o = c.requires.other in
    (search rules, search rules, search rules, search rules, joins g.S.Tale.lines g.S.Tale.root g.S.Tale.seat_of _ _ _ _ _ r.1.0 r.0.1 r.2 o.1.0 o.0.1)

pub load-requires : goal.load-requires
load-requires g c = (search rules, search rules, recalls g.S.Tale.lines g.S.Tale.root g.S.Tale.seat_of _ _ _ _)

pub returns-clause-out : goal.returns-clause-out
returns-clause-out g c = let r = c.requires.seat in
    joined_out g.S.Tale.seat_of c.args.seat.now.place.me.0 c.args.other.place.me.0 _ _ _ c.join_seat.ensures.2 c.load.ensures.2.0 c.load.ensures.2.1 r.0.1 r.2

pub returns-clause-ended : goal.returns-clause-ended
returns-clause-ended g c = let r = c.requires.seat in
    joined_ended g.S.Tale.seat_of c.args.seat.now.place.me.0 c.args.other.place.me.0 _ _ _ c.join_seat.ensures.2 c.load.ensures.2.0 c.load.ensures.2.1 r.0.1 r.2
