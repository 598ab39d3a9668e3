use Rattle.std.proofs.Common.{rules, ◌≡◌, ap, arith, length, length-append}
use Rattle.and_turn.specs.Seats.{seen_of}
use Rattle.and_turn.proofs.seat.TurnLock.leave.Goals as goal

pub add-requires-clause-value : goal.add-requires-clause-value
add-requires-clause-value g c = let turn = c.requires.turn.1 in let m = c.requires.lines in
    let count : c.line_count.result ≡ length (g.S.Tale.lines c.args.value) = c.line_count.ensures c.requires.few in
    let before : c.args.seat.now.lines ≡ length (seen_of c.args.seat.now) = turn.2 in
    let all = ap length m.1 in let sum = length-append (seen_of c.args.seat.now) m.0 in
    (c.args.value, m.0, search rules, search rules, omega arith, search rules, search rules)
