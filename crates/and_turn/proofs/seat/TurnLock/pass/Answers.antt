use Rattle.std.proofs.Common.{rules, ℕ, arith, ◌≡◌, ◌%◌}
use Rattle.and_turn.proofs.Keeping.{passes}
use Rattle.and_turn.proofs.seat.TurnLock.pass.Goals as goal

pub store-requires : goal.store-requires
store-requires g c = let r = c.requires in let h = r.1.1 in let n : ℕ = h.0.0 in let ticket : ℕ = c.args.seat.now.ticket in
    let is : ticket ≡ n % 18446744073709551616 = h.0.2 in
    (search rules, search rules, passes g.S.Tale.lines g.S.Tale.root g.S.Tale.seat_of _ _ _ _ n r.1.0 h.0.1 r.0.1 h.1 r.1.2 r.1.3 _ (omega arith))
