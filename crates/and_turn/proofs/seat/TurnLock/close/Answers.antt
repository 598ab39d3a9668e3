use Rattle.std.proofs.Common.{rules, ◌≡◌, Some, sym, ap, ◌∙◌}
use mathlib.Core.Option.{some-injective}
use Rattle.and_turn.proofs.Closing.{closed_slot}
use Rattle.and_turn.proofs.Keeping.{some_inside}
use Rattle.and_turn.proofs.seat.TurnLock.close.Goals as goal

pub unwrap-requires : goal.unwrap-requires
unwrap-requires g c = let r = c.requires in let k = closed_slot g.S.Tale.lines g.S.Tale.root g.S.Tale.seat_of _ _ _ _ _ c.close_with-closed.ensures.values.2 r.1.0 r.0.1 r.2 r.3 in
    let is : c.take-slot.result ≡ Some k.0 = some-injective _ _ (sym c.take-slot.ensures.value ∙ k.1) in search (rules, is)

pub returns-clause-seen : goal.returns-clause-seen
returns-clause-seen g c = let r = c.requires in let k = closed_slot g.S.Tale.lines g.S.Tale.root g.S.Tale.seat_of _ _ _ _ _ c.close_with-closed.ensures.values.2 r.1.0 r.0.1 r.2 r.3 in
    let slot : c.take-slot.result ≡ Some k.0 = some-injective _ _ (sym c.take-slot.ensures.value ∙ k.1) in
    let is : c.unwrap.result ≡ k.0 = some_inside _ _ (sym c.unwrap.ensures ∙ slot) in sym k.2 ∙ ap g.S.Tale.lines (sym is)

pub returns-clause-root : goal.returns-clause-root
returns-clause-root g c = let r = c.requires in let k = closed_slot g.S.Tale.lines g.S.Tale.root g.S.Tale.seat_of _ _ _ _ _ c.close_with-closed.ensures.values.2 r.1.0 r.0.1 r.2 r.3 in
    let slot : c.take-slot.result ≡ Some k.0 = some-injective _ _ (sym c.take-slot.ensures.value ∙ k.1) in
    let is : c.unwrap.result ≡ k.0 = some_inside _ _ (sym c.unwrap.ensures ∙ slot) in ap g.S.Tale.root is ∙ k.3
