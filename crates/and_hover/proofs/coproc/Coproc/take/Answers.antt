use Rattle.std.proofs.Common.{subst, sym, Some}
use Rattle.and_events.specs.declared.event.Actor.TheVariants.{Coproc}
use Rattle.and_hover.specs.Coprocs.{CoprocView, HasTaken}
use Rattle.and_hover.specs.Holding.{HoldsAsBook}
use Rattle.and_hover.specs.Within.{view_of}
use Rattle.and_hover.proofs.Holding.{ready}
use Rattle.and_hover.proofs.Sealing.{taken}
use Rattle.and_hover.proofs.coproc.Coproc.take.Goals as goal

pub returns-clause-taken : goal.returns-clause-taken
returns-clause-taken c = λ e.
    let b = c.args.book.now in
    let v = c.self.inside in
    let able = c.can_take.ensures.0 c.if-not-can_take.false in
    let holds = subst (λ (w : CoprocView). HoldsAsBook b (Coproc w.host) w.hand) (sym c.self.view_is) c.requires.hands in
    let may = ready b (Coproc v.host) v.hand tt holds able.0 able.1 in
    let held = c.take-parcel.result.0 in
    let parcel = c.take-parcel.result.1 in
    let all = taken b c.take-parcel.new.self c.args.seat (view_of v) held parcel may c.take-parcel.ensures.line c.take-parcel.ensures.held c.take-parcel.ensures.parcel in
    subst (λ (w : CoprocView). HasTaken b c.take-parcel.new.self c.args.seat w (record (view_of v) { hand = Some (record { held = held; parcel = parcel }) })) c.self.view_is all
