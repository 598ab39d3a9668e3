use Rattle.std.proofs.Common.{◌∙◌, subst, sym}
use Rattle.and_hover.specs.Coprocs.{CoprocView, IsSettled, MaySettle}
use Rattle.and_hover.specs.Within.{view_of}
use Rattle.and_hover.proofs.Sealing.{done, holds, ready}
use Rattle.and_hover.proofs.coproc.Coproc.settle.Goals as goal

pub sealed-requires-clause-ready : goal.sealed-requires-clause-ready
sealed-requires-clause-ready c =
    let b = c.args.book.now in
    let may = subst (MaySettle b c.args.seat) (sym c.self.view_is) c.requires in
    ready b c.args.seat (view_of c.self.inside) c.in-Some.to_seal may (sym c.take.ensures.value ∙ c.in-Some.is) c.is_run.ensures.run

pub sealed-requires-clause-parcel : goal.sealed-requires-clause-parcel
sealed-requires-clause-parcel c =
    let b = c.args.book.now in
    let may = subst (MaySettle b c.args.seat) (sym c.self.view_is) c.requires in
    (holds b c.args.seat (view_of c.self.inside) c.in-Some.to_seal may (sym c.take.ensures.value ∙ c.in-Some.is)).parcel

pub returns : goal.returns
returns c =
    let b = c.args.book.now in
    let v = c.self.inside in
    let may = subst (MaySettle b c.args.seat) (sym c.self.view_is) c.requires in
    let new = c.sealed.new.self in
    let all = done b c.args.seat (view_of v) c.in-Some.to_seal may (sym c.take.ensures.value ∙ c.in-Some.is) new c.sealed.ensures in
    let there = subst (λ o. IsSettled b new c.args.seat (view_of v) (record (view_of v) { hand = o })) (sym c.take.ensures.after) all in
    subst (λ (w : CoprocView). IsSettled b new c.args.seat w (record (view_of v) { hand = c.take.new.self })) c.self.view_is there
