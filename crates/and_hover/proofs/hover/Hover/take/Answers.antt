use Rattle.std.proofs.Common.{◌∙◌, ap, subst, sym, Some, None}
use Rattle.and_events.specs.declared.event.Actor.TheVariants.{Gateway}
use Rattle.and_events.specs.declared.event.Carried.{Carried}
use Rattle.and_book.specs.Views.{MayTake, now}
use Rattle.and_hover.specs.Holding.{HoldsAsBook}
use Rattle.and_hover.specs.Hovers.{HasTaken, HoverView, is_redirect}
use Rattle.and_hover.specs.Inside.{view_of}
use Rattle.and_hover.proofs.Holding.{ready}
use Rattle.and_hover.proofs.Passing.{taken, taken_in_plan, taken_readable}
use Rattle.and_hover.proofs.hover.Hover.take.Goals as goal

pub carried-carried-requires : goal.carried-carried-requires
carried-carried-requires c =
    let b = c.args.book.now in
    let h = c.self.inside in
    let able = c.can_take.ensures.0 c.if-not-can_take.false in
    let holds = subst (λ (w : HoverView). HoldsAsBook b (Gateway w.gateway) w.hand) (sym c.self.view_is) c.requires.hands in
    let may : MayTake b.plan (now b) (Gateway h.gateway) = ready b (Gateway h.gateway) h.hand tt holds able.0 able.1 in
    taken_in_plan b c.take-parcel.new.self h.gateway c.args.seat c.take-parcel.result.0 c.take-parcel.result.1 may c.take-parcel.ensures.line c.take-parcel.ensures.held
    c.is_run.ensures.sound c.is_run.ensures.run

pub invariant_of-self : goal.invariant_of-self
invariant_of-self c =
    let b = c.args.book.now in
    let h = c.self.inside in
    let able = c.can_take.ensures.0 c.if-not-can_take.false in
    let holds = subst (λ (w : HoverView). HoldsAsBook b (Gateway w.gateway) w.hand) (sym c.self.view_is) c.requires.hands in
    let may : MayTake b.plan (now b) (Gateway h.gateway) = ready b (Gateway h.gateway) h.hand tt holds able.0 able.1 in
    taken_readable b c.take-parcel.new.self h.gateway c.args.seat c.take-parcel.result.0 c.take-parcel.result.1 may c.take-parcel.ensures.line c.take-parcel.ensures.held
    c.is_run.ensures.sound c.is_run.ensures.run c.take-parcel.ensures.parcel

pub returns-clause-taken : goal.returns-clause-taken
returns-clause-taken c = λ e.
    let b = c.args.book.now in
    let h = c.self.inside in
    let able = c.can_take.ensures.0 c.if-not-can_take.false in
    let holds = subst (λ (w : HoverView). HoldsAsBook b (Gateway w.gateway) w.hand) (sym c.self.view_is) c.requires.hands in
    let may : MayTake b.plan (now b) (Gateway h.gateway) = ready b (Gateway h.gateway) h.hand tt holds able.0 able.1 in
    let held = c.take-parcel.result.0 in
    let parcel = c.take-parcel.result.1 in
    let net = ap (λ (x : Carried). x.net) c.carried-carried.ensures in
    let to = c.is_for_redirect.ensures ∙ ap (λ (x : Carried). is_redirect x.target) c.carried-carried.ensures in
    let all = taken b c.take-parcel.new.self c.args.seat (view_of h) held parcel c.carried-carried.result.net c.is_for_redirect.result may c.take-parcel.ensures.line c.take-parcel.ensures.held
    c.take-parcel.ensures.parcel net to in
    subst (λ (w : HoverView). HasTaken b c.take-parcel.new.self c.args.seat w
    (record (view_of h) { hand = Some (record { held = held; parcel = parcel; vni = c.carried-carried.result.net; redirect = c.is_for_redirect.result; decision = None }) })) c.self.view_is all
