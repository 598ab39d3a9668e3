use Rattle.std.proofs.Common.{◌≡◌, ◌≤◌, ◌∙◌, max, length, take, ap, subst, sym}
use Rattle.and_events.specs.declared.event.Node.TheVariants.{Gate}
use Rattle.and_events.specs.State.{programme_of, announced_of}
use Rattle.and_book.specs.Views.{now}
use Rattle.and_hover.specs.Hovers.{HoverView, IsSettled, MaySettle}
use Rattle.and_hover.specs.Inside.{view_of}
use Rattle.and_hover.proofs.Passing.{done, ready}
use Rattle.and_hover.proofs.hover.Hover.pass.Goals as goal

pub settle_gateway-requires-clause-ready : goal.settle_gateway-requires-clause-ready
settle_gateway-requires-clause-ready c =
    let b = c.args.book.now in
    let tables = c.args.tables.now in
    let may = subst (λ (w : HoverView). MaySettle b tables c.args.seat w) (sym c.self.view_is) c.requires.may in
    let most = subst (λ (w : HoverView). length tables ≤ announced_of b.plan (now b) (Gate w.gateway)) (sym c.self.view_is) c.requires.announced in
    let same = subst (λ (w : HoverView). take (length tables) (programme_of b.plan (now b) (Gate w.gateway)) ≡ tables) (sym c.self.view_is) c.requires.same in
    ready b tables c.args.seat (view_of c.self.inside) c.in-Some.in_hand c.in-Some-decision.decision may (sym c.take.ensures.value ∙ c.in-Some.is) c.in-Some-decision.is same
    c.is_run.ensures.sound c.is_run.ensures.run most

pub returns : goal.returns
returns c =
    let b = c.args.book.now in
    let h = c.self.inside in
    let tables = c.args.tables.now in
    let may = subst (λ (w : HoverView). MaySettle b tables c.args.seat w) (sym c.self.view_is) c.requires.may in
    let same = subst (λ (w : HoverView). take (length tables) (programme_of b.plan (now b) (Gate w.gateway)) ≡ tables) (sym c.self.view_is) c.requires.same in
    subst (λ (w : HoverView). IsSettled b c.settle_gateway.new.self tables c.args.seat w (record { gateway = h.gateway; compared = c.max-self-inside.result; hand = c.take.new.self })) c.self.view_is
    (done b tables c.args.seat (view_of h) c.in-Some.in_hand c.in-Some-decision.decision may (sym c.take.ensures.value ∙ c.in-Some.is) c.in-Some-decision.is same c.settle_gateway.new.self
    c.max-self-inside.result c.take.new.self c.settle_gateway.ensures (c.max-self-inside.ensures ∙ ap (max h.compared) c.at.ensures) c.take.ensures.after)
