use Rattle.std.proofs.Common.{ap}
use Rattle.and_events.specs.declared.event.Actor.TheVariants.{Gateway}
use Rattle.and_hover.specs.Hovers.{HoverView}
use Rattle.and_replay.proofs.Passing.{as_book, take_adds, take_passes}
use Rattle.and_replay.proofs.Working.{seat_is}
use Rattle.and_replay.proofs.acting.pass.Goals as goal

pub take-requires-clause-seat : goal.take-requires-clause-seat
take-requires-clause-seat c = let b = c.args.book.now in seat_is b.threads b.plan.settings (Gateway c.args.hover.now.gateway) c.requires.next.threads

pub take-requires-clause-hands : goal.take-requires-clause-hands
take-requires-clause-hands c = as_book c.args.book.now c.args.hover.now c.requires.worker

pub returns-then-take : goal.returns-then-take
returns-then-take c =
    let b = c.args.book.now in
    let v = c.args.hover.now in
    let took = c.take.ensures.taken c.if-take.true in
    record {
      adds = take_adds b c.take.new.book v c.take.new.self c.is_run.ensures.sound c.is_run-then-take.ensures.run c.requires.next.actor c.requires.worker took;
      worker = take_passes b c.take.new.book v c.take.new.self c.is_run.ensures.sound c.is_run-then-take.ensures.run c.requires.next.actor c.requires.worker took;
      gateway = ap (λ (z : HoverView). z.gateway) took.worker;
    }
