use Rattle.std.proofs.Common.{ap}
use Rattle.and_events.specs.declared.event.Actor.TheVariants.{Worker}
use Rattle.and_worker.specs.Workers.{WorkerView}
use Rattle.and_replay.proofs.Working.{as_book, seat_is, take_adds, take_works}
use Rattle.and_replay.proofs.acting.work.Goals as goal

pub take-requires-clause-seat : goal.take-requires-clause-seat
take-requires-clause-seat g c = let b = c.args.book.now in seat_is b.threads b.plan.settings (Worker c.args.worker.now.host c.args.worker.now.index) c.requires.next.threads

pub take-requires-clause-hands : goal.take-requires-clause-hands
take-requires-clause-hands g c = as_book c.args.book.now c.args.worker.now c.requires.worker

pub returns-then-take : goal.returns-then-take
returns-then-take g c =
    let b = c.args.book.now in
    let w = c.args.worker.now in
    let took = c.take.ensures.taken c.if-take.true in
    let fields = took.worker in
    record {
      adds = take_adds b c.take.new.book w c.take.new.self c.is_run.ensures.sound c.is_run-then-take.ensures.run c.requires.next.actor.0 c.requires.worker took;
      worker = take_works b c.take.new.book w c.take.new.self c.is_run.ensures.sound c.is_run-then-take.ensures.run c.requires.next.actor.0 c.requires.worker took;
      host = ap (λ (v : WorkerView). v.host) fields;
      index = ap (λ (v : WorkerView). v.index) fields;
    }
