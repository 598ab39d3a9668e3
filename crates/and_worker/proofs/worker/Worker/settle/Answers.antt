use Rattle.std.proofs.Common.{ap, subst}
use Rattle.and_events.specs.declared.event.Node.TheVariants.{Host}
use Rattle.and_events.specs.State.{programme_of, announced_of}
use Rattle.and_book.specs.Views.{now}
use Rattle.and_agree.specs.Agreeing.{Tells}
use Rattle.and_worker.specs.Workers.{HasSettled, WorkerView}
use Rattle.and_worker.specs.Inside.{view_of}
use Rattle.and_worker.proofs.Turning.{unsettled}
use Rattle.and_worker.proofs.worker.Worker.settle.Goals as goal

pub returns-in_default-clause-settled : goal.returns-in_default-clause-settled
returns-in_default-clause-settled c =
    let b = c.args.book.now in
    let w = c.self.inside in
    let after : WorkerView = record { host = w.host; index = w.index; cache = w.cache; compared = w.compared; hand = c.forget.new.hand } in
    subst (λ (v : WorkerView). HasSettled b b c.args.tables.now c.args.seat v after c.compare.result) c.self.view_is
    (unsettled b c.args.tables.now c.args.seat (view_of w) after c.compare.result c.in_default.not-Done
    (ap (λ o. record { host = w.host; index = w.index; cache = w.cache; compared = w.compared; hand = o }) c.forget.ensures))

pub returns-in_default-clause-answer : goal.returns-in_default-clause-answer
returns-in_default-clause-answer c =
    let b = c.args.book.now in
    subst (λ (v : WorkerView). Tells (announced_of b.plan (now b) (Host v.host)) c.args.tables.now.ops (programme_of b.plan (now b) (Host v.host)) c.compare.result) c.self.view_is c.compare.ensures
