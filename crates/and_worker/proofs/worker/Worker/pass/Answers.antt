use Rattle.std.proofs.Common.{◌≡◌, ◌≤◌, ◌∙◌, max, length, take, ap, subst, sym}
use Rattle.and_events.specs.declared.event.Node.TheVariants.{Host}
use Rattle.and_events.specs.State.{programme_of, announced_of}
use Rattle.and_book.specs.Views.{now}
use Rattle.and_worker.specs.Workers.{IsSettled, MaySettle, WorkerView, kept_after}
use Rattle.and_worker.specs.Inside.{view_of}
use Rattle.and_worker.proofs.Turning.{done, ready, right_parcel}
use Rattle.and_worker.proofs.worker.Worker.pass.Goals as goal

pub put_down-requires-clause-may : goal.put_down-requires-clause-may
put_down-requires-clause-may c =
    let b = c.args.book.now in
    let t = c.args.tables.now in
    let may = subst (λ (w : WorkerView). MaySettle b t c.args.seat w) (sym c.self.view_is) c.requires.may in
    let most = subst (λ (w : WorkerView). length t.ops ≤ announced_of b.plan (now b) (Host w.host)) (sym c.self.view_is) c.requires.announced in
    let same = subst (λ (w : WorkerView). take (length t.ops) (programme_of b.plan (now b) (Host w.host)) ≡ t.ops) (sym c.self.view_is) c.requires.same in
    ready b t c.args.seat (view_of c.self.inside) c.in-Some.in_hand c.in-Some-decision.decision may (sym c.take.ensures.value ∙ c.in-Some.is) c.in-Some-decision.is c.is_run.ensures.sound
    c.is_run.ensures.run most same

pub put_down-requires-clause-parcel : goal.put_down-requires-clause-parcel
put_down-requires-clause-parcel c =
    let b = c.args.book.now in
    let t = c.args.tables.now in
    let may = subst (λ (w : WorkerView). MaySettle b t c.args.seat w) (sym c.self.view_is) c.requires.may in
    let most = subst (λ (w : WorkerView). length t.ops ≤ announced_of b.plan (now b) (Host w.host)) (sym c.self.view_is) c.requires.announced in
    let same = subst (λ (w : WorkerView). take (length t.ops) (programme_of b.plan (now b) (Host w.host)) ≡ t.ops) (sym c.self.view_is) c.requires.same in
    right_parcel b t c.args.seat (view_of c.self.inside) c.in-Some.in_hand c.in-Some-decision.decision may (sym c.take.ensures.value ∙ c.in-Some.is) c.in-Some-decision.is c.is_run.ensures.sound
    c.is_run.ensures.run most same

pub returns : goal.returns
returns c =
    let b = c.args.book.now in
    let w = c.self.inside in
    let t = c.args.tables.now in
    let may = subst (λ (w : WorkerView). MaySettle b t c.args.seat w) (sym c.self.view_is) c.requires.may in
    let most = subst (λ (w : WorkerView). length t.ops ≤ announced_of b.plan (now b) (Host w.host)) (sym c.self.view_is) c.requires.announced in
    let same = subst (λ (w : WorkerView). take (length t.ops) (programme_of b.plan (now b) (Host w.host)) ≡ t.ops) (sym c.self.view_is) c.requires.same in
    subst (λ (v : WorkerView). IsSettled b c.put_down.new.book t c.args.seat v
    (record { host = w.host; index = w.index; cache = c.keep.new.cache; compared = c.max-self-inside.result; hand = c.take.new.self })) c.self.view_is
    (done b t c.args.seat (view_of w) c.in-Some.in_hand c.in-Some-decision.decision may (sym c.take.ensures.value ∙ c.in-Some.is) c.in-Some-decision.is c.is_run.ensures.sound
    c.is_run.ensures.run most same c.put_down.new.book c.keep.new.cache c.max-self-inside.result c.take.new.self c.put_down.ensures
    (c.keep.ensures ∙ ap (λ k. kept_after w.cache k c.in-Some-decision.decision) c.key_of-key.ensures)
    (c.max-self-inside.ensures ∙ ap (max w.compared) c.at.ensures) c.take.ensures.after)
