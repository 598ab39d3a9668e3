use Rattle.std.proofs.Common.{◌*◌, ◌∙◌, sym, ap, subst}
use Rattle.and_events.specs.declared.event.Actor.TheVariants.{Worker}
use Rattle.and_events.specs.declared.plan.Plan.{Plan}
use Rattle.and_events.specs.Places.{hand_place}
use Rattle.and_events.specs.Run.{past}
use Rattle.and_replay.specs.Parting.{IsWorkerAt, host_tables}
use Rattle.and_replay.specs.Turns.{Adds, IsNext}
use Rattle.and_replay.proofs.Others.{found_worker, host_of, place_within, worker_changed}
use Rattle.and_replay.proofs.Rows.{part_at}
use Rattle.and_replay.proofs.acting.work_at.Goals as goal

pub work-requires-clause-next : goal.work-requires-clause-next
work-requires-clause-next g c =
    let b = c.args.book.now in
    let h = past b.lines in
    let n = c.hand_place-place.result in
    let w = c.index_mut.result.now in
    let place = c.hand_place-place.ensures.place ∙ ap (λ (p : Plan). hand_place p.settings (Worker c.args.host c.args.index)) c.plan.ensures in
    let at : IsWorkerAt b.plan h n w = subst (IsWorkerAt b.plan h n) (sym c.index_mut.ensures.value)
    (part_at _ (b.plan.settings.hosts * b.plan.settings.workers) c.args.workers.now.items c.requires.workers n _ (place_within b.plan.settings c.args.host c.args.index n c.requires.next.actor place)) in
    let found = found_worker b.plan h c.args.host c.args.index n w c.requires.next.actor place at in
    subst (IsNext b) (sym found) c.requires.next

pub work-requires-clause-tables : goal.work-requires-clause-tables
work-requires-clause-tables g c =
    let b = c.args.book.now in
    let h = past b.lines in
    let n = c.hand_place-place.result in
    let w = c.index_mut.result.now in
    let place = c.hand_place-place.ensures.place ∙ ap (λ (p : Plan). hand_place p.settings (Worker c.args.host c.args.index)) c.plan.ensures in
    let at : IsWorkerAt b.plan h n w = subst (IsWorkerAt b.plan h n) (sym c.index_mut.ensures.value)
    (part_at _ (b.plan.settings.hosts * b.plan.settings.workers) c.args.workers.now.items c.requires.workers n _ (place_within b.plan.settings c.args.host c.args.index n c.requires.next.actor place)) in
    let found = found_worker b.plan h c.args.host c.args.index n w c.requires.next.actor place at in
    c.index-hosts-host.is
    ∙ (part_at _ b.plan.settings.hosts c.args.hosts.now c.requires.hosts c.args.host _ c.requires.next.actor.0
    ∙ ap (host_tables b.plan h) (sym (host_of w.host w.index c.args.host c.args.index found)))

pub work-requires-clause-worker : goal.work-requires-clause-worker
work-requires-clause-worker g c =
    let b = c.args.book.now in
    let h = past b.lines in
    let n = c.hand_place-place.result in
    let w = c.index_mut.result.now in
    let place = c.hand_place-place.ensures.place ∙ ap (λ (p : Plan). hand_place p.settings (Worker c.args.host c.args.index)) c.plan.ensures in
    let at : IsWorkerAt b.plan h n w = subst (IsWorkerAt b.plan h n) (sym c.index_mut.ensures.value)
    (part_at _ (b.plan.settings.hosts * b.plan.settings.workers) c.args.workers.now.items c.requires.workers n _ (place_within b.plan.settings c.args.host c.args.index n c.requires.next.actor place)) in
    let found = found_worker b.plan h c.args.host c.args.index n w c.requires.next.actor place at in
    at.working

pub returns : goal.returns
returns g c =
    let b = c.args.book.now in
    let h = past b.lines in
    let n = c.hand_place-place.result in
    let w = c.index_mut.result.now in
    let place = c.hand_place-place.ensures.place ∙ ap (λ (p : Plan). hand_place p.settings (Worker c.args.host c.args.index)) c.plan.ensures in
    let at : IsWorkerAt b.plan h n w = subst (IsWorkerAt b.plan h n) (sym c.index_mut.ensures.value)
    (part_at _ (b.plan.settings.hosts * b.plan.settings.workers) c.args.workers.now.items c.requires.workers n _ (place_within b.plan.settings c.args.host c.args.index n c.requires.next.actor place)) in
    let found = found_worker b.plan h c.args.host c.args.index n w c.requires.next.actor place at in
    let adds = subst (Adds b c.work.new.book) found c.work.ensures.adds in
    record {
      adds = adds;
      workers = worker_changed b c.work.new.book (Worker c.args.host c.args.index) adds c.is_run-2.ensures.sound c.is_run-2.ensures.run c.args.workers.now.items n w c.work.new.worker (sym found) at
          c.work.ensures.host c.work.ensures.index c.work.ensures.worker c.requires.workers;
    }
