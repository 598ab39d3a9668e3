use Rattle.std.proofs.Common.{subst, IsOk}
use Rattle.and_worker.specs.Workers.{HasSettled}
use Rattle.and_replay.proofs.Working.{is_done, may_decide, may_settle, need_is_met, same_place, settle_adds, settle_works}
use Rattle.and_replay.proofs.acting.settle_packet.Goals as goal

pub decide-requires : goal.decide-requires
decide-requires g c =
    let b = c.args.book.now in
    may_decide b c.args.tables.now c.args.worker.now c.is_run.ensures.sound c.is_run.ensures.run c.requires.next c.requires.tables c.requires.worker c.requires.has

pub settle-requires : goal.settle-requires
settle-requires g c =
    let b = c.args.book.now in
    may_settle b c.args.tables.now c.args.worker.now c.is_run.ensures.sound c.is_run.ensures.run c.requires.next c.requires.tables c.requires.worker c.decide.new.self c.in-Ok.ensures.decision

pub unreachable-requires : goal.unreachable-requires
unreachable-requires g c =
    let b = c.args.book.now in
    c.in_default.not-Done
    (is_done b c.args.tables.now c.args.worker.now c.is_run.ensures.sound c.is_run.ensures.run c.requires.next c.requires.tables c.requires.worker c.decide.new.self c.in-Ok.ensures.decision
    c.settle.result c.settle.ensures.answer)

pub unreachable-requires-in-Err : goal.unreachable-requires-in-Err
unreachable-requires-in-Err g c =
    let b = c.args.book.now in
    let clash = subst IsOk c.in-Err.is (c.decide.ensures.decided (need_is_met b c.args.tables.now c.args.worker.now c.is_run.ensures.sound c.is_run.ensures.run c.requires.next c.requires.tables c.requires.worker)) in cc

pub returns : goal.returns
returns g c =
    let b = c.args.book.now in
    let t = c.args.tables.now in
    let w = c.args.worker.now in
    let new = c.settle.new.book in
    let settled = subst (HasSettled b new t 0 c.decide.new.self c.settle.new.self) c.in-Done.is c.settle.ensures.settled in
    let sound = c.is_run.ensures.sound in
    let run = c.is_run.ensures.run in
    let did = c.in-Ok.ensures.decision in
    let place = same_place b t w sound run c.requires.next c.requires.tables c.requires.worker c.decide.new.self did new c.settle.new.self c.is_run-in-Done.ensures.run settled in
    record {
      adds = settle_adds b t w sound run c.requires.next c.requires.tables c.requires.worker c.decide.new.self did new c.settle.new.self c.is_run-in-Done.ensures.run settled;
      worker = settle_works b t w sound run c.requires.next c.requires.tables c.requires.worker c.decide.new.self did new c.settle.new.self c.is_run-in-Done.ensures.run settled;
      host = place.0;
      index = place.1;
    }
