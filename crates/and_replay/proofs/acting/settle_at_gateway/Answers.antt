use Rattle.std.proofs.Common.{subst, IsOk}
use Rattle.and_hover.specs.Hovers.{HasSettled}
use Rattle.and_replay.proofs.Passing.{is_done, may_settle, need_is_met, same_place, settle_adds, settle_passes}
use Rattle.and_replay.proofs.acting.settle_at_gateway.Goals as goal

pub settle-requires : goal.settle-requires
settle-requires c =
    let b = c.args.book.now in
    may_settle b c.args.tables.now c.args.hover.now c.is_run.ensures.sound c.is_run.ensures.run c.requires.next c.requires.tables c.requires.worker c.decide.new.self c.in-Ok.ensures.decision

pub unreachable-requires : goal.unreachable-requires
unreachable-requires c =
    let b = c.args.book.now in
    c.in_default.not-Done
    (is_done b c.args.tables.now c.args.hover.now c.is_run.ensures.sound c.is_run.ensures.run c.requires.next c.requires.tables c.requires.worker c.decide.new.self c.in-Ok.ensures.decision
    c.settle.result c.settle.ensures.answer)

pub unreachable-requires-in-Err : goal.unreachable-requires-in-Err
unreachable-requires-in-Err c =
    let b = c.args.book.now in
    let clash = subst IsOk c.in-Err.is (c.decide.ensures.decided (need_is_met b c.args.tables.now c.args.hover.now c.is_run.ensures.sound c.is_run.ensures.run c.requires.next c.requires.tables c.requires.worker)) in cc

pub returns : goal.returns
returns c =
    let b = c.args.book.now in
    let t = c.args.tables.now in
    let v = c.args.hover.now in
    let new = c.settle.new.book in
    let settled = subst (HasSettled b new t 0 c.decide.new.self c.settle.new.self) c.in-Done.is c.settle.ensures.settled in
    let sound = c.is_run.ensures.sound in
    let run = c.is_run.ensures.run in
    let did = c.in-Ok.ensures.decision in
    record {
      adds = settle_adds b t v sound run c.requires.next c.requires.tables c.requires.worker c.decide.new.self did new c.settle.new.self c.is_run-in-Done.ensures.run settled;
      worker = settle_passes b t v sound run c.requires.next c.requires.tables c.requires.worker c.decide.new.self did new c.settle.new.self c.is_run-in-Done.ensures.run settled;
      gateway = same_place b t v sound run c.requires.next c.requires.tables c.requires.worker c.decide.new.self did new c.settle.new.self c.is_run-in-Done.ensures.run settled;
    }
