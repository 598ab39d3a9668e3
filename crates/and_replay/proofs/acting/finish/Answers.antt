use Rattle.std.proofs.Common.{◌≡◌, ◌∙◌, ◌++◌, length, sym, ap, subst, arith}
use Rattle.and_policy.specs.declared.entry.Op.{Op}
use Rattle.and_events.specs.declared.event.Event.TheVariants.{Installed}
use Rattle.and_events.specs.Places.{installer_of}
use Rattle.and_events.specs.Run.{past}
use Rattle.and_events.specs.State.{announced_of}
use Rattle.and_book.specs.Views.{now, with_line}
use Rattle.and_replay.specs.Parting.{IsBatch, installed_ops}
use Rattle.and_replay.proofs.Installing.{batch_is, install_adds, install_batch, install_ops, none_left, room_for}
use Rattle.and_replay.proofs.Working.{seat_is}
use Rattle.and_replay.proofs.acting.finish.Goals as goal

pub unreachable-requires : goal.unreachable-requires
unreachable-requires g c =
    let b = c.args.book.now in
    none_left b.plan (past b.lines) c.args.node c.args.batch.now c.take.result c.requires.batch c.take.ensures.value c.in_default.not-Some c.requires.may.1

pub apply-requires : goal.apply-requires
apply-requires g c =
    let b = c.args.book.now in
    let batch = batch_is b.plan (past b.lines) c.args.node c.args.batch.now c.in-Some.announced c.requires.batch (sym c.take.ensures.value ∙ c.in-Some.is) in
    let room = room_for b.plan (past b.lines) c.args.node c.is_run.ensures.sound c.is_run.ensures.run c.requires.node in
    omega (arith, room, ap (length {A = Op}) batch, ap (length {A = Op}) c.requires.tables, c.announced-at.ensures, c.announced-at.type_inv)

pub end-requires-clause-seat : goal.end-requires-clause-seat
end-requires-clause-seat g c = let b = c.args.book.now in seat_is b.threads b.plan.settings (installer_of c.args.node) c.requires.next.threads

pub returns : goal.returns
returns g c =
    let b = c.args.book.now in
    let new = c.end.new.book in
    let node = c.args.node in
    let line : new ≡ with_line b 0 (Installed node (announced_of b.plan (now b) node)) = c.end.ensures ∙ ap (λ n. with_line b 0 (Installed node n)) c.announced-at.ensures in
    let batch = batch_is b.plan (past b.lines) node c.args.batch.now c.in-Some.announced c.requires.batch (sym c.take.ensures.value ∙ c.in-Some.is) in
    let k = installed_ops b.plan (past b.lines) node in
    let ops = c.in_ok-apply.ensures.ok ∙ (ap (λ xs. xs ++ c.in-Some.announced) c.requires.tables ∙ ap (λ xs. k ++ xs) batch) in
    record {
      adds = install_adds b new node c.is_run.ensures.sound c.is_run-2.ensures.run c.requires.node line;
      tables = install_ops b new node c.is_run.ensures.sound c.is_run-2.ensures.run c.requires.node line _ ops;
      batch = subst (IsBatch new.plan (past new.lines) node) (sym c.take.ensures.after) (install_batch b new node c.is_run.ensures.sound c.is_run-2.ensures.run c.requires.node line);
      origin = c.in_ok-apply.ensures.origin;
    }
