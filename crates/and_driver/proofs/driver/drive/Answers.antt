use Rattle.std.proofs.Common.{◌≡◌, length, sym, ap, subst, arith, Some, IsOk}
use Rattle.std.specs.Prelude.{slice_get, slice_index_or}
use Rattle.and_policy.specs.Frames.{fields}
use Rattle.and_events.specs.declared.plan.Plan.{Plan}
use Rattle.and_events.specs.declared.plan.Step.TheVariants as steps
use Rattle.and_events.specs.Run.{past}
use Rattle.and_events.specs.State.{no_packet}
use Rattle.and_book.specs.Views.{now}
use Rattle.and_driver.proofs.Due.{can_come, can_hold, due_packet}
use Rattle.and_driver.proofs.driver.drive.Goals as goal

pub parcel_of-requires-clause-there : goal.parcel_of-requires-clause-there
parcel_of-requires-clause-there c =
    let b = c.args.book.now in
    let told : slice_get b.plan.steps (now b).next ≡ Some (steps.Inject c.in-Inject.packet) = c.in-Inject.ensures in
    omega (arith, (due_packet b.plan (past b.lines) c.in-Inject.packet c.is_run.ensures.sound told).within, ap (λ (p : Plan). length p.packets) c.plan.ensures)

pub parcel_of-requires-clause-read : goal.parcel_of-requires-clause-read
parcel_of-requires-clause-read c =
    let b = c.args.book.now in
    let told : slice_get b.plan.steps (now b).next ≡ Some (steps.Inject c.in-Inject.packet) = c.in-Inject.ensures in
    subst (λ (p : Plan). IsOk (fields (slice_index_or p.packets c.in-Inject.packet no_packet).taken.frame)) (sym c.plan.ensures)
    (due_packet b.plan (past b.lines) c.in-Inject.packet c.is_run.ensures.sound told).read

pub hold-requires-clause-ready : goal.hold-requires-clause-ready
hold-requires-clause-ready c = can_hold c.args.book.now.plan (now c.args.book.now) c.requires.enabled

pub blackout-requires-clause-ready : goal.blackout-requires-clause-ready
blackout-requires-clause-ready c = can_come c.args.book.now.plan (now c.args.book.now) c.requires.enabled
