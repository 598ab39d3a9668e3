use Rattle.std.proofs.Common.{◌≡◌, ◌<◌, ◌≤◌, ◌∙◌, length, ap, sym, add-one, arith}
use Rattle.std.proofs.lemmas.Option.{slice_get_within}
use Rattle.and_policy.specs.declared.entry.Op.{Op}
use Rattle.and_events.specs.Run.{past}
use Rattle.and_laws.proofs.Programmed.{programmed}
use Rattle.and_agree.proofs.Places.{told}
use Rattle.and_agree.proofs.comparing.compare.Goals as goal

pub first_difference-requires-clause-longer : goal.first_difference-requires-clause-longer
first_difference-requires-clause-longer g c =
    let b = c.args.book.now in
    omega (
      arith,
      c.if-announced-at.false,
      c.announced-announced.ensures,
      c.at.ensures,
      (programmed b.plan (past b.lines) c.is_run.ensures.run c.args.node c.requires.node).announced,
      ap (length {A = Op}) c.ops-ops.ensures,
      ap (length {A = Op}) c.programme-programme.ensures,
    )

pub bounds-ops-place : goal.bounds-ops-place
bounds-ops-place g c = slice_get_within c.ops-ops.result.now c.in-Some.place c.in-Some.ensures.some.0 c.in-Some.ensures.some.2.in_tables

pub bounds-programme-place : goal.bounds-programme-place
bounds-programme-place g c = slice_get_within c.programme-programme.result.now c.in-Some.place c.in-Some.ensures.some.1 c.in-Some.ensures.some.2.in_programme

pub overflow_add-result : goal.overflow_add-result
overflow_add-result g c =
    let within : c.in-Some.place < length c.ops-ops.result.now = slice_get_within c.ops-ops.result.now c.in-Some.place c.in-Some.ensures.some.0 c.in-Some.ensures.some.2.in_tables in
    omega (arith, within, c.at.ensures, c.at.type_inv, ap (length {A = Op}) c.ops-ops.ensures)

pub returns-in-Some : goal.returns-in-Some
returns-in-Some g c = (
  omega (arith, c.if-announced-at.false, c.announced-announced.ensures, c.at.ensures),
  (
    c.in-Some.place,
    add-one c.in-Some.place,
    told c.ops-ops.result.now c.programme-programme.result.now _ _ c.in-Some.place _ _ c.ops-ops.ensures c.programme-programme.ensures c.in-Some.ensures.some,
  ),
)
