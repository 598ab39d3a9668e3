use Rattle.std.specs.Prelude.{slice_get}
use Rattle.std.proofs.Common.{◌∙◌, refl, sym, subst}
use Rattle.and_events.specs.declared.plan.Plan.{Plan}
use Rattle.and_events.specs.Complete.{IsComplete}
use Rattle.and_events.specs.Run.{past}
use Rattle.and_events.specs.Sound.{IsSound}
use Rattle.and_book.specs.Views.{now}
use Rattle.and_replay.specs.Parting.{AreFresh}
use Rattle.and_replay.proofs.Beginning.{parts_begin}
use Rattle.and_replay.proofs.Turning.{begins, ended, due_within, none_due}
use Rattle.and_replay.proofs.run.run.Goals as goal

pub turns-init : goal.turns-init
turns-init g c =
    let b = c.in_ok-book.book in
    let e = c.in_ok-book.ensures in
    record {
      way = begins b c.in_ok-parts.parts (subst IsSound (sym e.plan) c.requires.sound) e.threads e.lines
          (parts_begin b.plan c.in_ok-parts.parts (subst (λ (p : Plan). AreFresh p.settings c.in_ok-parts.parts) (sym e.plan) c.in_ok-parts.ensures));
      plan = e.plan;
    }

pub turn-requires-clause-due : goal.turn-requires-clause-due
turn-requires-clause-due g c =
    let b = c.turns.book in
    due_within b.plan (now b).next (slice_get b.plan.steps (now b).next) refl (sym c.is_due.ensures ∙ c.turns-test.true)

pub returns-clause-complete : goal.returns-clause-complete
returns-clause-complete g c =
    let b = c.turns.book in
    subst (λ p. IsComplete p (past b.lines)) c.turns.invariant.plan
    (ended b c.turns.parts c.is_run.ensures.run c.turns.invariant.way (none_due b.plan (now b).next (slice_get b.plan.steps (now b).next) refl (sym c.is_due.ensures ∙ c.turns-test.false)))
