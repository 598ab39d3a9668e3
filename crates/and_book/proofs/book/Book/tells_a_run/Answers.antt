use Rattle.std.proofs.Common.{subst, ◌≡◌}
use Rattle.std.specs.List.{All}
use Rattle.and_events.specs.declared.event.Line.{Line}
use Rattle.and_events.specs.Places.{actor_of, seat_of}
use Rattle.and_events.specs.Run.{Run, past}
use Rattle.and_laws.specs.Fates.{HasOneFateOrPlace}
use Rattle.and_laws.proofs.Injected.{one_together}
use Rattle.and_book.specs.Tales.{newest_first, KeepSeats}
use Rattle.and_book.specs.Views.{BookView}
use Rattle.and_book.proofs.Telling.{tells}
use Rattle.and_book.proofs.book.Book.tells_a_run.Goals as goal

pub returns-clause-run : goal.returns-clause-run
returns-clause-run c = subst (λ (b : BookView). Run b.plan (past b.lines)) c.self.view_is c.self.invariant.keeps.run

pub returns-clause-seats : goal.returns-clause-seats
returns-clause-seats c =
    subst (λ (b : BookView). All (λ (l : Line). l.seat ≡ seat_of b.threads b.plan.settings (actor_of l.event)) b.lines) c.self.view_is c.self.invariant.keeps.seats

pub returns-clause-fates : goal.returns-clause-fates
returns-clause-fates c =
    let x = c.self.inside in
    subst (λ (b : BookView). HasOneFateOrPlace b.plan (past b.lines)) c.self.view_is
    (one_together x.plan (past x.lines.items) c.self.invariant.keeps.sound c.self.invariant.keeps.run)

pub returns-clause-keeps : goal.returns-clause-keeps
returns-clause-keeps c =
    let x = c.self.inside in
    subst (λ (b : BookView). KeepSeats b.plan.settings (newest_first b.lines)) c.self.view_is
    (tells x.plan x.threads x.lines.items c.self.invariant.keeps.run c.self.invariant.keeps.seats)
