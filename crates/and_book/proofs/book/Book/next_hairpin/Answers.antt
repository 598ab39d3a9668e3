use Rattle.std.proofs.Common.{ℕ, subst}
use Rattle.std.specs.Prelude.{IfSome, IfNone}
use Rattle.and_events.specs.declared.plan.Plan.{Plan}
use Rattle.and_events.specs.Legal.{CanUnpin, IsRipe}
use Rattle.and_events.specs.Run.{past}
use Rattle.and_events.specs.State.{State, state}
use Rattle.and_book.specs.Inside.{Kept, kept_of}
use Rattle.and_book.specs.Views.{BookView, now}
use Rattle.and_book.proofs.Ripe.{are_kept, next_some, next_none}
use Rattle.and_book.proofs.book.Book.next_hairpin.Goals as goal

pub returns-clause-some : goal.returns-clause-some
returns-clause-some c =
    let x = c.self.inside in
    let plan : Plan = x.plan in
    let k : Kept = kept_of x in
    let s : State = state plan (past x.lines.items) in
    let are = are_kept plan x.threads x.lines.items k _ c.least.result c.self.invariant.keeps c.least.ensures.is c.least.ensures.least in
    subst (λ (b : BookView). IfSome c.first.result (λ p. CanUnpin b.plan (now b) p.0 p.1)) c.self.view_is
    (next_some plan s k.pins.pins k.pins.least c.first.result are c.first.ensures.some)

pub returns-clause-none : goal.returns-clause-none
returns-clause-none c =
    let x = c.self.inside in
    let plan : Plan = x.plan in
    let k : Kept = kept_of x in
    let s : State = state plan (past x.lines.items) in
    let are = are_kept plan x.threads x.lines.items k _ c.least.result c.self.invariant.keeps c.least.ensures.is c.least.ensures.least in
    subst (λ (b : BookView). IfNone c.first.result ((host vm : ℕ) → IsRipe b.plan (now b) host vm → ⊥)) c.self.view_is
    (next_none plan s k.pins.pins k.pins.least c.first.result are c.first.ensures.none)
