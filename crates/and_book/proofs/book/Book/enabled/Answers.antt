use Rattle.std.proofs.Common.{sym, subst}
use Rattle.std.specs.Prelude.{◌≡◌, ◌↔◌, slice_get, IsTrue}
use Rattle.and_events.specs.declared.plan.Plan.{Plan}
use Rattle.and_events.specs.Legal.{Enabled}
use Rattle.and_events.specs.Run.{past}
use Rattle.and_book.specs.Views.{BookView, now}
use Rattle.and_book.specs.Inside.{Kept, kept_of}
use Rattle.and_book.specs.Enabling.{IsThere}
use Rattle.and_book.proofs.More.{seen}
use Rattle.and_book.proofs.Due.{enabled_by, due_is_there}
use Rattle.and_book.proofs.book.Book.enabled.Goals as goal

pub can_act-requires-clause-there : goal.can_act-requires-clause-there
can_act-requires-clause-there c =
    let x = c.self.inside in
    let plan : Plan = x.plan in
    let inv = c.self.invariant.keeps in
    let due = seen x c.args.self.now c.self.view_is (λ (b : BookView). c.next_step.result ≡ slice_get b.plan.steps (now b).next) c.next_step.ensures in
    subst (λ v. IsThere v plan.packets c.next_step.result) (sym inv.sized.settings)
    (subst (IsThere plan.settings plan.packets) (sym due) (due_is_there plan (past x.lines.items) inv.sound inv.run))

pub returns : goal.returns
returns c =
    let x = c.self.inside in
    let plan : Plan = x.plan in
    let k : Kept = kept_of x in
    let inv = c.self.invariant.keeps in
    let due = seen x c.args.self.now c.self.view_is (λ (b : BookView). c.next_step.result ≡ slice_get b.plan.steps (now b).next) c.next_step.ensures in
    subst (λ (b : BookView). IsTrue c.can_act.result ↔ Enabled b.plan (now b) c.args.actor) c.self.view_is
    (enabled_by plan (past x.lines.items) inv.sound inv.run k inv.sized.settings inv.pins.standing c.next_step.result c.args.actor c.can_act.result inv.stands due c.can_act.ensures)
