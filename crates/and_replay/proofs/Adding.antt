-- The history and the state after one line more.
use Rattle.std.proofs.Common.{◌≡◌, ℕ, List, [], ◌∷◌, ◌++◌, ap, ◌∙◌, subst, sym}
use Rattle.std.proofs.lemmas.Grind.{fold-append}
use Rattle.and_events.specs.declared.event.Event.{Event}
use Rattle.and_events.specs.declared.event.Line.{Line}
use Rattle.and_events.specs.declared.plan.Plan.{Plan}
use Rattle.and_events.specs.Run.{past}
use Rattle.and_book.specs.Views.{BookView, with_line}

past_push : (lines : List Line) (l : Line) → past (lines ++ l ∷ []) ≡ l.event ∷ past lines
past_push lines l = fold-append (λ h x. x.event ∷ h) [] lines (l ∷ [])

module _ (old new : BookView) (seat : ℕ) (e : Event) (is : new ≡ with_line old seat e) where
  pub past_after : past new.lines ≡ e ∷ past old.lines
  past_after = ap (λ b. past b.lines) is ∙ past_push old.lines (record { seat = seat; event = e })

  pub plan_after : new.plan ≡ old.plan
  plan_after = ap (λ (b : BookView). b.plan) is

  -- what holds after the event holds of the new book, and the other way round
  pub carried_over : (P : Plan → List Event → Type 0) → P old.plan (e ∷ past old.lines) → P new.plan (past new.lines)
  carried_over P p = subst (λ q. P q (past new.lines)) (sym plan_after) (subst (P old.plan) (sym past_after) p)

  pub back : (P : Plan → List Event → Type 0) → P new.plan (past new.lines) → P old.plan (e ∷ past old.lines)
  back P p = subst (P old.plan) past_after (subst (λ q. P q (past new.lines)) plan_after p)
