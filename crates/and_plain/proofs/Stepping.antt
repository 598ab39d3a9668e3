-- The step that is due, and what it says of an event.
use Rattle.std.specs.Prelude.{◌↔◌, IsTrue}
use Rattle.std.proofs.Common.{◌≡◌, ℕ, Bool, Option, Some, None, sym, subst, ◌∙◌}
use Rattle.std.specs.Prelude.{slice_get}
use Rattle.and_events.specs.declared.plan.Plan.{Plan}
use Rattle.and_events.specs.declared.plan.Step.{Step}
use Rattle.and_events.specs.State.{State}
use Rattle.and_events.specs.Legal.{CanStep, Steps}

-- the step is there, and may be done
pub step_due : (plan : Plan) (s : State) (n : ℕ) (step : Step) → slice_get plan.steps n ≡ Some step → n ≡ s.next → CanStep plan s step
    → (t : Step) → (Some step ≡ Some t) ↔ Steps plan s n t
step_due plan s n step there due can t =
    ((λ e. let same : step ≡ t = cc in (due, there ∙ e, subst (λ (u : Step). CanStep plan s u) same can)), (λ steps. sym there ∙ steps.1))

-- it is there, and may not be done
pub step_refused : (plan : Plan) (s : State) (n : ℕ) (step : Step) → slice_get plan.steps n ≡ Some step
    → (((n ≡ s.next) × CanStep plan s step) → ⊥) → (t : Step) → (None ≡ Some t) ↔ Steps plan s n t
step_refused plan s n step there refused t = (
  (λ (e : None ≡ Some t). let never : ⊥ = cc in absurd never),
  (λ (steps : Steps plan s n t).
      let is : Some step ≡ Some t = sym there ∙ steps.1 in
      let same : t ≡ step = cc in
      absurd (refused (steps.0, subst (λ (u : Step). CanStep plan s u) same steps.2))),
)

-- it is not there
pub step_missing : (plan : Plan) (s : State) (n : ℕ) → slice_get plan.steps n ≡ None → (t : Step) → (None ≡ Some t) ↔ Steps plan s n t
step_missing plan s n there t = (
  (λ (e : None ≡ Some t). let never : ⊥ = cc in absurd never),
  (λ (steps : Steps plan s n t). let is : None ≡ Some t = sym there ∙ steps.1 in let never : ⊥ = cc in absurd never),
)

-- a test of the step that was found, as a test of the step that is due
pub through : (plan : Plan) (s : State) (n : ℕ) (found : Option Step) (r : Bool) (t : Step) → (IsTrue r ↔ (found ≡ Some t))
    → ((u : Step) → (found ≡ Some u) ↔ Steps plan s n u) → (IsTrue r ↔ Steps plan s n t)
through plan s n found r t e each = ((λ (yes : IsTrue r). (each t).0 (e.0 yes)), (λ steps. e.1 ((each t).1 steps)))

pub through_some : {X : Type 0} (plan : Plan) (s : State) (n : ℕ) (found : Option Step) (r : Bool) (kind : X → Step)
    → (IsTrue r ↔ ((x : X) × (found ≡ Some (kind x)))) → ((u : Step) → (found ≡ Some u) ↔ Steps plan s n u)
    → (IsTrue r ↔ ((x : X) × Steps plan s n (kind x)))
through_some plan s n found r kind e each =
    ((λ (yes : IsTrue r). ((e.0 yes).0, (each (kind (e.0 yes).0)).0 (e.0 yes).1)), (λ due. e.1 (due.0, (each (kind due.0)).1 due.1)))

pub through_two : {X Y : Type 0} (plan : Plan) (s : State) (n : ℕ) (found : Option Step) (r : Bool) (kind : X → Y → Step)
    → (IsTrue r ↔ ((x : X) × (y : Y) × (found ≡ Some (kind x y)))) → ((u : Step) → (found ≡ Some u) ↔ Steps plan s n u)
    → (IsTrue r ↔ ((x : X) × (y : Y) × Steps plan s n (kind x y)))
through_two plan s n found r kind e each = (
  (λ (yes : IsTrue r). ((e.0 yes).0, (e.0 yes).1, (each (kind (e.0 yes).0 (e.0 yes).1)).0 (e.0 yes).2)),
  (λ due. e.1 (due.0, due.1, (each (kind due.0 due.1)).1 due.2)),
)
