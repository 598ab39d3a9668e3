-- The plain order, one event further.
use Rattle.std.specs.Prelude.{◌↔◌, IsTrue}
use Rattle.std.proofs.Common.{◌≡◌, ℕ, ◌+◌, ◌<◌, Bool, List, ◌∷◌, length, get_or, take, sym, subst}
use Rattle.and_events.specs.declared.event.Event.{Event}
use Rattle.and_events.specs.declared.plan.Plan.{Plan}
use Rattle.and_events.specs.Fresh.{decision_of}
use Rattle.and_events.specs.Legal.{Enabled}
use Rattle.and_events.specs.Ordered.{IsInPlainOrder, IsFirst, IsAtInstalled}
use Rattle.and_events.specs.Places.{actor_of}
use Rattle.and_events.specs.State.{State, state}
use Rattle.and_plain.specs.History.{history}
use Rattle.and_plain.proofs.Running.{history_more}

abbrev pub IsDue : Plan → State → Event → Type 0
IsDue plan s e = Enabled plan s (actor_of e) × IsFirst plan s (actor_of e) × IsAtInstalled plan s (decision_of e)

pub three_are : {A B C : Type 0} (r a b c : Bool) → (IsTrue r ↔ (IsTrue a × IsTrue b × IsTrue c)) → (IsTrue a ↔ A) → (IsTrue b ↔ B) → (IsTrue c ↔ C)
    → (IsTrue r ↔ (A × B × C))
three_are r a b c e ea eb ec =
    ((λ t. (ea.0 (e.0 t).0, eb.0 (e.0 t).1, ec.0 (e.0 t).2)), (λ all. e.1 (ea.1 all.0, eb.1 all.1, ec.1 all.2)))

ordered_next : (plan : Plan) (h : List Event) (e : Event) (r g x : Bool) → (IsTrue r ↔ (IsTrue g × IsTrue x)) → (IsTrue g ↔ IsInPlainOrder plan h)
    → (IsTrue x ↔ IsDue plan (state plan h) e) → (IsTrue r ↔ IsInPlainOrder plan (e ∷ h))
unfolding IsInPlainOrder
ordered_next plan h e r g x er eg ex = (
  (λ t. (eg.0 (er.0 t).0, (ex.0 (er.0 t).1).0, (ex.0 (er.0 t).1).1, (ex.0 (er.0 t).1).2)),
  (λ all. er.1 (eg.1 all.0, ex.1 (all.1, all.2, all.3))),
)

pub ordered_more : (plan : Plan) (events : List Event) (n : ℕ) (d : Event) (s : State) (r g x : Bool) → n < length events
    → s ≡ state plan (history (take n events)) → (IsTrue r ↔ (IsTrue g × IsTrue x)) → (IsTrue g ↔ IsInPlainOrder plan (history (take n events)))
    → (IsTrue x ↔ IsDue plan s (get_or events n d)) → (IsTrue r ↔ IsInPlainOrder plan (history (take (n + 1) events)))
ordered_more plan events n d s r g x less is er eg ex =
    subst (λ (h : List Event). IsTrue r ↔ IsInPlainOrder plan h) (sym (history_more events n d less))
    (ordered_next plan (history (take n events)) (get_or events n d) r g x er eg
    (subst (λ (t : State). IsTrue x ↔ IsDue plan t (get_or events n d)) is ex))
