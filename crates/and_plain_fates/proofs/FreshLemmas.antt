-- Fresh decisions, one event further.
use Rattle.std.specs.Prelude.{◌↔◌, IsTrue, IfOk, Option, Some, Result}
use Rattle.std.proofs.Common.{◌≡◌, ℕ, ◌+◌, ◌<◌, ◌≤◌, Bool, List, ◌∷◌, length, get_or, take, refl, sym, ap, subst, ◌∙◌}
use Rattle.std.specs.Prelude.{◌==◌}
use Rattle.and_events.specs.declared.event.Actor.{Actor}
use Rattle.and_events.specs.declared.event.Event.{Event}
use Rattle.and_events.specs.declared.event.Event.TheVariants.{Take}
use Rattle.and_events.specs.declared.plan.Plan.{Plan}
use Rattle.and_events.specs.Fresh.{Fresh, FreshAt, FreshBy, Decided, installed_at_take, decision_of}
use Rattle.and_events.specs.Places.{node_of}
use Rattle.and_events.specs.State.{State, state, announced_of}
use Rattle.and_plain.specs.History.{history}
use Rattle.and_plain.proofs.Deciding.{both_are}
use Rattle.and_plain.proofs.Running.{history_more}
use Rattle.and_plain_fates.specs.Takes.{take_by}

taken_next : (plan : Plan) (h : List Event) (a : Actor) (i : ℕ) (e : Event)
    → take_by plan (state plan h) a i (installed_at_take plan h a i) e ≡ installed_at_take plan (e ∷ h) a i
unfolding installed_at_take
taken_next plan h a i (Take b q j) = refl
taken_next plan h a i _ = refl

pub taken_more : (plan : Plan) (events : List Event) (n : ℕ) (d : Event) (s : State) (a : Actor) (i : ℕ) (was now : Option ℕ) → n < length events
    → s ≡ state plan (history (take n events)) → was ≡ installed_at_take plan (history (take n events)) a i
    → now ≡ take_by plan s a i was (get_or events n d) → now ≡ installed_at_take plan (history (take (n + 1) events)) a i
taken_more plan events n d s a i was now less is before after =
    after
    ∙ (ap (λ (t : State). take_by plan t a i was (get_or events n d)) is
    ∙ (ap (λ (m : Option ℕ). take_by plan (state plan (history (take n events))) a i m (get_or events n d)) before
    ∙ (taken_next plan (history (take n events)) a i (get_or events n d)
    ∙ ap (λ (h : List Event). installed_at_take plan h a i) (sym (history_more events n d less)))))

-- a decision's number is no older than what was installed then
abbrev pub IsSince : Option ℕ → ℕ → Type 0
IsSince taken at = (need : ℕ) × (taken ≡ Some need) × (need ≤ at)

pub fresh_of : (plan : Plan) (h : List Event) (s : State) (a : Actor) (i : ℕ) (taken : Option ℕ) (at : ℕ) (r y z : Bool) → s ≡ state plan h
    → taken ≡ installed_at_take plan h a i → (IsTrue r ↔ (IsTrue y × IsTrue z))
    → (IsTrue y ↔ IsSince taken at) → (IsTrue z ↔ (at ≤ announced_of plan s (node_of a)))
    → (IsTrue r ↔ FreshAt plan h a i at)
fresh_of plan h s a i taken at r y z is found er ey ez =
    let within : IsTrue r ↔ (IsSince taken at × (at ≤ announced_of plan s (node_of a))) = both_are r y z er ey ez in (
      (λ t. let now = within.0 t in
          (subst (λ (m : Option ℕ). IsSince m at) found now.0, subst (λ (u : State). at ≤ announced_of plan u (node_of a)) is now.1)),
      (λ fresh.
          within.1 (subst (λ (m : Option ℕ). IsSince m at) (sym found) fresh.0, subst (λ (u : State). at ≤ announced_of plan u (node_of a)) (sym is) fresh.1)),
    )

-- a test of a decision decides for the event that makes it
pub fresh_by : {E : Type 0} (plan : Plan) (h : List Event) (i : ℕ) (e : Event) (r : Result Bool E) (d : Decided) → decision_of e ≡ Some d
    → IfOk r (λ yes. IsTrue yes ↔ (IsTrue (d.packet == i) → FreshAt plan h d.actor i d.at))
    → IfOk r (λ yes. IsTrue yes ↔ FreshBy plan h i (decision_of e))
fresh_by plan h i e r d is ok = subst (λ (o : Option Decided). IfOk r (λ yes. IsTrue yes ↔ FreshBy plan h i o)) (sym is) ok

fresh_next : (plan : Plan) (h : List Event) (e : Event) (i : ℕ) (r g x : Bool) → (IsTrue r ↔ (IsTrue g × IsTrue x)) → (IsTrue g ↔ Fresh plan h i)
    → (IsTrue x ↔ FreshBy plan h i (decision_of e)) → (IsTrue r ↔ Fresh plan (e ∷ h) i)
unfolding Fresh
fresh_next plan h e i r g x er eg ex = both_are r g x er eg ex

pub fresh_more : (plan : Plan) (events : List Event) (n : ℕ) (d : Event) (i : ℕ) (r g x : Bool) → n < length events
    → (IsTrue r ↔ (IsTrue g × IsTrue x)) → (IsTrue g ↔ Fresh plan (history (take n events)) i)
    → (IsTrue x ↔ FreshBy plan (history (take n events)) i (decision_of (get_or events n d)))
    → (IsTrue r ↔ Fresh plan (history (take (n + 1) events)) i)
fresh_more plan events n d i r g x less er eg ex =
    subst (λ (h : List Event). IsTrue r ↔ Fresh plan h i) (sym (history_more events n d less))
    (fresh_next plan (history (take n events)) (get_or events n d) i r g x er eg ex)
