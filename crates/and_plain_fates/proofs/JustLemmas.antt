-- Reasons, one event further.
use Rattle.std.specs.Prelude.{◌↔◌, IsTrue, IfOk}
use Rattle.std.proofs.Common.{◌≡◌, ℕ, ◌+◌, ◌<◌, Bool, List, ◌∷◌, length, get_or, take, Option, Some, Result, Ok, Err, sym, subst}
use Rattle.and_events.specs.declared.event.Event.{Event}
use Rattle.and_events.specs.declared.plan.Plan.{Plan}
use Rattle.and_events.specs.Just.{Just, JustBy}
use Rattle.and_events.specs.Run.{is_it, fate_of}
use Rattle.and_plain.specs.History.{history}
use Rattle.and_plain.proofs.Deciding.{both_are}
use Rattle.and_plain.proofs.Running.{history_more}

-- what a test decides whatever the way, it decides for this one
pub for_way : {W E : Type 0} (P : Bool → W → Type 0) (r : Result Bool E) (way : W) → IfOk r (λ yes. (w : W) → P yes w) → IfOk r (λ yes. P yes way)
for_way P (Ok b) way all = all way
for_way P (Err e) way all = tt

-- what holds of the network that is found holds of the one that is meant
pub found_is : (P Q : ℕ → Type 0) (r : Bool) (found : Option ℕ) → ((net : ℕ) → (found ≡ Some net) ↔ P net)
    → (IsTrue r ↔ ((net : ℕ) × (found ≡ Some net) × Q net)) → (IsTrue r ↔ ((net : ℕ) × P net × Q net))
found_is P Q r found is e = (
  (λ t. let x = e.0 t in (x.0, (is x.0).0 x.1, x.2)),
  (λ y. e.1 (y.0, (is y.0).1 y.1, y.2)),
)

pub found_at : (P : ℕ → Type 0) (Q : ℕ → ℕ → Type 0) (r : Bool) (found : Option ℕ) → ((net : ℕ) → (found ≡ Some net) ↔ P net)
    → (IsTrue r ↔ ((net host : ℕ) × (found ≡ Some net) × Q net host)) → (IsTrue r ↔ ((net host : ℕ) × P net × Q net host))
found_at P Q r found is e = (
  (λ t. let x = e.0 t in (x.0, x.1, (is x.0).0 x.2, x.3)),
  (λ y. e.1 (y.0, y.1, (is y.0).1 y.2, y.3)),
)

just_next : (plan : Plan) (h : List Event) (e : Event) (i : ℕ) (r g x : Bool) → (IsTrue r ↔ (IsTrue g × IsTrue x)) → (IsTrue g ↔ Just plan h i)
    → (IsTrue x ↔ (IsTrue (is_it i (fate_of e)) → JustBy plan h e)) → (IsTrue r ↔ Just plan (e ∷ h) i)
unfolding Just
just_next plan h e i r g x er eg ex = both_are r g x er eg ex

pub just_more : (plan : Plan) (events : List Event) (n : ℕ) (d : Event) (i : ℕ) (r g x : Bool) → n < length events
    → (IsTrue r ↔ (IsTrue g × IsTrue x)) → (IsTrue g ↔ Just plan (history (take n events)) i)
    → (IsTrue x ↔ (IsTrue (is_it i (fate_of (get_or events n d))) → JustBy plan (history (take n events)) (get_or events n d)))
    → (IsTrue r ↔ Just plan (history (take (n + 1) events)) i)
just_more plan events n d i r g x less er eg ex =
    subst (λ (h : List Event). IsTrue r ↔ Just plan h i) (sym (history_more events n d less))
    (just_next plan (history (take n events)) (get_or events n d) i r g x er eg ex)
