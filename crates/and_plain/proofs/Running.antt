-- A run, one event further; and its first event that is not legal.
use Rattle.std.specs.Prelude.{◌↔◌, IsTrue}
use Rattle.std.proofs.Common.{◌≡◌, ℕ, ◌+◌, ◌<◌, true, false, List, ◌∷◌, length, get_or, take, refl, sym, ap, subst, ◌∙◌, add-one}
use Rattle.std.proofs.lemmas.Option.{slice_get-get_or}
use Rattle.and_events.specs.declared.event.Event.{Event}
use Rattle.and_events.specs.declared.plan.Plan.{Plan}
use Rattle.and_events.specs.Legal.{Legal}
use Rattle.and_events.specs.Run.{Run}
use Rattle.and_events.specs.State.{State, state, after}
use Rattle.and_plain.specs.History.{history, IsFirstIllegal}
use Rattle.and_plain.proofs.Past.{history_next}

pub illegal_at : (plan : Plan) (events : List Event) (n : ℕ) (d : Event) (s : State) → n < length events
    → s ≡ state plan (history (take n events)) → Run plan (history (take n events))
    → (IsTrue false ↔ Legal plan s (get_or events n d)) → IsFirstIllegal plan events n
illegal_at plan events n d s less is run e = record {
  event = get_or events n d;
  there = slice_get-get_or events n d less;
  before = run;
  illegal = λ (legal : Legal plan (state plan (history (take n events))) (get_or events n d)).
      let here : Legal plan s (get_or events n d) = subst (λ (x : State). Legal plan x (get_or events n d)) (sym is) legal in
      let wrong : false ≡ true = e.1 here in
      cc;
}

-- the history after one event more
pub history_more : (events : List Event) (n : ℕ) (d : Event) → n < length events
    → history (take (n + 1) events) ≡ get_or events n d ∷ history (take n events)
history_more events n d less = history_next events n (n + 1) (get_or events n d) d (add-one n) less refl

pub state_more : (plan : Plan) (events : List Event) (n : ℕ) (d : Event) (s t : State) → n < length events
    → s ≡ state plan (history (take n events)) → t ≡ after plan s (get_or events n d) → t ≡ state plan (history (take (n + 1) events))
unfolding state
state_more plan events n d s t less is next =
    next ∙ (ap (λ (x : State). after plan x (get_or events n d)) is ∙ ap (λ (h : List Event). state plan h) (sym (history_more events n d less)))

pub run_more : (plan : Plan) (events : List Event) (n : ℕ) (d : Event) (s : State) → n < length events
    → s ≡ state plan (history (take n events)) → Run plan (history (take n events)) → (IsTrue true ↔ Legal plan s (get_or events n d))
    → Run plan (history (take (n + 1) events))
unfolding Run
run_more plan events n d s less is run e =
    subst (λ (h : List Event). Run plan h) (sym (history_more events n d less))
    (run, subst (λ (x : State). Legal plan x (get_or events n d)) is (e.0 refl))
