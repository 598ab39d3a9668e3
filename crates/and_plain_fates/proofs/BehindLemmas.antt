-- The decisions about a packet, one event further.
use Rattle.std.proofs.Common.{◌≡◌, ℕ, ◌+◌, ◌<◌, List, ◌∷◌, length, get_or, take, refl, sym, ap, ◌∙◌}
use Rattle.and_events.specs.declared.event.Event.{Event}
use Rattle.and_events.specs.declared.event.Event.TheVariants.{Egress, Route}
use Rattle.and_events.specs.declared.plan.Plan.{Plan}
use Rattle.and_events.specs.Just.{Left, Led, egresses, passages_of}
use Rattle.and_events.specs.State.{State, state}
use Rattle.and_plain.specs.History.{history}
use Rattle.and_plain.proofs.Running.{history_more}
use Rattle.and_plain_fates.specs.Behind.{with_egress, with_route}

egresses_next : (plan : Plan) (h : List Event) (e : Event) (i : ℕ) → with_egress plan (state plan h) i (egresses plan h i) e ≡ egresses plan (e ∷ h) i
unfolding egresses
egresses_next plan h (Egress a j at way d) i = refl
egresses_next plan h _ i = refl

pub egresses_more : (plan : Plan) (events : List Event) (n : ℕ) (d : Event) (s : State) (i : ℕ) (found next : List Left) → n < length events
    → s ≡ state plan (history (take n events)) → found ≡ egresses plan (history (take n events)) i
    → next ≡ with_egress plan s i found (get_or events n d) → next ≡ egresses plan (history (take (n + 1) events)) i
egresses_more plan events n d s i found next less is was now =
    now
    ∙ (ap (λ (t : State). with_egress plan t i found (get_or events n d)) is
    ∙ (ap (λ (xs : List Left). with_egress plan (state plan (history (take n events))) i xs (get_or events n d)) was
    ∙ (egresses_next plan (history (take n events)) (get_or events n d) i
    ∙ ap (λ (h : List Event). egresses plan h i) (sym (history_more events n d less)))))

routes_next : (plan : Plan) (h : List Event) (e : Event) (i : ℕ) → with_route plan (state plan h) i (passages_of plan h i) e ≡ passages_of plan (e ∷ h) i
unfolding passages_of
routes_next plan h (Route a j at p) i = refl
routes_next plan h _ i = refl

pub routes_more : (plan : Plan) (events : List Event) (n : ℕ) (d : Event) (s : State) (i : ℕ) (found next : List Led) → n < length events
    → s ≡ state plan (history (take n events)) → found ≡ passages_of plan (history (take n events)) i
    → next ≡ with_route plan s i found (get_or events n d) → next ≡ passages_of plan (history (take (n + 1) events)) i
routes_more plan events n d s i found next less is was now =
    now
    ∙ (ap (λ (t : State). with_route plan t i found (get_or events n d)) is
    ∙ (ap (λ (xs : List Led). with_route plan (state plan (history (take n events))) i xs (get_or events n d)) was
    ∙ (routes_next plan (history (take n events)) (get_or events n d) i
    ∙ ap (λ (h : List Event). passages_of plan h i) (sym (history_more events n d less)))))
