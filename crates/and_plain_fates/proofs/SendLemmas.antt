-- A packet's sends, one event further.
use Rattle.std.proofs.Common.{◌≡◌, ℕ, ◌+◌, ◌<◌, Bool, cond, List, ◌∷◌, length, get_or, take, sym, ap, ◌∙◌}
use Rattle.and_events.specs.declared.event.Event.{Event}
use Rattle.and_events.specs.declared.plan.Plan.{Plan}
use Rattle.and_events.specs.Run as spec
use Rattle.and_events.specs.Run.{sends}
use Rattle.and_events.specs.State.{State, state, move_of}
use Rattle.and_plain.specs.History.{history}
use Rattle.and_plain.proofs.Running.{history_more}

sends_next : (plan : Plan) (h : List Event) (e : Event) (i count next one : ℕ) (is : Bool) → count ≡ sends plan h i
    → is ≡ spec.is_send i (move_of plan (state plan h) e) → one ≡ cond is 1 0 → next ≡ one + count → next ≡ sends plan (e ∷ h) i
unfolding sends
sends_next plan h e i count next one is was sent single sum =
    sum ∙ (ap (λ m. m + count) (single ∙ ap (λ (b : Bool). cond b 1 0) sent) ∙ ap (λ m. cond (spec.is_send i (move_of plan (state plan h) e)) 1 0 + m) was)

pub sends_more : (plan : Plan) (events : List Event) (n : ℕ) (d : Event) (i count next one : ℕ) (is : Bool) → n < length events
    → count ≡ sends plan (history (take n events)) i
    → ((plan : Plan) (s : State) → is ≡ spec.is_send i (move_of plan s (get_or events n d))) → one ≡ cond is 1 0 → next ≡ one + count
    → next ≡ sends plan (history (take (n + 1) events)) i
sends_more plan events n d i count next one is less was sent single sum =
    sends_next plan (history (take n events)) (get_or events n d) i count next one is was (sent plan (state plan (history (take n events)))) single sum
    ∙ ap (λ (h : List Event). sends plan h i) (sym (history_more events n d less))
