-- A packet's fates, one event further.
use Rattle.std.proofs.Common.{◌≡◌, ℕ, ◌+◌, ◌<◌, true, false, List, [], ◌∷◌, ◌++◌, length, get_or, take, refl, sym, ap, ◌∙◌, append_assoc, append-nil}
use Rattle.and_events.specs.declared.event.Event.{Event}
use Rattle.and_events.specs.Run.{fates, is_it, fate_of}
use Rattle.and_plain.specs.History.{history}
use Rattle.and_plain.proofs.Running.{history_more}

pub fates_with : (e : Event) (h : List Event) (i : ℕ) → is_it i (fate_of e) ≡ true → fates (e ∷ h) i ≡ e ∷ fates h i
unfolding fates
fates_with e h i is = rw is refl

pub fates_without : (e : Event) (h : List Event) (i : ℕ) → is_it i (fate_of e) ≡ false → fates (e ∷ h) i ≡ fates h i
unfolding fates
fates_without e h i is = rw is refl

-- those of the first events, where the last of these is a fate; where it is none
pub taken_with : (events : List Event) (n m i : ℕ) (d : Event) (xs all : List Event) → m ≡ n + 1 → n < length events
    → is_it i (fate_of (get_or events n d)) ≡ true → xs ++ fates (history (take m events)) i ≡ all
    → (xs ++ get_or events n d ∷ []) ++ fates (history (take n events)) i ≡ all
taken_with events n m i d xs all next less is so =
    append_assoc xs (get_or events n d ∷ []) (fates (history (take n events)) i)
    ∙ (ap (λ ys. xs ++ ys) (sym (fates_with (get_or events n d) (history (take n events)) i is))
    ∙ (ap (λ (h : List Event). xs ++ fates h i) (sym (history_more events n d less))
    ∙ (ap (λ k. xs ++ fates (history (take k events)) i) (sym next) ∙ so)))

pub taken_without : (events : List Event) (n m i : ℕ) (d : Event) (xs all : List Event) → m ≡ n + 1 → n < length events
    → is_it i (fate_of (get_or events n d)) ≡ false → xs ++ fates (history (take m events)) i ≡ all
    → xs ++ fates (history (take n events)) i ≡ all
taken_without events n m i d xs all next less is so =
    ap (λ ys. xs ++ ys) (sym (fates_without (get_or events n d) (history (take n events)) i is))
    ∙ (ap (λ (h : List Event). xs ++ fates h i) (sym (history_more events n d less))
    ∙ (ap (λ k. xs ++ fates (history (take k events)) i) (sym next) ∙ so))

pub taken_all : (events : List Event) (n i : ℕ) (xs all : List Event) → n ≡ 0 → xs ++ fates (history (take n events)) i ≡ all → xs ≡ all
unfolding fates
taken_all events n i xs all none so = sym (append-nil xs) ∙ (ap (λ k. xs ++ fates (history (take k events)) i) (sym none) ∙ so)
