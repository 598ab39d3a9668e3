-- The history of a list of events, one event further.
use Rattle.std.proofs.Common.{◌≡◌, ℕ, suc, zero, ◌<◌, List, [], ◌∷◌, length, get_or, take, sym, ap, ◌∙◌, arith}
use Rattle.std.specs.List.{fold}
use Rattle.and_events.specs.declared.event.Event.{Event}
use Rattle.and_plain.specs.History.{history}

abbrev pub history_from : List Event → List Event → List Event
history_from h events = fold (λ h e. e ∷ h) h events

history_end : (h : List Event) (events : List Event) (k : ℕ) (event d : Event) → k < length events → event ≡ get_or events k d
    → history_from h (take (suc k) events) ≡ event ∷ history_from h (take k events)
history_end h [] k event d less is = let never : ⊥ = omega arith in absurd never
history_end h (x ∷ xs) zero event d less is = ap (λ (e : Event). e ∷ h) (sym is)
history_end h (x ∷ xs) (suc k) event d less is = history_end (x ∷ h) xs k event d (omega arith) is

pub history_next : (events : List Event) (k n : ℕ) (event d : Event) → n ≡ suc k → k < length events → event ≡ get_or events k d
    → history (take n events) ≡ event ∷ history (take k events)
history_next events k n event d e less is = ap (λ m. history (take m events)) e ∙ history_end [] events k event d less is
