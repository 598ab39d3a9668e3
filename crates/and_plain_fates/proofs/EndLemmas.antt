-- The newest event of a history.
use Rattle.std.specs.Prelude.{◌↔◌, IsTrue}
use Rattle.std.proofs.Common.{◌≡◌, ℕ, suc, ◌-◌, ◌<◌, Bool, List, ◌∷◌, length, get_or, take, refl, sym, ap, ◌∙◌, arith}
use Rattle.std.proofs.Math.Seq.{take-length}
use Rattle.and_events.specs.declared.event.Event.{Event}
use Rattle.and_events.specs.declared.event.Event.TheVariants.{Finish}
use Rattle.and_plain.specs.History.{history}
use Rattle.and_plain.proofs.Past.{history_next}

newest : (events : List Event) (d : Event) → 0 < length events
    → history events ≡ get_or events (length events - 1) d ∷ history (take (length events - 1) events)
newest events d some =
    let next : length events ≡ suc (length events - 1) = omega arith in
    let less : length events - 1 < length events = omega arith in
    ap (λ (xs : List Event). history xs) (sym (take-length events))
    ∙ history_next events (length events - 1) (length events) (get_or events (length events - 1) d) d next less refl

pub ends_with : (events : List Event) (r : Bool) (d : Event) → 0 < length events
    → (IsTrue r ↔ ((n : ℕ) × (get_or events (length events - 1) d ≡ Finish n)))
    → (IsTrue r ↔ ((n : ℕ) × (earlier : List Event) × (history events ≡ Finish n ∷ earlier)))
ends_with events r d some e = (
  (λ t. (
    (e.0 t).0,
    history (take (length events - 1) events),
    newest events d some ∙ ap (λ (x : Event). x ∷ history (take (length events - 1) events)) (e.0 t).1,
  )),
  (λ found. let is : get_or events (length events - 1) d ∷ history (take (length events - 1) events) ≡ Finish found.0 ∷ found.1 = sym (newest events d some) ∙ found.2 in
      let same : get_or events (length events - 1) d ≡ Finish found.0 = cc in
      e.1 (found.0, same)),
)
