-- None is busy exactly where all hands are empty.
use Rattle.std.proofs.Common.{◌≡◌, ℕ, ◌↔◌, false, IsTrue, List, refl, sym, ◌∙◌, subst, Option, Some, None}
use Rattle.std.specs.Prelude.{nat_eq, is_some}
use Rattle.std.specs.List.{All, count_by}
use Rattle.std.proofs.lemmas.Bool.{eqb-true, eq-eqb}
use Rattle.std.proofs.lemmas.List.Elements.{All-weaker}
use Rattle.and_events.specs.declared.event.Held.{Held}
use Rattle.and_kept.proofs.Counts.{count_none, none_counted}

is_none : (h : Option Held) → is_some h ≡ false → h ≡ None
is_none None e = refl
is_none (Some h) e = cc

none_is : (h : Option Held) → h ≡ None → is_some h ≡ false
none_is None e = refl
none_is (Some h) e = cc

pub empty_hands : (hs view : List (Option Held)) (busy : ℕ) → hs ≡ view → busy ≡ count_by is_some hs → IsTrue (nat_eq busy 0) ↔ All (λ h. h ≡ None) view
empty_hands hs view busy same counted =
    subst (λ v. IsTrue (nat_eq busy 0) ↔ All (λ h. h ≡ None) v) same (
      (λ t. All-weaker (λ h. is_some h ≡ false) (λ h. h ≡ None) is_none hs (count_none is_some hs (sym counted ∙ eqb-true busy 0 t))),
      (λ all. eq-eqb busy 0 (counted ∙ none_counted is_some hs (All-weaker (λ h. h ≡ None) (λ h. is_some h ≡ false) none_is hs all))),
    )
