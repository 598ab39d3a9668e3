-- The network in which a packet arrives.
use Rattle.std.specs.Prelude.{◌↔◌}
use Rattle.std.proofs.Common.{◌≡◌, ℕ, List, [], ◌∷◌, Option, Some, ⊎_elim, inl, inr, refl, sym, ap, subst, ◌∙◌}
use Rattle.and_policy.specs.declared.entry.Entry.{Entry}
use Rattle.and_policy.specs.declared.decision.Dest.TheVariants.{Offload, Hover}
use Rattle.and_events.specs.declared.event.Departure.{Departure}
use Rattle.and_events.specs.declared.event.Departure.TheVariants.{Allowed}
use Rattle.and_events.specs.declared.event.Passage.{Passage}
use Rattle.and_events.specs.declared.event.Passage.TheVariants as passages
use Rattle.and_events.specs.declared.event.Event.{Event}
use Rattle.and_events.specs.declared.plan.Plan.{Plan}
use Rattle.and_events.specs.Just.{Left, Led, LedTo, egresses, passages_of}
use Rattle.and_plain_fates.specs.Behind.{LedOnce}

abbrev left_as : List Entry → Departure → Left
left_as k d = record { behind = k; said = d }

abbrev led_as : List Entry → Passage → Led
led_as k p = record { behind = k; said = p }

to_led : (plan : Plan) (h : List Event) (i net : ℕ) → LedOnce plan i (egresses plan h i) (passages_of plan h i) net → LedTo plan h i net
to_led plan h i net one = ⊎_elim
    (λ off. inl (record {
      host = off.0;
      by = off.2.0;
      left = record {
        behind = one.0.behind;
        by = off.1.0;
        sealed = off.1.1;
        end = off.1.2;
        once = one.1 ∙ ap (λ (d : Departure). left_as one.0.behind d ∷ []) off.1.3;
        allows = off.1.4;
      };
      routes = off.2.1;
    }))
    (λ way. inr (record {
      gateway = way.0.0;
      left = record {
        behind = one.0.behind;
        by = way.0.1.0;
        sealed = way.0.1.1;
        end = way.0.1.2;
        once = one.1 ∙ ap (λ (d : Departure). left_as one.0.behind d ∷ []) way.0.1.3;
        allows = way.0.1.4;
      };
      behind = way.1.0.behind;
      by = way.1.2.0;
      host = way.1.2.1;
      end = way.1.2.2;
      once = way.1.1 ∙ ap (λ (p : Passage). led_as way.1.0.behind p ∷ []) way.1.2.3;
      routes = way.1.2.4;
    }))
    one.2

from_led : (plan : Plan) (h : List Event) (i net : ℕ) → LedTo plan h i net → LedOnce plan i (egresses plan h i) (passages_of plan h i) net
from_led plan h i net led = ⊎_elim
    (λ off. (
      left_as off.left.behind (Allowed off.left.by off.left.sealed (Offload off.host net) off.left.end),
      off.left.once,
      inl (off.host, (off.left.by, off.left.sealed, off.left.end, refl, off.left.allows), (off.by, off.routes)),
    ))
    (λ way. (
      left_as way.left.behind (Allowed way.left.by way.left.sealed (Hover way.gateway) way.left.end),
      way.left.once,
      inr (
        (way.gateway, (way.left.by, way.left.sealed, way.left.end, refl, way.left.allows)),
        (led_as way.behind (passages.Send way.by net way.host way.end), way.once, (way.by, way.host, way.end, refl, way.routes)),
      ),
    ))
    led

pub led_is : (plan : Plan) (h : List Event) (i : ℕ) (lefts : List Left) (leds : List Led) (r : Option ℕ) → lefts ≡ egresses plan h i
    → leds ≡ passages_of plan h i → ((net : ℕ) → (r ≡ Some net) ↔ LedOnce plan i lefts leds net)
    → (net : ℕ) → (r ≡ Some net) ↔ LedTo plan h i net
led_is plan h i lefts leds r left led all net = (
  (λ t. to_led plan h i net (subst (λ (ys : List Led). LedOnce plan i (egresses plan h i) ys net) led
      (subst (λ (xs : List Left). LedOnce plan i xs leds net) left ((all net).0 t)))),
  (λ is. (all net).1 (subst (λ (xs : List Left). LedOnce plan i xs leds net) (sym left)
      (subst (λ (ys : List Led). LedOnce plan i (egresses plan h i) ys net) (sym led) (from_led plan h i net is)))),
)
