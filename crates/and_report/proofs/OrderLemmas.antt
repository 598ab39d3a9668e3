-- Offload orders of programmes: only a review gives them.
use Rattle.std.proofs.Common.{◌≡◌, ℕ, zero, suc, ◌+◌, Bool, true, false, ◌||◌, List, [], ◌∷◌, ◌++◌, map, length, replicate, slice_set, Option, Some, refl, ap, ap₂, sym, ◌∙◌, add-zero}
use Rattle.std.specs.Prelude.{slice_get}
use Rattle.std.specs.List.{count_by, list_any}
use Rattle.std.proofs.lemmas.List.{length-map, length-replicate, length-set}
use Rattle.std.proofs.lemmas.List.Sums.{sum_by-cons, sum_by_push}
use Rattle.and_policy.specs.declared.entry.Entry.{Entry}
use Rattle.and_policy.specs.declared.entry.Op.{Op}
use Rattle.and_policy.specs.declared.entry.Op.TheVariants as ops
use Rattle.and_events.specs.declared.event.Event.{Event}
use Rattle.and_events.specs.declared.event.Event.TheVariants.{Append, Review, Resume}
use Rattle.and_events.specs.declared.plan.Step.{Step}
use Rattle.and_events.specs.declared.plan.Step.TheVariants as steps
use Rattle.and_events.specs.declared.plan.Plan.{Plan}
use Rattle.and_events.specs.Places.{node_count}
use Rattle.and_events.specs.declared.event.Given.{Given}
use Rattle.and_events.specs.Programming.{Programmes, Word, Quiet, Logs, Orders, Announces, Installs, programmes_after, with_orders}
use Rattle.and_events.specs.State.{State, state, start, after, word_of, word_of_step}
use Rattle.and_report.specs.Tally.{is_order, orders_among}
use Rattle.and_report.specs.Orders.{is_review, gives_orders}

-- ---- as many programmes as nodes

length_orders : (programmes : List (List Op)) (os : List Given) → length (with_orders programmes os) ≡ length programmes
length_orders programmes [] = refl
length_orders programmes (g ∷ os) = length_orders (slice_set programmes g.host _) os ∙ length-set programmes g.host _

length_after : (p : Programmes) (w : Word) → length (programmes_after p w).ops ≡ length p.ops
unfolding programmes_after
length_after p Quiet = refl
length_after p (Logs e) = length-map p.ops _
length_after p (Orders os) = length_orders p.ops os
length_after p (Announces n upto) = refl
length_after p (Installs n upto) = refl

pub programmes_len : (plan : Plan) (h : List Event) → length (state plan h).programmes.ops ≡ node_count plan.settings
unfolding state start after
programmes_len plan [] = length-replicate (node_count plan.settings) []
programmes_len plan (e ∷ h) = length_after (state plan h).programmes (word_of plan (state plan h) e) ∙ programmes_len plan h

-- ---- no orders

word_gives : Word → Bool
word_gives (Orders os) = true
word_gives _ = false

step_gives : (plan : Plan) (s : State) (step : Option Step) → word_gives (word_of_step plan s step) ≡ is_review step
unfolding word_gives
step_gives plan s (Some steps.Review) = refl
step_gives plan s (Some (steps.Append e)) = refl
step_gives plan s (Some (steps.Resume vm)) = refl
step_gives plan s _ = refl

event_gives : (plan : Plan) (s : State) (e : Event) → word_gives (word_of plan s e) ≡ gives_orders plan e
unfolding word_gives word_of
event_gives plan s (Append n) = step_gives plan s (slice_get plan.steps n)
event_gives plan s (Review n) = step_gives plan s (slice_get plan.steps n)
event_gives plan s (Resume n) = step_gives plan s (slice_get plan.steps n)
event_gives plan s _ = refl

entry_gives : (programmes : List (List Op)) (e : Entry) → orders_among (map (λ programme. programme ++ ops.Entry e ∷ []) programmes) ≡ orders_among programmes
entry_gives [] e = refl
entry_gives (p ∷ programmes) e =
    let more : List Op → List Op = λ programme. programme ++ ops.Entry e ∷ [] in
    let here : count_by is_order (p ++ ops.Entry e ∷ []) ≡ count_by is_order p = sum_by_push _ p (ops.Entry e) ∙ add-zero (count_by is_order p) in
    sum_by-cons (count_by is_order) (more p) (map more programmes) ∙ ap₂ (λ a b. a + b) here (entry_gives programmes e) ∙ sym (sum_by-cons (count_by is_order) p programmes)

orders_after : (p : Programmes) (w : Word) → word_gives w ≡ false → orders_among (programmes_after p w).ops ≡ orders_among p.ops
unfolding word_gives programmes_after
orders_after p Quiet h = refl
orders_after p (Logs e) h = entry_gives p.ops e
orders_after p (Orders os) h = absurd (cc)
orders_after p (Announces n upto) h = refl
orders_after p (Installs n upto) h = refl

no_programmes : (n : ℕ) → orders_among (replicate n []) ≡ 0
no_programmes zero = refl
no_programmes (suc n) = sum_by-cons (count_by is_order) [] (replicate n []) ∙ ap (λ m. 0 + m) (no_programmes n)

both_false : (a b : Bool) → (a || b) ≡ false → (a ≡ false) × (b ≡ false)
both_false true b h = absurd (cc)
both_false false b h = (refl, h)

-- without a step that reviews the usage no programme has an order
pub no_orders : (plan : Plan) (h : List Event) → list_any (gives_orders plan) h ≡ false → orders_among (state plan h).programmes.ops ≡ 0
unfolding state start after
no_orders plan [] none = no_programmes (node_count plan.settings)
no_orders plan (e ∷ h) none =
    let (here, rest) = both_false (gives_orders plan e) (list_any (gives_orders plan) h) none in
    orders_after (state plan h).programmes (word_of plan (state plan h) e) (event_gives plan (state plan h) e ∙ here) ∙ no_orders plan h rest
