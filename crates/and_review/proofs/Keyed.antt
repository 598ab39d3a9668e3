-- The orders of a review, by the keys that have reached the threshold.
use Rattle.std.proofs.Common.{◌≡◌, List, [], ◌∷◌, Option, map, refl, ap}
use Rattle.std.specs.List.{cons_option, filter, filter_map}
use Rattle.std.specs.Prelude.{nat_le}
use Rattle.and_policy.specs.declared.entry.Entry.{Entry}
use Rattle.and_events.specs.declared.plan.Settings.{Settings}
use Rattle.and_events.specs.Usage.{Used, orders_of}
use Rattle.and_usage.specs.Counting.{keys_over}
use Rattle.and_review.specs.Orders.{order_for_key, orders_for}

filter_map-map : {A B C : Type 0} (f : B → Option C) (g : A → B) (xs : List A) → filter_map f (map g xs) ≡ filter_map (λ x. f (g x)) xs
filter_map-map f g [] = refl
filter_map-map f g (x ∷ xs) = ap (cons_option (f (g x))) (filter_map-map f g xs)

pub orders_for-keys_over : (s : Settings) (log : List Entry) (us : List Used) → orders_for s log (keys_over s.threshold us) ≡ orders_of s log us
orders_for-keys_over s log us = filter_map-map (order_for_key s log) (λ u. u.key) (filter (λ u. nat_le s.threshold u.bytes) us)
