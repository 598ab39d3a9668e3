-- The longest prefix, one length at a time.
use Rattle.std.proofs.Common.{◌≡◌, ℕ, ◌+◌, ◌<◌, ◌≤◌, ◌-◌, ◌/◌, ◌^◌, Bool, true, false, ◌&&◌, ◌||◌, List, [], ◌∷◌, Some, None, refl, ap, sym, ◌∙◌, arith, inl, inr}
use Rattle.std.specs.Prelude.{nat_lt, nat_le, ◌==◌}
use Rattle.std.specs.Option.{option_or}
use Rattle.std.specs.List.{filter, find}
use Rattle.std.proofs.lemmas.Bool.{and_parts, ltb-true, lt-ltb, le-ltb, le-leb, leb-true, eqb-true, eq-eqb, ne_eqb, cases_order, cases_Bool}
use Rattle.and_policy.specs.declared.entry.Route.{Route}
use Rattle.and_policy.specs.Matching.{least, holds}
use Rattle.and_policy.specs.Routes.{route_before, deciding_route}
use Rattle.and_policy.specs.Sorting.{sorted, smaller_route, Differ}
use Rattle.and_policy.proofs.Sorted.{first_is_least, route_order}
use Rattle.and_routes.specs.Buckets.{holds_at, holds_below, in_bucket, first_in, best_below}
use Rattle.and_routes.specs.Heads.{head}
use Rattle.and_routes.proofs.Splitting.{Precedes, split}

filter_alike : (f g : Route → Bool) (xs : List Route) → ((x : Route) → f x ≡ g x) → filter f xs ≡ filter g xs
filter_alike f g [] h = refl
filter_alike f g (x ∷ xs) h = rw (h x, filter_alike f g xs h) refl

at_length : (m n : ℕ) → nat_lt m (n + 1) ≡ ((m == n) || nat_lt m n)
at_length m n = elim (cases_order m n) as (λ _. nat_lt m (n + 1) ≡ ((m == n) || nat_lt m n)) [
  | inl e ↦ rw (lt-ltb m (n + 1) (omega arith), eq-eqb m n e) refl
  | inr o ↦ elim o as (λ _. nat_lt m (n + 1) ≡ ((m == n) || nat_lt m n)) [
    | inl l ↦ rw (lt-ltb m (n + 1) (omega arith), ne_eqb m n (λ e. omega arith), lt-ltb m n l) refl
    | inr l ↦ rw (le-ltb m (n + 1) (omega arith), ne_eqb m n (λ e. omega arith), le-ltb m n (omega arith)) refl
  ]
]

spread : (a b c : Bool) → ((a || b) && c) ≡ ((a && c) || (b && c))
spread true b true = refl
spread true true false = refl
spread true false false = refl
spread false b c = refl

longer_first : (a b : Route) → b.prefix.length < a.prefix.length → route_before a b ≡ true
longer_first a b h = rw (lt-ltb b.prefix.length a.prefix.length h) refl

shorter_last : (a b : Route) → b.prefix.length < a.prefix.length → route_before b a ≡ false
shorter_last a b h = rw (le-ltb a.prefix.length b.prefix.length (omega arith), ne_eqb b.prefix.length a.prefix.length (λ e. omega arith)) refl

same_length : (a b : Route) → a.prefix.length ≡ b.prefix.length → route_before a b ≡ smaller_route a b
same_length a b h = rw (le-ltb b.prefix.length a.prefix.length (omega arith), eq-eqb a.prefix.length b.prefix.length h) refl

of_length : (n address : ℕ) (r : Route) → holds_at n address r ≡ true → r.prefix.length ≡ n
of_length n address r h = eqb-true r.prefix.length n (and_parts (r.prefix.length == n) (holds r.prefix address) h).0

below : (n address : ℕ) (r : Route) → holds_below n address r ≡ true → r.prefix.length < n
below n address r h = ltb-true r.prefix.length n (and_parts (nat_lt r.prefix.length n) (holds r.prefix address) h).0

precedes : (n address : ℕ) → Precedes route_before smaller_route (holds_below (n + 1) address) (holds_at n address) (holds_below n address)
precedes n address = record {
  whole = λ r. ap (λ b. b && holds r.prefix address) (at_length r.prefix.length n) ∙ spread (r.prefix.length == n) (nat_lt r.prefix.length n) (holds r.prefix address);
  first = λ a b h g. longer_first a b (omega (arith, of_length n address a h, below n address b g));
  last = λ a b h g. shorter_last a b (omega (arith, of_length n address a h, below n address b g));
  same = λ a b h g. same_length a b (of_length n address a h ∙ sym (of_length n address b g));
}

-- one length less
pub best_step : (n address : ℕ) (xs : List Route) → best_below (n + 1) address xs ≡ option_or (first_in n address xs) (best_below n address xs)
best_step n address xs = split route_before smaller_route (holds_below (n + 1) address) (holds_at n address) (holds_below n address) (precedes n address) xs

none : (f : Route → Bool) (xs : List Route) → ((x : Route) → f x ≡ false) → filter f xs ≡ []
none f [] h = refl
none f (x ∷ xs) h = rw (h x) (none f xs h)

pub best_none : (address : ℕ) (xs : List Route) → best_below 0 address xs ≡ None
best_none address xs = rw (none (holds_below 0 address) xs (λ r. rw (le-ltb r.prefix.length 0 (omega arith)) refl)) refl

held_short : (address : ℕ) (r : Route) → holds r.prefix address ≡ holds_below 33 address r
held_short address r = elim (cases_Bool (nat_le r.prefix.length 32)) as (λ _. holds r.prefix address ≡ holds_below 33 address r) [
  | inl e ↦ rw (lt-ltb r.prefix.length 33 (omega (arith, leb-true r.prefix.length 32 e))) refl
  | inr e ↦ rw e (sym (and_false (nat_lt r.prefix.length 33)))
]
  where
    and_false : (b : Bool) → (b && false) ≡ false
    and_false true = refl
    and_false false = refl

-- no prefix that holds an address is longer than 32
pub best_whole : (address : ℕ) (xs : List Route) → deciding_route address xs ≡ best_below 33 address xs
best_whole address xs = ap (least route_before) (filter_alike (λ r. holds r.prefix address) (holds_below 33 address) xs (held_short address))

-- ---- a bucket's first

head_is : (xs : List Route) → head xs ≡ find (λ _. true) xs
head_is [] = refl
head_is (x ∷ xs) = refl

whole : (xs : List Route) → filter (λ _. true) xs ≡ xs
whole [] = refl
whole (x ∷ xs) = ap (λ ys. x ∷ ys) (whole xs)

same_bits : (n : ℕ) (address : ℕ) (r : Route) → n ≤ 32 → in_bucket n (address / 2 ^ (32 - n)) r ≡ holds_at n address r
same_bits n address r h = elim (cases_Bool (r.prefix.length == n)) as (λ _. in_bucket n (address / 2 ^ (32 - n)) r ≡ holds_at n address r) [
  | inl e ↦
      let is = eqb-true r.prefix.length n e in
      rw (e, is, le-leb n 32 h) (same_eqb (r.prefix.address / 2 ^ (32 - n)) (address / 2 ^ (32 - n)))
  | inr e ↦ rw e refl
]
  where
    same_eqb : (a b : ℕ) → (a == b) ≡ (b == a)
    same_eqb a b = elim (cases_order a b) as (λ _. (a == b) ≡ (b == a)) [
      | inl e ↦ rw e refl
      | inr o ↦ rw (ne_eqb a b (λ e. elim o as (λ _. ⊥) [ inl l ↦ omega arith | inr l ↦ omega arith ]), ne_eqb b a (λ e. elim o as (λ _. ⊥) [ inl l ↦ omega arith | inr l ↦ omega arith ])) refl
    ]

pub first_is : (n address : ℕ) (xs : List Route) → n ≤ 32 → Differ (λ (r : Route). r.number) (filter (in_bucket n (address / 2 ^ (32 - n))) xs)
    → head (sorted smaller_route (filter (in_bucket n (address / 2 ^ (32 - n))) xs)) ≡ first_in n address xs
first_is n address xs h d =
    head_is (sorted smaller_route (filter (in_bucket n (address / 2 ^ (32 - n))) xs))
    ∙ first_is_least smaller_route (λ (r : Route). r.number) route_order (λ _. true) (filter (in_bucket n (address / 2 ^ (32 - n))) xs) d
    ∙ ap (least smaller_route) (whole (filter (in_bucket n (address / 2 ^ (32 - n))) xs) ∙ filter_alike (in_bucket n (address / 2 ^ (32 - n))) (holds_at n address) xs (λ r. same_bits n address r h))

-- ---- one length of a search

pub best_found : (m n address : ℕ) (xs : List Route) (r : Route) → m ≡ n + 1 → first_in n address xs ≡ Some r → best_below m address xs ≡ Some r
best_found m n address xs r e h = ap (λ i. best_below i address xs) e ∙ best_step n address xs ∙ ap (λ o. option_or o (best_below n address xs)) h

pub best_missed : (m n address : ℕ) (xs : List Route) → m ≡ n + 1 → first_in n address xs ≡ None → best_below m address xs ≡ best_below n address xs
best_missed m n address xs e h = ap (λ i. best_below i address xs) e ∙ best_step n address xs ∙ ap (λ o. option_or o (best_below n address xs)) h
