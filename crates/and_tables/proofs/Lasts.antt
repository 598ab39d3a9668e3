-- Last places as operations are added, and the order that lives by its place.
use Rattle.std.proofs.Common.{◌≡◌, ℕ, zero, suc, ◌+◌, ◌<◌, ◌≤◌, Bool, true, false, ◌&&◌, ◌||◌, not, List, [], ◌∷◌, ◌++◌, length, drop, Some, None, refl, ap, sym, ◌∙◌, arith, inl, inr}
use Rattle.std.specs.Prelude.{nat_lt, if◌then◌else◌, ◌==◌, slice_get}
use Rattle.std.specs.List.{list_any, find}
use Rattle.std.proofs.lemmas.Bool.{or_parts, and_parts, cases_Bool, eqb-true, cases_lt, false≢true, ltb-false, lt-ltb, le-ltb}
use Rattle.and_policy.specs.declared.entry.Entry.{Entry}
use Rattle.and_policy.specs.declared.entry.Op.{Op}
use Rattle.and_policy.specs.declared.entry.Op.TheVariants as ops
use Rattle.and_policy.specs.declared.entry.Order.{Order}
use Rattle.and_policy.specs.Programmes.{is_entry_of, orders_for, ends, lives, living}
use Rattle.and_policy.specs.Logs.{now}
use Rattle.and_policy.proofs.Ended.{later_order}
use Rattle.and_tables.specs.Lasts.{IsLast, order_by}

or_true : (b : Bool) → (b || true) ≡ true
or_true true = refl
or_true false = refl

or_false : (b : Bool) → (b || false) ≡ b
or_false true = refl
or_false false = refl

-- ---- one operation more

any_more-here : (test : Op → Bool) (p : List Op) (op : Op) (q : ℕ) → q ≤ length p → list_any test (drop q (p ++ op ∷ [])) ≡ (list_any test (drop q p) || test op)
any_more-here test [] op zero h = or_false (test op)
any_more-here test [] op (suc q) h = absurd (omega arith)
any_more-here test (x ∷ p) op zero h = rw (any_more-here test p op zero (omega arith)) (grind arith)
any_more-here test (x ∷ p) op (suc q) h = any_more-here test p op q (omega arith)

drop_none : (test : Op → Bool) (q : ℕ) → list_any test (drop q []) ≡ false
drop_none test zero = refl
drop_none test (suc q) = refl

any_more-past : (test : Op → Bool) (p : List Op) (op : Op) (q : ℕ) → length p < q → list_any test (drop q (p ++ op ∷ [])) ≡ false
any_more-past test [] op zero h = absurd (omega arith)
any_more-past test [] op (suc q) h = drop_none test q
any_more-past test (x ∷ p) op zero h = absurd (omega arith)
any_more-past test (x ∷ p) op (suc q) h = any_more-past test p op q (omega arith)

-- no operation stands after the last one
none_past : (test : Op → Bool) (p : List Op) → list_any test (drop (length p) p) ≡ false
none_past test [] = refl
none_past test (x ∷ p) = none_past test p

pub last_within : (test : Op → Bool) (p : List Op) (place : ℕ) → IsLast test p place → place ≤ length p
last_within test p place l = ltb-false (length p) place (sym (l.later (length p)) ∙ none_past test p)

choose : {A : Type 0} (m n : ℕ) → (m ≤ n → A) → (n < m → A) → A
choose {A} m n f g = elim (cases_lt n m) as (λ _. A) [ inl h ↦ g h | inr h ↦ f h ]

pub last_new : (test : Op → Bool) (p : List Op) (place : ℕ) (op : Op) → IsLast test p place → test op ≡ true → IsLast test (p ++ op ∷ []) (length p + 1)
last_new test p place op l t = record {
  later = λ q. choose q (length p) (λ h. any_more-here test p op q h ∙ rw t (or_true _ ∙ sym (lt-ltb q (length p + 1) (omega arith)))) (λ h. any_more-past test p op q h ∙ sym (le-ltb q (length p + 1) (omega arith)));
}

pub last_same : (test : Op → Bool) (p : List Op) (place : ℕ) (op : Op) → IsLast test p place → test op ≡ false → IsLast test (p ++ op ∷ []) place
last_same test p place op l t =
    let within = last_within test p place l in
    record {
      later = λ q. choose q (length p) (λ h. any_more-here test p op q h ∙ rw t (or_false _ ∙ l.later q)) (λ h. any_more-past test p op q h ∙ sym (le-ltb q place (omega arith)));
    }

-- ---- the order that lives

abbrev is_for : ℕ → ℕ → Order → Bool
is_for net ip order = (order.net == net) && (order.ip == ip)

skip : (b : Bool) (test : Order → Bool) (order : Order) (orders : List Order) → test order ≡ false → find test (if b then order ∷ orders else orders) ≡ find test orders
skip true test order orders t = rw t
skip false test order orders t = refl

hit : (b : Bool) (test : Order → Bool) (order : Order) (orders : List Order) → test order ≡ true → find test orders ≡ None → find test (if b then order ∷ orders else orders) ≡ (if b then Some order else None)
hit true test order orders t n = rw t
hit false test order orders t n = n

none_lives : (k : List Entry) (p : List Op) (net ip : ℕ) → list_any (orders_for net ip) p ≡ false → find (is_for net ip) (living k p) ≡ None
none_lives k [] net ip h = refl
none_lives k (ops.Entry entry ∷ p) net ip h = none_lives k p net ip h
none_lives k (ops.Offload order ∷ p) net ip h =
    let parts = or_parts (is_for net ip order) (list_any (orders_for net ip) p) h in
    skip (lives k order p) (is_for net ip) order (living k p) parts.0 ∙ none_lives k p net ip parts.1

lt_suc : (a b : ℕ) → nat_lt (suc a) (suc b) ≡ nat_lt a b
lt_suc a b = choose b a (λ h. le-ltb (suc a) (suc b) (omega arith) ∙ sym (le-ltb a b h)) (λ h. lt-ltb (suc a) (suc b) (omega arith) ∙ sym (lt-ltb a b h))

last_tail : (test : Op → Bool) (x : Op) (p : List Op) (place : ℕ) → IsLast test (x ∷ p) (suc place) → IsLast test p place
last_tail test x p place l = record { later = λ q. l.later (suc q) ∙ lt_suc q place }

last_none : (test : Op → Bool) (x : Op) (p : List Op) → IsLast test (x ∷ p) zero → list_any test p ≡ false
last_none test x p l = (or_parts (test x) (list_any test p) (l.later 0)).1

first_is : (a b : Bool) → (a || b) ≡ nat_lt 0 1 → b ≡ false → a ≡ true
first_is true b h n = refl
first_is false b h n = absurd (false≢true (sym n ∙ h ∙ lt-ltb 0 1 (omega arith)))

is_same : (net ip m q : ℕ) → ((m == net) && (q == ip)) ≡ true → (m ≡ net) × (q ≡ ip)
is_same net ip m q h =
    let parts = and_parts (m == net) (q == ip) h in
    (eqb-true m net parts.0, eqb-true q ip parts.1)

-- an order is passed over where a later one is for the same
past : (k : List Entry) (order : Order) (p : List Op) (net ip : ℕ) → list_any (orders_for net ip) p ≡ true
    → find (is_for net ip) (living k (ops.Offload order ∷ p)) ≡ find (is_for net ip) (living k p)
past k order p net ip some =
    elim (cases_Bool (is_for net ip order)) as (λ _. find (is_for net ip) (living k (ops.Offload order ∷ p)) ≡ find (is_for net ip) (living k p)) [
      | inl h ↦
          let same = is_same net ip order.net order.ip h in
          ap (find (is_for net ip)) (later_order k order p (rw (same.0, same.1) some))
      | inr h ↦ skip (lives k order p) (is_for net ip) order (living k p) h
    ]

-- the order at the last place for a network and an address is the one that can live
pub live_by : (k : List Entry) (p : List Op) (net ip place : ℕ) → IsLast (orders_for net ip) p place → find (is_for net ip) (living k p) ≡ order_by k p place
live_by k p net ip zero l = none_lives k p net ip (l.later 0)
live_by k [] net ip (suc place) l = absurd (false≢true (l.later 0 ∙ lt-ltb 0 (suc place) (omega arith)))
live_by k (ops.Entry entry ∷ p) net ip (suc zero) l = none_lives k p net ip ((last_tail _ _ p 0 l).later 0)
live_by k (ops.Entry entry ∷ p) net ip (suc (suc place)) l = live_by k p net ip (suc place) (last_tail _ _ p (suc place) l)
live_by k (ops.Offload order ∷ p) net ip (suc zero) l =
    let none : list_any (orders_for net ip) p ≡ false = (last_tail _ _ p 0 l).later 0 in
    hit (lives k order p) (is_for net ip) order (living k p) (first_is (is_for net ip order) _ (l.later 0) none) (none_lives k p net ip none)
live_by k (ops.Offload order ∷ p) net ip (suc (suc place)) l =
    let tail = last_tail _ _ p (suc place) l in
    let some : list_any (orders_for net ip) p ≡ true = tail.later 0 ∙ lt-ltb 0 (suc place) (omega arith) in
    past k order p net ip some ∙ live_by k p net ip (suc place) tail

some_is : (x y : Op) → Some x ≡ Some y → x ≡ y
some_is x y h = cc h

-- what stands at the last place meets the test
pub matches_at : (test : Op → Bool) (p : List Op) (place : ℕ) (op : Op) → IsLast test p (suc place) → slice_get p place ≡ Some op → test op ≡ true
matches_at test [] place op l h = absurd (cc h)
matches_at test (x ∷ p) zero op l h =
    let none : list_any test p ≡ false = (last_tail test x p 0 l).later 0 in
    let e : x ≡ op = some_is x op h in
    ap test (sym e) ∙ first_is (test x) (list_any test p) (l.later 0) none
matches_at test (x ∷ p) (suc place) op l h = matches_at test p place op (last_tail test x p (suc place) l) h

-- ---- when an order has ended, by the last places

or_swap : (a b c d e f : Bool) → (((a || b) || c) || (d || (e || f))) ≡ ((a || d) || ((b || e) || (c || f)))
or_swap true b c d e f = refl
or_swap false true c true e f = refl
or_swap false true c false e f = refl
or_swap false false true true e f = refl
or_swap false false true false true f = refl
or_swap false false true false false f = refl
or_swap false false false true e f = refl
or_swap false false false false true f = refl
or_swap false false false false false f = refl

pub any_ends : (k : List Entry) (order : Order) (later : List Op)
    → list_any (ends k order) later ≡ (list_any (is_entry_of k order.net) later || (list_any (is_entry_of k order.to_net) later || list_any (orders_for order.net order.ip) later))
any_ends k order [] = refl
any_ends k order (op ∷ later) =
    rw (any_ends k order later) (or_swap (is_entry_of k order.net op) (is_entry_of k order.to_net op) (orders_for order.net order.ip op)
    (list_any (is_entry_of k order.net) later) (list_any (is_entry_of k order.to_net) later) (list_any (orders_for order.net order.ip) later))

pub lives_by : (k : List Entry) (p : List Op) (order : Order) (place own other : ℕ)
    → IsLast (is_entry_of k order.net) p own → IsLast (is_entry_of k order.to_net) p other → IsLast (orders_for order.net order.ip) p place
    → lives k order (drop place p) ≡ (not (nat_lt place own || nat_lt place other) && nat_lt (now k) order.until)
lives_by k p order place own other a b c = rw (any_ends k order (drop place p), a.later place, b.later place, c.later place, le-ltb place place (omega arith)) (ap (λ b. not b && nat_lt (now k) order.until) (ap (λ b. nat_lt place own || b) (or_false (nat_lt place other))))
