-- A walk along a chain: what is left to do of it.
use Rattle.std.proofs.Common.{◌≡◌, ℕ, zero, suc, ◌<◌, ◌≤◌, Bool, true, false, ◌&&◌, ◌||◌, List, [], ◌∷◌, length, drop, take, Option, Some, None, refl, ap, sym, ◌∙◌, subst, arith, inl, inr}
use Rattle.std.specs.Prelude.{if◌then◌else◌, ◌==◌, slice_get, slice_index_or}
use Rattle.std.specs.List.{list_any}
use Rattle.std.proofs.lemmas.Bool.{cases_lt, eqb-true, eq-eqb, false≢true, false_from_ne_true, le-ltb, or_parts}
use Rattle.std.proofs.Math.Seq.{take-length}
use Rattle.std.proofs.lemmas.Option.{slice_get_within}
use Rattle.and_policy.specs.declared.entry.Op.{Op}
use Rattle.and_policy.specs.declared.entry.Op.TheVariants as ops
use Rattle.and_policy.specs.declared.entry.Order.{Order}
use Rattle.and_tables.specs.declared.chain.Chain.{Chain}
use Rattle.and_tables.specs.declared.chain.Link.{Link}
use Rattle.and_tables.specs.Chains.{IsChain, IsLastLink, before, keyed, nowhere, orders_in}
use Rattle.and_tables.specs.Lasts.{IsLast}
use Rattle.and_tables.specs.Orders.{IsNoneBelow, alive_at, alive_by, any_upto, lives_at, meets, order_at, the_order}
use Rattle.and_tables.proofs.Chaining.{orders_at}
use Rattle.and_tables.proofs.Lasts.{last_within, matches_at}

upto_none : (test : ℕ → Bool) (a m : ℕ) → a ≤ m → ((r : ℕ) → a < r → r ≤ m → test r ≡ false) → any_upto test m ≡ any_upto test a
upto_none test a zero h none = let e : zero ≡ a = omega (arith, h) in ap (any_upto test) e
upto_none test a (suc m) h none =
    elim (cases_lt a (suc m)) as (λ _. any_upto test (suc m) ≡ any_upto test a) [
      | inl l ↦ rw (none (suc m) l (omega arith)) (upto_none test a m (omega (arith, l)) (λ r x y. none r x (omega (arith, y))))
      | inr l ↦ let e : suc m ≡ a = omega (arith, h, l) in ap (any_upto test) e
    ]

fails_at : (test : Op → Bool) (xs : List Op) (q : ℕ) (op : Op) → list_any test (drop q xs) ≡ false → slice_get xs q ≡ Some op → test op ≡ false
fails_at test [] zero op none is = absurd (cc is)
fails_at test [] (suc q) op none is = absurd (cc is)
fails_at test (x ∷ xs) zero op none is = ap test (sym (same is)) ∙ (or_parts (test x) (list_any test xs) none).0
  where
    same : Some x ≡ Some op → x ≡ op
    same h = cc h
fails_at test (x ∷ xs) (suc q) op none is = fails_at test xs q op none is

length_take : (n : ℕ) (xs : List Op) → length (take n xs) ≤ n
length_take zero xs = omega arith
length_take (suc n) [] = omega arith
length_take (suc n) (x ∷ xs) = omega (arith, length_take n xs)

take_take : (m n : ℕ) (xs : List Op) → m ≤ n → take m (take n xs) ≡ take m xs
take_take zero n xs h = refl
take_take (suc m) zero xs h = absurd (omega (arith, h))
take_take (suc m) (suc n) [] h = refl
take_take (suc m) (suc n) (x ∷ xs) h = ap (λ (r : List Op). x ∷ r) (take_take m n xs (omega (arith, h)))

-- the last one among so many is not after them
before_it : (test : Op → Bool) (p : List Op) (place next : ℕ) → IsLast test (take place p) next → next ≤ place
before_it test p place next is = omega (arith, last_within test (take place p) next is, length_take place p)

get_take : (xs : List Op) (m q : ℕ) → q < m → slice_get (take m xs) q ≡ slice_get xs q
get_take [] zero q h = refl
get_take [] (suc m) q h = refl
get_take (x ∷ xs) zero q h = absurd (omega (arith, h))
get_take (x ∷ xs) (suc m) zero h = refl
get_take (x ∷ xs) (suc m) (suc q) h = get_take xs m q (omega (arith, h))

module _ (by : Order → ℕ) (p : List Op) (ticks : ℕ) (entered : ℕ → ℕ) (ordered : ℕ → ℕ → ℕ) (key net : ℕ) where
  -- the order at the place lives, and has the key and the source network
  abbrev pub Mine : ℕ → Bool
  Mine place = meets (λ o. (by o == key) && (o.net == net)) (alive_at p ticks entered ordered place)

  other_key : (place : ℕ) (o : Option Order) → ((x : Order) → o ≡ Some x → (by x == key) ≡ false) → meets (λ x. (by x == key) && (x.net == net)) (alive_by ticks entered ordered place o) ≡ false
  other_key place None h = refl
  other_key place (Some x) h = by_value ((ordered x.net x.ip == place) && lives_at ticks entered place x)
    where
      by_value : (b : Bool) → meets (λ y. (by y == key) && (y.net == net)) (if b then Some x else None) ≡ false
      by_value true = rw (h x refl) refl
      by_value false = refl

  -- between the last one with the key and the end there is none
  none_past : (m last : ℕ) → m ≤ length p → IsLast (keyed by key) (take m p) last → (r : ℕ) → last < r → r ≤ m → Mine r ≡ false
  none_past m last short is zero l h = absurd (omega (arith, l))
  none_past m last short is (suc r) l h = other_key (suc r) (order_at p (suc r)) (λ x e. fails x (found (slice_get p r) refl x e))
    where
      found : (o : Option Op) → slice_get p r ≡ o → (x : Order) → the_order o ≡ Some x → slice_get p r ≡ Some (ops.Offload x)
      found None e x f = absurd (cc f)
      found (Some (ops.Entry entry)) e x f = absurd (cc f)
      found (Some (ops.Offload y)) e x f = e ∙ ap (λ (z : Order). Some (ops.Offload z)) (cc f)

      fails : (x : Order) → slice_get p r ≡ Some (ops.Offload x) → (by x == key) ≡ false
      fails x e = fails_at (keyed by key) (take m p) r (ops.Offload x) (is.later r ∙ le-ltb r last (omega (arith, l))) (get_take p m r (omega (arith, h)) ∙ e)

  pub from_last : (last : ℕ) → IsLast (keyed by key) p last → any_upto Mine (length p) ≡ any_upto Mine last
  from_last last is = upto_none Mine last (length p) (last_within (keyed by key) p last is) (none_past (length p) last (omega arith) (rw (take-length p) is))

  -- the places before one, by the last one with the key before it
  pub from_next : (place next : ℕ) → place ≤ length p → IsLast (keyed by key) (take place p) next → any_upto Mine place ≡ any_upto Mine next
  from_next place next short is = upto_none Mine next place (before_it (keyed by key) p place next is) (none_past place next short is)

  -- below the floor there is none
  pub none_below : (floor place : ℕ) → place < floor → IsNoneBelow by p ticks entered ordered key floor → any_upto Mine place ≡ false
  none_below floor zero l none = refl
  none_below floor (suc place) l none = rw (at_place (alive_at p ticks entered ordered (suc place)) refl, none_below floor place (omega (arith, l)) none) refl
    where
      at_place : (o : Option Order) → alive_at p ticks entered ordered (suc place) ≡ o → meets (λ x. (by x == key) && (x.net == net)) o ≡ false
      at_place None e = refl
      at_place (Some x) e = rw (false_from_ne_true (by x == key) (λ h. none (suc place) x l e (eqb-true (by x) key h))) refl

-- the places after this one, an order's with the key and this number, have been walked: the rest gives what the whole does
pub record IsWalked (by : Order → ℕ) (p : List Op) (ticks : ℕ) (entered : ℕ → ℕ) (ordered : ℕ → ℕ → ℕ) (key : ℕ) (link : Link) (here : ℕ) (t t2 : ℕ → ℕ) : Type 0 where
  pub head : (c : ℕ) → link.place ≡ suc c → (o : Order) × (slice_get p c ≡ Some (ops.Offload o)) × (by o ≡ key)
  pub number : link.number ≡ orders_in (take link.place p)
  pub numbers : (net : ℕ) → (if any_upto (Mine by p ticks entered ordered key net) (length p) then here else t net)
      ≡ (if any_upto (Mine by p ticks entered ordered key net) link.place then here else t2 net)

order_keyed : (by : Order → ℕ) (key : ℕ) (op : Op) → keyed by key op ≡ true → (o : Order) × (op ≡ ops.Offload o) × (by o ≡ key)
order_keyed by key (ops.Entry e) h = absurd (false≢true h)
order_keyed by key (ops.Offload o) h = (o, refl, eqb-true (by o) key h)

module _ (by : Order → ℕ) (p : List Op) (ticks : ℕ) (entered : ℕ → ℕ) (ordered : ℕ → ℕ → ℕ) (key here : ℕ) (t : ℕ → ℕ) where
  -- what stands at the last place with the key
  head_at : (q : List Op) (last : ℕ) → IsLast (keyed by key) q last → ((c : ℕ) (op : Op) → slice_get q c ≡ Some op → slice_get p c ≡ Some op) → (c : ℕ) → last ≡ suc c
      → (o : Order) × (slice_get p c ≡ Some (ops.Offload o)) × (by o ≡ key)
  head_at q last is same c e = by_op (slice_get q c) refl
    where
      short : suc c ≤ length q
      short = subst (λ n. n ≤ length q) e (last_within (keyed by key) q last is)

      by_op : (o : Option Op) → slice_get q c ≡ o → (o : Order) × (slice_get p c ≡ Some (ops.Offload o)) × (by o ≡ key)
      by_op None f = absurd (none_in q c short f)
        where
          none_in : (xs : List Op) (n : ℕ) → suc n ≤ length xs → slice_get xs n ≡ None → ⊥
          none_in [] n h g = omega (arith, h)
          none_in (x ∷ xs) zero h g = cc g
          none_in (x ∷ xs) (suc n) h g = none_in xs n (omega (arith, h)) g
      by_op (Some op) f =
          let its = order_keyed by key op (matches_at (keyed by key) q c op (subst (IsLast (keyed by key) q) e is) f) in
          (its.0, same c op f ∙ ap Some its.1, its.2)

  pub walk_starts : (last : Link) → IsLastLink (keyed by key) p last → IsWalked by p ticks entered ordered key last here t t
  walk_starts last is = record {
    head = head_at p last.place is.place (λ c op f. f);
    number = is.number;
    numbers = λ net. rw (from_last by p ticks entered ordered key net last.place is.place) refl;
  }

  module _ (c : Chain) (chained : IsChain by p c) where
    -- the link to the one before the order at a place
    next_is : (place : ℕ) (o : Order) → slice_get p place ≡ Some (ops.Offload o) → by o ≡ key → IsLastLink (keyed by key) (take place p) (before c (orders_in (take (suc place) p)))
    next_is place o found is = rw (orders_at p place o found) (subst (λ q. IsLastLink (keyed by q) (take place p) (slice_index_or c.before.items (orders_in (take place p)) nowhere)) is (chained.befores place o found))

    walk_on : (place : ℕ) (next : Link) (t2 t3 : ℕ → ℕ) (o : Order) → slice_get p place ≡ Some (ops.Offload o) → IsLastLink (keyed by key) (take place p) next
        → ((net : ℕ) → (if any_upto (Mine by p ticks entered ordered key net) (length p) then here else t net)
        ≡ (if any_upto (Mine by p ticks entered ordered key net) (suc place) then here else t2 net))
        → ((net : ℕ) → t3 net ≡ (if Mine by p ticks entered ordered key net (suc place) then here else t2 net))
        → IsWalked by p ticks entered ordered key next here t t3
    walk_on place next t2 t3 o found last numbers is =
        let short : place < length p = slice_get_within p place (ops.Offload o) found in
        record {
          head = head_at (take place p) next.place last.place (λ n op f. within place n p op f);
          number = last.number ∙ ap orders_in (take_take next.place place p (before_it (keyed by key) p place next.place last.place));
          numbers = λ net.
              numbers net ∙ rw (is net, from_next by p ticks entered ordered key net place next.place (omega (arith, short)) last.place)
              (either (Mine by p ticks entered ordered key net (suc place)) (any_upto (Mine by p ticks entered ordered key net) next.place) (t2 net));
        }
      where
        within : (m n : ℕ) (xs : List Op) (op : Op) → slice_get (take m xs) n ≡ Some op → slice_get xs n ≡ Some op
        within zero n xs op f = absurd (cc f)
        within (suc m) n [] op f = f
        within (suc m) zero (x ∷ xs) op f = f
        within (suc m) (suc n) (x ∷ xs) op f = within m n xs op f

        either : (a b : Bool) (old : ℕ) → (if a || b then here else old) ≡ (if b then here else (if a then here else old))
        either true true old = refl
        either true false old = refl
        either false b old = refl

    -- an order that lives was written at its network, and one that does not was not
    walk_at : (place number : ℕ) (t2 t3 : ℕ → ℕ) (found : Option Order) → 0 < number → IsWalked by p ticks entered ordered key (record { place = place; number = number }) here t t2
        → found ≡ alive_at p ticks entered ordered place
        → ((net : ℕ) → t3 net ≡ (if meets (λ o. o.net == net) found then here else t2 net))
        → IsWalked by p ticks entered ordered key (before c number) here t t3
    walk_at zero number t2 t3 found h w is written = absurd (omega (arith, h, w.number))
    walk_at (suc place) number t2 t3 found h w is written =
        let o = w.head place refl in
        let last : IsLastLink (keyed by key) (take place p) (before c number) = subst (λ n. IsLastLink (keyed by key) (take place p) (before c n)) (sym w.number) (next_is place o.0 o.1 o.2) in
        walk_on place (before c number) t2 t3 o.0 o.1 last w.numbers
        (λ net. written net ∙ ap (λ b. if b then here else t2 net) (ap (meets (λ x. x.net == net)) (is ∙ alive o.0 o.1) ∙ sym (same o.0 o.2 net ((ordered o.0.net o.0.ip == suc place) && lives_at ticks entered (suc place) o.0)) ∙ ap (meets (λ x. (by x == key) && (x.net == net))) (sym (alive o.0 o.1))))
      where
        alive : (o : Order) → slice_get p place ≡ Some (ops.Offload o) → alive_at p ticks entered ordered (suc place) ≡ (if (ordered o.net o.ip == suc place) && lives_at ticks entered (suc place) o then Some o else None)
        alive o f = rw f refl

        same : (o : Order) → by o ≡ key → (net : ℕ) (b : Bool) → meets (λ x. (by x == key) && (x.net == net)) (if b then Some o else None) ≡ meets (λ x. x.net == net) (if b then Some o else None)
        same o e net true = rw (eq-eqb (by o) key e) refl
        same o e net false = refl

    pub walk_step : (link : Link) (t2 t3 : ℕ → ℕ) (found : Option Order) → 0 < link.number → IsWalked by p ticks entered ordered key link here t t2 → found ≡ alive_at p ticks entered ordered link.place
        → ((net : ℕ) → t3 net ≡ (if meets (λ o. o.net == net) found then here else t2 net))
        → IsWalked by p ticks entered ordered key (before c link.number) here t t3
    walk_step link = walk_at link.place link.number

  ends_at : (floor place number : ℕ) (t2 : ℕ → ℕ) → ((0 < number) → (floor ≤ place) → ⊥) → IsNoneBelow by p ticks entered ordered key floor
      → IsWalked by p ticks entered ordered key (record { place = place; number = number }) here t t2
      → (net : ℕ) → t2 net ≡ (if any_upto (Mine by p ticks entered ordered key net) (length p) then here else t net)
  ends_at floor zero number t2 over none w net = sym (w.numbers net)
  ends_at floor (suc place) number t2 over none w net =
      let o = w.head place refl in
      let some : 0 < number = omega (arith, w.number, orders_at p place o.0 o.1) in
      let below : suc place < floor = elim (cases_lt (suc place) floor) as (λ _. suc place < floor) [ inl l ↦ l | inr l ↦ absurd (over some l) ] in
      sym (w.numbers net ∙ rw (none_below by p ticks entered ordered key net floor (suc place) below none) refl)

  pub walk_ends : (floor : ℕ) (link : Link) (t2 : ℕ → ℕ) → ((0 < link.number) → (floor ≤ link.place) → ⊥) → IsNoneBelow by p ticks entered ordered key floor
      → IsWalked by p ticks entered ordered key link here t t2
      → (net : ℕ) → t2 net ≡ (if any_upto (Mine by p ticks entered ordered key net) (length p) then here else t net)
  walk_ends floor link = ends_at floor link.place link.number

  -- a chain without an order has nothing to be walked
  pub walk_none : (last : Link) → IsLastLink (keyed by key) p last → last.number ≡ 0 → (net : ℕ) → t net ≡ (if any_upto (Mine by p ticks entered ordered key net) (length p) then here else t net)
  walk_none last is none net = walk_ends 0 last t (λ some low. omega (arith, none, some)) (λ place order below alive same. omega (arith, below)) (walk_starts last is) net
