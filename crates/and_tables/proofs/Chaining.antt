-- Chains after one operation more.
use Rattle.std.proofs.Common.{◌≡◌, ℕ, zero, suc, ◌+◌, ◌<◌, ◌≤◌, Bool, true, false, List, [], ◌∷◌, ◌++◌, length, take, Option, Some, None, refl, ap, sym, ◌∙◌, subst, arith, inl, inr, length-append, unwrap_or}
use Rattle.std.specs.Prelude.{if◌then◌else◌, ◌==◌, slice_get, slice_index_or}
use Rattle.std.proofs.lemmas.Bool.{cases_Bool, cases_lt, eq-eqb}
use Rattle.std.proofs.lemmas.List.{take-append-le}
use Rattle.std.proofs.Math.Seq.{take-length}
use Rattle.std.proofs.lemmas.Option.{slice_get_within}
use Rattle.and_policy.specs.declared.entry.Entry.{Entry}
use Rattle.and_policy.specs.declared.entry.Op.{Op}
use Rattle.and_policy.specs.declared.entry.Op.TheVariants as ops
use Rattle.and_policy.specs.declared.entry.Order.{Order}
use Rattle.and_policy.specs.Programmes.{is_net}
use Rattle.and_tables.specs.declared.chain.Chain.{Chain}
use Rattle.and_tables.specs.declared.chain.Link.{Link}
use Rattle.and_tables.specs.declared.index.Index.{Index}
use Rattle.and_tables.specs.Chains.{IsChain, IsLastLink, IsSameChain, keyed, link_at, nowhere, orders_in}
use Rattle.and_tables.specs.Indexes.{IsSameIndex}
use Rattle.and_tables.specs.Kept.{AreChained}
use Rattle.and_tables.specs.Orders.{AreTouched, the_order}
use Rattle.and_tables.specs.Steps.{own}
use Rattle.and_tables.proofs.Lasts.{last_new, last_same, last_within}

-- ---- lists with one more

front : {A : Type 0} (p : List A) (x : A) (i : ℕ) → i < length p → slice_get (p ++ x ∷ []) i ≡ slice_get p i
front [] x i h = absurd (omega (arith, h))
front (y ∷ p) x zero h = refl
front (y ∷ p) x (suc i) h = front p x i (omega (arith, h))

seam : {A : Type 0} (p : List A) (x : A) → slice_get (p ++ x ∷ []) (length p) ≡ Some x
seam [] x = refl
seam (y ∷ p) x = seam p x

index_front : {A : Type 0} (xs : List A) (x d : A) (i : ℕ) → i < length xs → slice_index_or (xs ++ x ∷ []) i d ≡ slice_index_or xs i d
index_front [] x d i h = absurd (omega (arith, h))
index_front (y ∷ xs) x d zero h = refl
index_front (y ∷ xs) x d (suc i) h = index_front xs x d i (omega (arith, h))

index_seam : {A : Type 0} (xs : List A) (x d : A) → slice_index_or (xs ++ x ∷ []) (length xs) d ≡ x
index_seam [] x d = refl
index_seam (y ∷ xs) x d = index_seam xs x d

index_past : {A : Type 0} (xs : List A) (d : A) (i : ℕ) → length xs ≤ i → slice_index_or xs i d ≡ d
index_past [] d i h = refl
index_past (x ∷ xs) d zero h = absurd (omega (arith, h))
index_past (x ∷ xs) d (suc i) h = index_past xs d i (omega (arith, h))

choose : {A : Type 0} (m n : ℕ) → (m < n → A) → (n ≤ m → A) → A
choose {A} m n f g = elim (cases_lt m n) as (λ _. A) [ inl h ↦ f h | inr h ↦ g h ]

-- ---- how many orders

pub orders_few : (p : List Op) → orders_in p ≤ length p
orders_few [] = omega arith
orders_few (ops.Entry e ∷ p) = omega (arith, orders_few p)
orders_few (ops.Offload o ∷ p) = omega (arith, orders_few p)

orders_more : (p : List Op) (o : Order) → orders_in (p ++ ops.Offload o ∷ []) ≡ suc (orders_in p)
orders_more [] o = refl
orders_more (ops.Entry e ∷ p) o = orders_more p o
orders_more (ops.Offload x ∷ p) o = ap suc (orders_more p o)

orders_same : (p : List Op) (e : Entry) → orders_in (p ++ ops.Entry e ∷ []) ≡ orders_in p
orders_same [] e = refl
orders_same (ops.Entry x ∷ p) e = orders_same p e
orders_same (ops.Offload x ∷ p) e = ap suc (orders_same p e)

orders_take : (p : List Op) (n : ℕ) → orders_in (take n p) ≤ orders_in p
orders_take [] zero = omega arith
orders_take [] (suc n) = omega arith
orders_take (ops.Entry e ∷ p) zero = omega arith
orders_take (ops.Entry e ∷ p) (suc n) = orders_take p n
orders_take (ops.Offload o ∷ p) zero = omega arith
orders_take (ops.Offload o ∷ p) (suc n) = omega (arith, orders_take p n)

-- the number of the order at a place
pub orders_at : (p : List Op) (place : ℕ) (o : Order) → slice_get p place ≡ Some (ops.Offload o) → orders_in (take (suc place) p) ≡ suc (orders_in (take place p))
orders_at [] place o h = absurd (cc h)
orders_at (ops.Entry e ∷ p) zero o h = absurd (cc h)
orders_at (ops.Offload x ∷ p) zero o h = refl
orders_at (ops.Entry e ∷ p) (suc place) o h = orders_at p place o h
orders_at (ops.Offload x ∷ p) (suc place) o h = ap suc (orders_at p place o h)

-- ---- at the start, and with the same look-ups

pub touched_start : (touch : ℕ → ℕ) → AreTouched [] touch
touched_start touch zero order is = absurd (cc is)
touched_start touch (suc zero) order is = absurd (cc is)
touched_start touch (suc (suc place)) order is = absurd (cc is)

pub chain_as : (by : Order → ℕ) (p : List Op) (x y : Chain) → IsSameChain x y → IsChain by p x → IsChain by p y
chain_as by p x y same c = record {
  long = rw same.before c.long;
  linked = λ number. rw same.before (c.linked number);
  lasts = λ q. subst (IsLastLink (keyed by q) p) (sym (ap (λ o. unwrap_or o nowhere) (same.last q))) (c.lasts q);
  befores = λ place order is. rw same.before (c.befores place order is);
}

pub chained_as : (p : List Op) (x y : Index) → IsSameIndex x y → AreChained p x → AreChained p y
chained_as p x y same c = record {
  into = chain_as (λ (o : Order). o.to_net) p x.into y.into same.into c.into;
  until = chain_as (λ (o : Order). o.until) p x.until y.until same.until c.until;
  touched = λ place order is. rw (ap (λ o. unwrap_or o 0) (same.touched order.net)) (c.touched place order is);
}

-- ---- one operation more

module _ (by : Order → ℕ) (p : List Op) (op : Op) (c : Chain) (is : IsChain by p c) where
  -- a key that the operation has not
  link_same : (q : ℕ) → keyed by q op ≡ false → IsLastLink (keyed by q) (p ++ op ∷ []) (link_at c.last q)
  link_same q other =
      let within : (link_at c.last q).place ≤ length p = last_within (keyed by q) p (link_at c.last q).place (is.lasts q).place in
      record {
        place = last_same (keyed by q) p (link_at c.last q).place op (is.lasts q).place other;
        number = rw (take-append-le (link_at c.last q).place p (op ∷ []) within) (is.lasts q).number;
      }

  -- an earlier order
  link_before : (items : List Link) (place : ℕ) (order : Order) → slice_get (p ++ op ∷ []) place ≡ Some (ops.Offload order) → place < length p
      → ((i : ℕ) → i < orders_in p → slice_index_or items i nowhere ≡ slice_index_or c.before.items i nowhere)
      → IsLastLink (keyed by (by order)) (take place (p ++ op ∷ [])) (slice_index_or items (orders_in (take place (p ++ op ∷ []))) nowhere)
  link_before items place order found h same =
      let at : slice_get p place ≡ Some (ops.Offload order) = sym (front p op place h) ∙ found in
      let few : orders_in (take place p) < orders_in p = omega (arith, orders_at p place order at, orders_take p (suc place)) in
      rw (take-append-le place p (op ∷ []) (omega (arith, h)), same (orders_in (take place p)) few) (is.befores place order at)

  within : (place : ℕ) (order : Order) → slice_get (p ++ op ∷ []) place ≡ Some (ops.Offload order) → length p ≤ place → place ≡ length p
  within place order found h =
      let short : place < length (p ++ op ∷ []) = slice_get_within (p ++ op ∷ []) place (ops.Offload order) found in
      omega (arith, short, h, length-append p (op ∷ []))

  newest : (place : ℕ) (order : Order) → slice_get (p ++ op ∷ []) place ≡ Some (ops.Offload order) → place ≡ length p → op ≡ ops.Offload order
  newest place order found at_end = offload_is op (sym (seam p op) ∙ ap (slice_get (p ++ op ∷ [])) (sym at_end) ∙ found)
    where
      offload_is : (x : Op) → Some x ≡ Some (ops.Offload order) → x ≡ ops.Offload order
      offload_is x h = cc h

-- an entry
pub chain_entry : (by : Order → ℕ) (p : List Op) (e : Entry) (c : Chain) → IsChain by p c → IsChain by (p ++ ops.Entry e ∷ []) c
chain_entry by p e c is = record {
  long = is.long ∙ sym (orders_same p e);
  linked = is.linked;
  lasts = λ q. link_same by p (ops.Entry e) c is q refl;
  befores = λ place order found.
      choose place (length p) (λ h. link_before by p (ops.Entry e) c is c.before.items place order found h (λ i l. refl))
      (λ h. absurd (none order (newest by p (ops.Entry e) c is place order found (within by p (ops.Entry e) c is place order found h))));
}
  where
    none : (order : Order) → ops.Entry e ≡ ops.Offload order → ⊥
    none order h = cc h

-- an order
module _ (by : Order → ℕ) (p : List Op) (o : Order) (here : ℕ) (c d : Chain) (is : IsChain by p c) (here_is : here ≡ length p + 1)
    (last : (q : ℕ) → link_at d.last q ≡ (if by o == q then record { place = here; number = length c.before.items + 1 } else link_at c.last q))
    (before : d.before.items ≡ c.before.items ++ link_at c.last (by o) ∷ []) where
  abbrev items : List Link
  items = c.before.items

  abbrev new : Link
  new = link_at c.last (by o)

  lasts_more : (q : ℕ) → IsLastLink (keyed by q) (p ++ ops.Offload o ∷ []) (link_at d.last q)
  lasts_more q =
      elim (cases_Bool (by o == q)) as (λ _. IsLastLink (keyed by q) (p ++ ops.Offload o ∷ []) (link_at d.last q)) [
        | inl t ↦ subst (IsLastLink (keyed by q) (p ++ ops.Offload o ∷ [])) (sym (last q ∙ rw t refl)) (mine t)
        | inr t ↦ subst (IsLastLink (keyed by q) (p ++ ops.Offload o ∷ [])) (sym (last q ∙ rw t refl)) (link_same by p (ops.Offload o) c is q t)
      ]
    where
      whole : take here (p ++ ops.Offload o ∷ []) ≡ p ++ ops.Offload o ∷ []
      whole = ap (λ n. take n (p ++ ops.Offload o ∷ [])) (here_is ∙ sym (length-append p (ops.Offload o ∷ []))) ∙ take-length (p ++ ops.Offload o ∷ [])

      mine : (by o == q) ≡ true → IsLastLink (keyed by q) (p ++ ops.Offload o ∷ []) (record { place = here; number = length items + 1 })
      mine t = record {
        place = rw here_is (last_new (keyed by q) p (link_at c.last q).place (ops.Offload o) (is.lasts q).place t);
        number = rw (whole, orders_more p o, is.long) (omega arith);
      }

  linked_more : (number : ℕ) → (slice_index_or d.before.items number nowhere).number ≤ number
  linked_more number = rw before (choose number (length items) older newest_one)
    where
      small : new.number ≤ length items
      small = omega (arith, (is.lasts (by o)).number, orders_take p new.place, is.long)

      older : number < length items → (slice_index_or (items ++ new ∷ []) number nowhere).number ≤ number
      older h = rw (index_front items new nowhere number h) (is.linked number)

      at_seam : number ≡ length items → (slice_index_or (items ++ new ∷ []) number nowhere).number ≤ number
      at_seam e = rw (e, index_seam items new nowhere) small

      newest_one : length items ≤ number → (slice_index_or (items ++ new ∷ []) number nowhere).number ≤ number
      newest_one h = choose (length items) number (λ l. rw (index_past (items ++ new ∷ []) nowhere number (rw (length-append items (new ∷ [])) (omega (arith, l)))) (omega arith))
          (λ l. at_seam (omega (arith, h, l)))

  befores_more : (place : ℕ) (order : Order) → slice_get (p ++ ops.Offload o ∷ []) place ≡ Some (ops.Offload order)
      → IsLastLink (keyed by (by order)) (take place (p ++ ops.Offload o ∷ [])) (slice_index_or d.before.items (orders_in (take place (p ++ ops.Offload o ∷ []))) nowhere)
  befores_more place order found = choose place (length p) older (λ h. at_seam (within by p (ops.Offload o) c is place order found h))
    where
      older : place < length p → IsLastLink (keyed by (by order)) (take place (p ++ ops.Offload o ∷ [])) (slice_index_or d.before.items (orders_in (take place (p ++ ops.Offload o ∷ []))) nowhere)
      older h = link_before by p (ops.Offload o) c is d.before.items place order found h
          (λ i l. ap (λ xs. slice_index_or xs i nowhere) before ∙ index_front items new nowhere i (rw is.long l))

      at_seam : place ≡ length p → IsLastLink (keyed by (by order)) (take place (p ++ ops.Offload o ∷ [])) (slice_index_or d.before.items (orders_in (take place (p ++ ops.Offload o ∷ []))) nowhere)
      at_seam e =
          let its : ops.Offload o ≡ ops.Offload order = newest by p (ops.Offload o) c is place order found e in
          let same : by o ≡ by order = ap by (order_is its) in
          let whole : take place (p ++ ops.Offload o ∷ []) ≡ p = ap (λ n. take n (p ++ ops.Offload o ∷ [])) e ∙ take-append-le (length p) p (ops.Offload o ∷ []) (omega arith) ∙ take-length p in
          let link : slice_index_or d.before.items (orders_in p) nowhere ≡ new =
          ap (λ xs. slice_index_or xs (orders_in p) nowhere) before ∙ ap (λ n. slice_index_or (items ++ new ∷ []) n nowhere) (sym is.long) ∙ index_seam items new nowhere in
          rw (whole, link, ← same) (is.lasts (by o))
        where
          order_is : ops.Offload o ≡ ops.Offload order → o ≡ order
          order_is h = cc h

  pub chain_order : IsChain by (p ++ ops.Offload o ∷ []) d
  chain_order = record {
    long = rw (before, length-append items (new ∷ []), is.long, orders_more p o) (omega arith);
    linked = linked_more;
    lasts = lasts_more;
    befores = befores_more;
  }

-- ---- the touched networks

own_order : (name : Option ℕ) (op : Op) (o : Order) → op ≡ ops.Offload o → is_net (own name op) o.net ≡ true
own_order name op o is = rw is (eq-eqb o.net o.net refl)

pub touched_more : (p : List Op) (op : Op) (name : Option ℕ) (here : ℕ) (t t2 : ℕ → ℕ) (any : ℕ → Bool) → 0 < here
    → ((net : ℕ) → t2 net ≡ (if any net then here else (if is_net (own name op) net then here else t net))) → AreTouched p t → AreTouched (p ++ op ∷ []) t2
touched_more p op name here t t2 any some is touched zero order found = absurd (cc found)
touched_more p op name here t t2 any some is touched (suc place) order found =
    choose place (length p) (λ h. older (touched (suc place) order (ap the_order (sym (front p op place h)) ∙ found)))
    (λ h. newest (own_order name op order (its op (ap the_order (sym (seam p op) ∙ ap (slice_get (p ++ op ∷ [])) (at_end h)) ∙ found))))
  where
    within : (o : Option Op) → slice_get (p ++ op ∷ []) place ≡ o → the_order o ≡ Some order → place < length (p ++ op ∷ [])
    within None e f = absurd (cc f)
    within (Some x) e f = slice_get_within (p ++ op ∷ []) place x e

    at_end : length p ≤ place → length p ≡ place
    at_end h = omega (arith, h, length-append p (op ∷ []), within (slice_get (p ++ op ∷ []) place) refl found)

    its : (x : Op) → the_order (Some x) ≡ Some order → x ≡ ops.Offload order
    its (ops.Entry e) f = absurd (cc f)
    its (ops.Offload o) f = cc f

    older : 0 < t order.net → 0 < t2 order.net
    older h = rw (is order.net) (by_values (any order.net) (is_net (own name op) order.net))
      where
        by_values : (a b : Bool) → 0 < (if a then here else (if b then here else t order.net))
        by_values true b = some
        by_values false true = some
        by_values false false = h

    newest : is_net (own name op) order.net ≡ true → 0 < t2 order.net
    newest e = rw (is order.net, e) (by_value (any order.net))
      where
        by_value : (a : Bool) → 0 < (if a then here else here)
        by_value true = some
        by_value false = some

-- where another number is written at some networks, each touched one stays so
pub touched_on : (p : List Op) (here : ℕ) (t t2 : ℕ → ℕ) (test : ℕ → Bool) → 0 < here → ((net : ℕ) → t2 net ≡ (if test net then here else t net)) → AreTouched p t → AreTouched p t2
touched_on p here t t2 test some is touched place order found = rw (is order.net) (by_value (test order.net) (touched place order found))
  where
    by_value : (b : Bool) → 0 < t order.net → 0 < (if b then here else t order.net)
    by_value true h = some
    by_value false h = h
