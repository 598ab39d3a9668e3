-- The live orders by their places, and what an operation touches by ending some of them.
use Rattle.std.proofs.Common.{◌≡◌, ℕ, zero, suc, ◌+◌, ◌<◌, ◌≤◌, Bool, true, false, ◌&&◌, ◌||◌, not, List, [], ◌∷◌, ◌++◌, length, drop, Option, Some, None, refl, ap, sym, ◌∙◌, subst, arith, inl, inr, append_assoc, append-nil, length-append}
use Rattle.std.specs.Prelude.{if◌then◌else◌, ◌==◌, nat_lt, nat_le, slice_get}
use Rattle.std.specs.List.{list_any}
use Rattle.std.proofs.lemmas.Bool.{cases_Bool, cases_lt, eqb-true, eq-eqb, ltb-true, lt-ltb, le-ltb, false≢true, false_from_ne_true, leb-true, ne_eqb}
use Rattle.and_policy.specs.declared.entry.Entry.{Entry}
use Rattle.and_policy.specs.declared.entry.Entry.TheVariants.{AddNet, AddVm, RemoveVm, Place, AddRule, DelRule, AddRoute, DelRoute, Tick}
use Rattle.and_policy.specs.declared.entry.Op.{Op}
use Rattle.and_policy.specs.declared.entry.Op.TheVariants as ops
use Rattle.and_policy.specs.declared.entry.Order.{Order}
use Rattle.and_policy.specs.Fitting.{IsLog}
use Rattle.and_policy.specs.Logs.{now}
use Rattle.and_policy.specs.Programmes.{entries, is_entry_of, is_net, lives, living, orders_for}
use Rattle.and_tables.specs.Kept.{Keeps}
use Rattle.and_tables.specs.Lasts.{IsLast}
use Rattle.and_tables.specs.Orders.{order_at, lives_at, alive_by, alive_at, meets, any_upto, any_alive, hits, IsNoneBelow}
use Rattle.and_tables.specs.Steps.{named, own, stays_by, is_ended, ends_by, ticks_of}
use Rattle.and_tables.proofs.Lasts.{any_ends}
use Rattle.and_tables.proofs.Offloads.{lives_is}

-- ---- the live orders by their places

or_assoc : (a x b : Bool) → (a || (x || b)) ≡ ((x || a) || b)
or_assoc true true b = refl
or_assoc true false b = refl
or_assoc false true b = refl
or_assoc false false b = refl

or_false : (b : Bool) → (b || false) ≡ b
or_false true = refl
or_false false = refl

there : (before : List Op) (op : Op) (later : List Op) → slice_get (before ++ op ∷ later) (length before) ≡ Some op
there [] op later = refl
there (x ∷ before) op later = there before op later

beyond : (before : List Op) (op : Op) (later : List Op) → drop (suc (length before)) (before ++ op ∷ later) ≡ later
beyond [] op later = refl
beyond (x ∷ before) op later = beyond before op later

order_same : (places : ℕ → ℕ → ℕ) (net ip : ℕ) (place : ℕ) (p : List Op) (later : List Op) → IsLast (orders_for net ip) p (places net ip) → (c : ℕ) → place ≡ suc c
    → list_any (orders_for net ip) (drop c p) ≡ true → drop place p ≡ later → (places net ip == place) ≡ false → list_any (orders_for net ip) later ≡ true
order_same places net ip place p later last c is some rest other =
    let from : nat_lt c (places net ip) ≡ true = sym (last.later c) ∙ some in
    let apart : places net ip ≡ place → ⊥ = λ e. false≢true (sym other ∙ eq-eqb (places net ip) place e) in
    let past : nat_lt place (places net ip) ≡ true = lt-ltb place (places net ip) (above (places net ip) place (omega (arith, is, ltb-true c (places net ip) from)) apart) in
    ap (list_any (orders_for net ip)) (sym rest) ∙ last.later place ∙ past
  where
    above : (m n : ℕ) → n ≤ m → (m ≡ n → ⊥) → n < m
    above m n h apart = elim (cases_lt n m) as (λ _. n < m) [ inl l ↦ l | inr l ↦ absurd (apart (omega (arith, h, l))) ]

-- an order after which one for the same comes does not live
renewed : (k : List Entry) (order : Order) (later : List Op) → list_any (orders_for order.net order.ip) later ≡ true → lives k order later ≡ false
renewed k order later some =
    rw (any_ends k order later, some) (by_values (list_any (is_entry_of k order.net) later) (list_any (is_entry_of k order.to_net) later) (nat_lt (now k) order.until))
  where
    by_values : (a b c : Bool) → (not (a || (b || true)) && c) ≡ false
    by_values true b c = refl
    by_values false true c = refl
    by_values false false c = refl

module _ (p : List Op) (ticks : ℕ) (entered : ℕ → ℕ) (ordered : ℕ → ℕ → ℕ) (k : Keeps p ticks entered ordered) (log : IsLog None (entries p)) where
  lives_there : (before : List Op) (order : Order) (later : List Op) → before ++ ops.Offload order ∷ later ≡ p
      → lives (entries p) order later ≡ ((ordered order.net order.ip == suc (length before)) && lives_at ticks entered (suc (length before)) order)
  lives_there before order later is =
      elim (cases_Bool (ordered order.net order.ip == suc (length before))) as (λ _. lives (entries p) order later ≡ ((ordered order.net order.ip == suc (length before)) && lives_at ticks entered (suc (length before)) order)) [
        | inl e ↦
            let here : ordered order.net order.ip ≡ suc (length before) = eqb-true (ordered order.net order.ip) (suc (length before)) e in
            rw e (ap (lives (entries p) order) (sym rest ∙ ap (λ n. drop n p) (sym here)) ∙ lives_is p ticks entered ordered order k log ∙ ap (λ n. lives_at ticks entered n order) here)
        | inr e ↦ rw e (renewed (entries p) order later (order_same ordered order.net order.ip (suc (length before)) p later (k.orders order.net order.ip) (length before) refl some rest e))
      ]
    where
      rest : drop (suc (length before)) p ≡ later
      rest = ap (drop (suc (length before))) (sym is) ∙ beyond before (ops.Offload order) later

      from_here : (xs : List Op) → drop (length xs) (xs ++ ops.Offload order ∷ later) ≡ ops.Offload order ∷ later
      from_here [] = refl
      from_here (x ∷ xs) = from_here xs

      some : list_any (orders_for order.net order.ip) (drop (length before) p) ≡ true
      some = ap (λ xs. list_any (orders_for order.net order.ip) (drop (length before) xs)) (sym is) ∙ ap (list_any (orders_for order.net order.ip)) (from_here before)
          ∙ rw (eq-eqb order.net order.net refl, eq-eqb order.ip order.ip refl) refl

  abbrev Found : (Order → Bool) → ℕ → Bool
  Found test place = meets test (alive_at p ticks entered ordered place)

  first_of : (test : Order → Bool) (c : Bool) (order : Order) (others : List Order)
      → list_any test (if c then order ∷ others else others) ≡ (meets test (if c then Some order else None) || list_any test others)
  first_of test true order others = refl
  first_of test false order others = refl

  living_from : (test : Order → Bool) (before later : List Op) → before ++ later ≡ p
      → (any_upto (Found test) (length before) || list_any test (living (entries p) later)) ≡ any_upto (Found test) (length p)
  living_from test before [] is = or_false (any_upto (Found test) (length before)) ∙ ap (λ (xs : List Op). any_upto (Found test) (length xs)) (sym (append-nil before) ∙ is)
  living_from test before (op ∷ later) is =
      let long : length (before ++ op ∷ []) ≡ suc (length before) = length-append before (op ∷ []) ∙ omega arith in
      let next = living_from test (before ++ op ∷ []) later (append_assoc before (op ∷ []) later ∙ is) in
      let at : slice_get p (length before) ≡ Some op = ap (λ xs. slice_get xs (length before)) (sym is) ∙ there before op later in
      by_op op is at (ap (λ n. any_upto (Found test) n || list_any test (living (entries p) later)) (sym long) ∙ next)
    where
      by_op : (x : Op) → before ++ x ∷ later ≡ p → slice_get p (length before) ≡ Some x
          → ((Found test (suc (length before)) || any_upto (Found test) (length before)) || list_any test (living (entries p) later)) ≡ any_upto (Found test) (length p)
          → (any_upto (Found test) (length before) || list_any test (living (entries p) (x ∷ later))) ≡ any_upto (Found test) (length p)
      by_op (ops.Entry e) is at ih = sym (rw at refl) ∙ ih
      by_op (ops.Offload order) is at ih =
          rw (lives_there before order later is, first_of test ((ordered order.net order.ip == suc (length before)) && lives_at ticks entered (suc (length before)) order) order (living (entries p) later))
          (or_assoc (any_upto (Found test) (length before)) (meets test (if (ordered order.net order.ip == suc (length before)) && lives_at ticks entered (suc (length before)) order then Some order else None)) (list_any test (living (entries p) later))
          ∙ sym (rw at refl) ∙ ih)

  -- a live order by the definition is one by its place
  pub living_is : (test : Order → Bool) → list_any test (living (entries p) p) ≡ any_alive p ticks entered ordered test
  living_is test = living_from test [] p refl

-- ---- tests that agree on live orders

module _ (p : List Op) (ticks : ℕ) (entered : ℕ → ℕ) (ordered : ℕ → ℕ → ℕ) (f g : Order → Bool) (same : (o : Order) → nat_lt ticks o.until ≡ true → f o ≡ g o) where
  met_alike : (place : ℕ) (o : Option Order) → meets f (alive_by ticks entered ordered place o) ≡ meets g (alive_by ticks entered ordered place o)
  met_alike place None = refl
  met_alike place (Some o) =
      by_value (ordered o.net o.ip == place) (nat_le (entered o.net) place && nat_le (entered o.to_net) place) (nat_lt ticks o.until) refl
    where
      by_value : (a b c : Bool) → nat_lt ticks o.until ≡ c → meets f (if a && (b && c) then Some o else None) ≡ meets g (if a && (b && c) then Some o else None)
      by_value true true true e = same o e
      by_value true true false e = refl
      by_value true false c e = refl
      by_value false b c e = refl

  alike_upto : (n : ℕ) → any_upto (λ place. meets f (alive_at p ticks entered ordered place)) n ≡ any_upto (λ place. meets g (alive_at p ticks entered ordered place)) n
  alike_upto zero = refl
  alike_upto (suc n) = rw (met_alike (suc n) (order_at p (suc n)), alike_upto n) refl

  pub alike : any_alive p ticks entered ordered f ≡ any_alive p ticks entered ordered g
  alike = alike_upto (length p)

-- ---- what an operation ends

and_no : (b : Bool) → (b && false) ≡ false
and_no true = refl
and_no false = refl

and_yes : (b : Bool) → (b && true) ≡ b
and_yes true = refl
and_yes false = refl

not_within : (b t : Bool) → t ≡ true → not (not ((false || b) || false) && t) ≡ b
not_within true t e = refl
not_within false t e = rw e refl

-- at the tick at which an order is over it is so many ticks old
at_end : (ticks until : ℕ) → nat_lt ticks until ≡ true → not (nat_lt (ticks + 1) until) ≡ (until == ticks + 1)
at_end ticks until h =
    elim (cases_lt (ticks + 1) until) as (λ _. not (nat_lt (ticks + 1) until) ≡ (until == ticks + 1)) [
      | inl l ↦ rw (lt-ltb (ticks + 1) until l) (sym (ne_eqb until (ticks + 1) (λ e. omega (arith, l, e))))
      | inr l ↦ rw (le-ltb (ticks + 1) until l) (sym (eq-eqb until (ticks + 1) (omega (arith, l, ltb-true ticks until h))))
    ]

module _ (home : ℕ → Option ℕ) (net ticks : ℕ) (o : Order) (h : nat_lt ticks o.until ≡ true) (mine : o.net ≡ net) where
  entry_ends : (name : Option ℕ) → is_net name net ≡ false → not (not ((is_net name o.net || is_net name o.to_net) || false) && nat_lt (ticks + 0) o.until) ≡ is_net name o.to_net
  entry_ends name other =
      let same : ticks + 0 ≡ ticks = omega arith in
      rw (mine, other, same) (not_within (is_net name o.to_net) (nat_lt ticks o.until) h)

  ends_it : (op : Op) → is_net (own (named home op) op) net ≡ false → not (stays_by (named home op) op (ticks + ticks_of op) o) ≡ hits (named home op) op (ticks + ticks_of op) o
  ends_it (ops.Offload x) other =
      let same : ticks + 0 ≡ ticks = omega arith in
      rw (mine, other, same, h) refl
  ends_it (ops.Entry (AddNet n)) other = entry_ends (Some n) other
  ends_it (ops.Entry (AddVm vm n mac ip host)) other = entry_ends (Some n) other
  ends_it (ops.Entry (RemoveVm vm)) other = entry_ends (home vm) other
  ends_it (ops.Entry (Place vm host)) other = entry_ends (home vm) other
  ends_it (ops.Entry (AddRule n rule)) other = entry_ends (Some n) other
  ends_it (ops.Entry (DelRule n number)) other = entry_ends (Some n) other
  ends_it (ops.Entry (AddRoute n route)) other = entry_ends (Some n) other
  ends_it (ops.Entry (DelRoute n number)) other = entry_ends (Some n) other
  ends_it (ops.Entry Tick) other = at_end ticks o.until h

ended_is : (home : ℕ → Option ℕ) (op : Op) (net ticks : ℕ) (o : Order) → is_net (own (named home op) op) net ≡ false → nat_lt ticks o.until ≡ true
    → is_ended (named home op) op (ticks + ticks_of op) net o ≡ (hits (named home op) op (ticks + ticks_of op) o && (o.net == net))
ended_is home op net ticks o other h = by_value (o.net == net) refl
  where
    by_value : (b : Bool) → (o.net == net) ≡ b → (b && not (stays_by (named home op) op (ticks + ticks_of op) o)) ≡ (hits (named home op) op (ticks + ticks_of op) o && b)
    by_value true e = ends_it home net ticks o h (eqb-true o.net net e) op other ∙ sym (and_yes (hits (named home op) op (ticks + ticks_of op) o))
    by_value false e = sym (and_no (hits (named home op) op (ticks + ticks_of op) o))

-- the places written are those of the networks of which the operation ends an order
pub touches_same : (p : List Op) (op : Op) (ticks ticks2 : ℕ) (name : Option ℕ) (home : ℕ → Option ℕ) (entered : ℕ → ℕ) (ordered : ℕ → ℕ → ℕ) (here old : ℕ) (net : ℕ)
    → Keeps p ticks entered ordered → IsLog None (entries p) → ticks2 ≡ ticks + ticks_of op → name ≡ named home op
    → (if any_alive p ticks entered ordered (λ o. hits name op ticks2 o && (o.net == net)) then here else (if is_net (own name op) net then here else old))
    ≡ (if is_net (own name op) net then here else (if ends_by name op ticks2 (living (entries p) p) net then here else old))
touches_same p op ticks ticks2 name home entered ordered here old net k log ticks_are name_is =
    rw (ticks_are, name_is) (by_own (is_net (own (named home op) op) net) refl)
  where
    either : (b : Bool) → (if b then here else here) ≡ here
    either true = refl
    either false = refl

    by_own : (b : Bool) → is_net (own (named home op) op) net ≡ b
        → (if any_alive p ticks entered ordered (λ o. hits (named home op) op (ticks + ticks_of op) o && (o.net == net)) then here else (if b then here else old))
        ≡ (if b then here else (if ends_by (named home op) op (ticks + ticks_of op) (living (entries p) p) net then here else old))
    by_own true e = either (any_alive p ticks entered ordered (λ o. hits (named home op) op (ticks + ticks_of op) o && (o.net == net)))
    by_own false e =
        rw (
          living_is p ticks entered ordered k log (is_ended (named home op) op (ticks + ticks_of op) net),
          alike p ticks entered ordered (is_ended (named home op) op (ticks + ticks_of op) net) (λ o. hits (named home op) op (ticks + ticks_of op) o && (o.net == net)) (λ o h. ended_is home op net ticks o e h),
        ) refl

-- ---- how the ended ones are looked for

none_upto : (p : List Op) (ticks : ℕ) (entered : ℕ → ℕ) (ordered : ℕ → ℕ → ℕ) (n : ℕ) → any_upto (λ place. meets (λ o. false) (alive_at p ticks entered ordered place)) n ≡ false
none_upto p ticks entered ordered zero = refl
none_upto p ticks entered ordered (suc n) = rw (none_at (alive_at p ticks entered ordered (suc n)), none_upto p ticks entered ordered n) refl
  where
    none_at : (o : Option Order) → meets (λ o. false) o ≡ false
    none_at None = refl
    none_at (Some o) = refl

pub none_alive : (p : List Op) (ticks : ℕ) (entered : ℕ → ℕ) (ordered : ℕ → ℕ → ℕ) → any_alive p ticks entered ordered (λ o. false) ≡ false
none_alive p ticks entered ordered = none_upto p ticks entered ordered (length p)

eq_turned : (a b : ℕ) → (a == b) ≡ (b == a)
eq_turned a b = by_value (a == b) refl
  where
    by_value : (c : Bool) → (a == b) ≡ c → c ≡ (b == a)
    by_value true e = sym (eq-eqb b a (sym (eqb-true a b e)))
    by_value false e = sym (false_from_ne_true (b == a) (λ h. false≢true (sym e ∙ eq-eqb a b (sym (eqb-true b a h)))))

pub alive_into : (p : List Op) (ticks : ℕ) (entered : ℕ → ℕ) (ordered : ℕ → ℕ → ℕ) (to net : ℕ)
    → any_alive p ticks entered ordered (λ o. (o.to_net == to) && (o.net == net)) ≡ any_alive p ticks entered ordered (λ o. is_net (Some to) o.to_net && (o.net == net))
alive_into p ticks entered ordered to net = alike p ticks entered ordered (λ o. (o.to_net == to) && (o.net == net)) (λ o. is_net (Some to) o.to_net && (o.net == net)) (λ o h. rw (eq_turned o.to_net to) refl)

-- no order into the network lives before the network's last entry
pub into_past : (p : List Op) (ticks : ℕ) (entered : ℕ → ℕ) (ordered : ℕ → ℕ → ℕ) (to : ℕ) → IsNoneBelow (λ o. o.to_net) p ticks entered ordered to (entered to)
into_past p ticks entered ordered to place order below is to_is = at_order (order_at p place) is
  where
    at_order : (o : Option Order) → alive_by ticks entered ordered place o ≡ Some order → ⊥
    at_order None e = cc e
    at_order (Some x) e = by_values (ordered x.net x.ip == place) (nat_le (entered x.net) place) (nat_le (entered x.to_net) place) (nat_lt ticks x.until) refl e
      where
        by_values : (a b c d : Bool) → nat_le (entered x.to_net) place ≡ c → (if a && ((b && c) && d) then Some x else None) ≡ Some order → ⊥
        by_values true true true true f g =
            let same : x ≡ order = cc g in
            let late : entered to ≤ place = subst (λ n. entered n ≤ place) (ap (λ (y : Order). y.to_net) same ∙ to_is) (leb-true (entered x.to_net) place f) in
            omega (arith, below, late)
        by_values true true true false f g = cc g
        by_values true true false d f g = cc g
        by_values true false c d f g = cc g
        by_values false b c d f g = cc g

-- what an entry ends that is no tick
pub hits_into : (name : Option ℕ) (op : Op) (e : Entry) (ticks : ℕ) (o : Order) → op ≡ ops.Entry e → (e ≡ Tick → ⊥) → hits name op ticks o ≡ is_net name o.to_net
hits_into name op e ticks o is other = ap (λ x. hits name x ticks o) is ∙ by_entry e other
  where
    by_entry : (x : Entry) → (x ≡ Tick → ⊥) → hits name (ops.Entry x) ticks o ≡ is_net name o.to_net
    by_entry (AddNet n) f = refl
    by_entry (AddVm vm n mac ip host) f = refl
    by_entry (RemoveVm vm) f = refl
    by_entry (Place vm host) f = refl
    by_entry (AddRule n rule) f = refl
    by_entry (DelRule n number) f = refl
    by_entry (AddRoute n route) f = refl
    by_entry (DelRoute n number) f = refl
    by_entry Tick f = absurd (f refl)
