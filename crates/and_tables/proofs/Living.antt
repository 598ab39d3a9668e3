-- The live orders after one operation more, and what it touches.
use Rattle.std.proofs.Common.{◌≡◌, ℕ, zero, suc, ◌+◌, ◌-◌, ◌<◌, ◌≤◌, Bool, true, false, ◌&&◌, ◌||◌, not, List, [], ◌∷◌, ◌++◌, length, take, Some, refl, ap, sym, ◌∙◌, arith, inl, inr, length-append}
use Rattle.std.specs.Prelude.{nat_lt, if◌then◌else◌, ◌==◌, slice_get}
use Rattle.std.specs.List.{list_any, filter}
use Rattle.std.proofs.lemmas.List.Folds.{list_any-append}
use Rattle.std.proofs.lemmas.List.{take-append-le, take_all}
use Rattle.std.proofs.Math.Seq.{take-length}
use Rattle.std.proofs.lemmas.Bool.{or_parts, and_parts, cases_Bool, eqb-true, eq-eqb, or_left, or_right, false_from_ne_true, false≢true, ltb-true, lt-ltb}
use Rattle.and_policy.specs.declared.entry.Entry.{Entry}
use Rattle.and_policy.specs.declared.entry.Op.{Op}
use Rattle.and_policy.specs.declared.entry.Op.TheVariants as ops
use Rattle.and_policy.specs.declared.entry.Order.{Order}
use Rattle.and_policy.specs.Programmes.{is_entry_of, is_order_of, ends, lives, living, entries, same_order, touches, touched}
use Rattle.and_policy.specs.Logs.{now}
use Rattle.and_tables.specs.Lasts.{Agree, stays, fresh, ends_of}

agree_any : (k k2 : List Entry) (order : Order) (later : List Op) → Agree k k2 later → list_any (ends k2 order) later ≡ list_any (ends k order) later
agree_any k k2 order [] a = refl
agree_any k k2 order (op ∷ later) a = rw (a.0 order.net, a.0 order.to_net, agree_any k k2 order later a.1) refl

stay : (a e t u : Bool) → (u ≡ true → t ≡ true) → (not (a || (e || false)) && u) ≡ ((not a && t) && (not e && u))
stay true e t u h = refl
stay false true true u h = refl
stay false true false u h = refl
stay false false true u h = refl
stay false false false true h = absurd (false≢true (h refl))
stay false false false false h = refl

sooner : (m n t : ℕ) → m ≤ n → nat_lt n t ≡ true → nat_lt m t ≡ true
sooner m n t h l = lt-ltb m t (omega (arith, ltb-true n t l))

lives_more : (k k2 : List Entry) (order : Order) (p : List Op) (op : Op) → Agree k k2 p → now k ≤ now k2
    → lives k2 order (p ++ op ∷ []) ≡ (lives k order p && stays k2 op order)
lives_more k k2 order p op a h =
    rw (list_any-append (ends k2 order) p (op ∷ []), agree_any k k2 order p a)
    (stay (list_any (ends k order) p) (ends k2 order op) (nat_lt (now k) order.until) (nat_lt (now k2) order.until) (sooner (now k) (now k2) order.until h))

keep : (b s : Bool) (test : Order → Bool) (order : Order) (orders more : List Order) → test order ≡ s
    → (if b && s then order ∷ (filter test orders ++ more) else filter test orders ++ more) ≡ filter test (if b then order ∷ orders else orders) ++ more
keep true true test order orders more t = rw t refl
keep true false test order orders more t = rw t refl
keep false s test order orders more t = refl

-- the central law: of the live orders those live on that the operation does not end, and its own comes last
pub living_more : (k k2 : List Entry) (p : List Op) (op : Op) → Agree k k2 p → now k ≤ now k2
    → living k2 (p ++ op ∷ []) ≡ filter (stays k2 op) (living k p) ++ fresh k2 op
living_more k k2 [] (ops.Entry entry) a h = refl
living_more k k2 [] (ops.Offload order) a h = refl
living_more k k2 (ops.Entry entry ∷ p) op a h = living_more k k2 p op a.1 h
living_more k k2 (ops.Offload order ∷ p) op a h =
    rw (lives_more k k2 order p op a.1 h, living_more k k2 p op a.1 h)
    (keep (lives k order p) (stays k2 op order) (stays k2 op) order (living k p) (fresh k2 op) refl)

-- ---- what has gone

abbrev order_of : ℕ → ℕ → ℕ → ℕ → ℕ → Order
order_of a b c d e = record { net = a; ip = b; to_net = c; to_host = d; until = e }

parts : (a b c d e f g h i j : ℕ) → a ≡ f → b ≡ g → c ≡ h → d ≡ i → e ≡ j
    → order_of a b c d e ≡ order_of f g h i j
parts a b c d e f g h i j p q r s t = cc

same_eq : (a b : Order) → same_order a b ≡ true → a ≡ b
same_eq a b h =
    let l1 = and_parts _ (a.until == b.until) h in
    let l2 = and_parts _ (a.to_host == b.to_host) l1.0 in
    let l3 = and_parts _ (a.to_net == b.to_net) l2.0 in
    let l4 = and_parts (a.net == b.net) (a.ip == b.ip) l3.0 in
    let e1 = eqb-true a.net b.net l4.0 in
    let e2 = eqb-true a.ip b.ip l4.1 in
    let e3 = eqb-true a.to_net b.to_net l3.1 in
    let e4 = eqb-true a.to_host b.to_host l2.1 in
    let e5 = eqb-true a.until b.until l1.1 in
    parts a.net a.ip a.to_net a.to_host a.until b.net b.ip b.to_net b.to_host b.until e1 e2 e3 e4 e5

same_self : (a : Order) → same_order a a ≡ true
same_self a = rw (eq-eqb a.net a.net refl, eq-eqb a.ip a.ip refl, eq-eqb a.to_net a.to_net refl, eq-eqb a.to_host a.to_host refl, eq-eqb a.until a.until refl) refl

and_false : (b : Bool) → (b && false) ≡ false
and_false true = refl
and_false false = refl

kept : (s : Order → Bool) (o x : Order) (rest : List Order) (here sx : Bool) → same_order o x ≡ here → s x ≡ sx
    → list_any (same_order o) (filter s rest) ≡ (list_any (same_order o) rest && s o)
    → list_any (same_order o) (filter s (x ∷ rest)) ≡ ((here || list_any (same_order o) rest) && s o)
kept s o x rest true true e f ih = rw f (rw e (sym f ∙ ap s (sym (same_eq o x e))))
kept s o x rest true false e f ih =
    let gone : s o ≡ false = ap s (same_eq o x e) ∙ f in
    rw f (ih ∙ ap (λ b. list_any (same_order o) rest && b) gone ∙ and_false _ ∙ sym gone)
kept s o x rest false true e f ih = rw f (rw e ih)
kept s o x rest false false e f ih = rw f ih

among_filter : (s : Order → Bool) (o : Order) (orders : List Order) → list_any (same_order o) (filter s orders) ≡ (list_any (same_order o) orders && s o)
among_filter s o [] = refl
among_filter s o (x ∷ rest) = kept s o x rest (same_order o x) (s x) refl refl (among_filter s o rest)

or_false : (b : Bool) → (b || false) ≡ b
or_false true = refl
or_false false = refl

-- each order is among itself and the others
abbrev AllIn : List Order → List Order → Type 0
AllIn all [] = Unit {0}
AllIn all (x ∷ xs) = (list_any (same_order x) all ≡ true) × AllIn all xs

in_more : (all xs : List Order) (y : Order) → AllIn all xs → AllIn (y ∷ all) xs
in_more all [] y a = tt
in_more all (x ∷ xs) y a = (or_right (same_order x y) (list_any (same_order x) all) a.0, in_more all xs y a.1)

in_itself : (xs : List Order) → AllIn xs xs
in_itself [] = tt
in_itself (x ∷ xs) = (or_left (same_order x x) (list_any (same_order x) xs) (same_self x), in_more xs xs x (in_itself xs))

-- an order of the network has gone exactly where it does not stay
pub gone : (s : Order → Bool) (net : ℕ) (all xs more : List Order) → AllIn all xs → ((o : Order) → o.net ≡ net → list_any (same_order o) more ≡ false)
    → list_any (λ o. (o.net == net) && not (list_any (same_order o) (filter s all ++ more))) xs ≡ list_any (λ o. (o.net == net) && not (s o)) xs
gone s net all [] more a none = refl
gone s net all (x ∷ xs) more a none =
    let rest = gone s net all xs more a.1 none in
    elim (cases_Bool (x.net == net)) as (λ _. list_any (λ o. (o.net == net) && not (list_any (same_order o) (filter s all ++ more))) (x ∷ xs) ≡ list_any (λ o. (o.net == net) && not (s o)) (x ∷ xs)) [
      | inl h ↦ rw (list_any-append (same_order x) (filter s all) more, none x (eqb-true x.net net h), among_filter s x all, a.0, or_false (s x), rest) refl
      | inr h ↦ rw (h, rest) refl
    ]

-- ---- touches

not_this : (b : Bool) (o order : Order) → (same_order o order ≡ true → ⊥) → list_any (same_order o) (if b then order ∷ [] else []) ≡ false
not_this true o order h = rw (false_from_ne_true (same_order o order) h) refl
not_this false o order h = refl

-- an order that the operation gives, where it gives none of this network, is none of the network's orders
not_fresh : (k2 : List Entry) (op : Op) (net : ℕ) → is_order_of net op ≡ false → (o : Order) → o.net ≡ net → list_any (same_order o) (fresh k2 op) ≡ false
not_fresh k2 (ops.Entry entry) net h o e = refl
not_fresh k2 (ops.Offload order) net h o e = not_this (nat_lt (now k2) order.until) o order (λ same. false≢true (sym h ∙ eq-eqb order.net net (sym (ap (λ x. x.net) (same_eq o order same)) ∙ e)))

or_same : (a b c : Bool) → (a ≡ false → b ≡ c) → (a || b) ≡ (a || c)
or_same true b c h = refl
or_same false b c h = h refl

seam : (p : List Op) (op : Op) → slice_get (p ++ op ∷ []) (length p) ≡ Some op
seam [] op = refl
seam (x ∷ p) op = seam p op

-- what the operation at the end touches, by the orders that lived before it
pub touches_more : (p : List Op) (op : Op) (net : ℕ) → Agree (entries p) (entries (p ++ op ∷ [])) p → now (entries p) ≤ now (entries (p ++ op ∷ []))
    → touches (p ++ op ∷ []) (suc (length p)) net ≡ ((is_entry_of (entries (p ++ op ∷ [])) net op || is_order_of net op) || ends_of (entries p) (entries (p ++ op ∷ [])) p op net)
touches_more p op net a h =
    let whole : take (suc (length p)) (p ++ op ∷ []) ≡ p ++ op ∷ [] = take_all (suc (length p)) (p ++ op ∷ []) (rw (length-append p (op ∷ [])) (omega arith)) in
    let front : take (length p) (p ++ op ∷ []) ≡ p = take-append-le (length p) p (op ∷ []) (omega arith) ∙ take-length p in
    let less : suc (length p) - 1 ≡ length p = omega arith in
    rw (less, whole, front, seam p op, living_more (entries p) (entries (p ++ op ∷ [])) p op a h)
    (or_same (is_entry_of (entries (p ++ op ∷ [])) net op || is_order_of net op) _ _
    (λ own. gone (stays (entries (p ++ op ∷ [])) op) net (living (entries p) p) (living (entries p) p) (fresh (entries (p ++ op ∷ [])) op) (in_itself (living (entries p) p)) (not_fresh (entries (p ++ op ∷ [])) op net (or_parts _ (is_order_of net op) own).1)))

-- the earlier places are as before
same_place : (r p : List Op) (net q : ℕ) → ((i : ℕ) → i ≤ q → take i r ≡ take i p) → slice_get r (q - 1) ≡ slice_get p (q - 1) → touches r q net ≡ touches p q net
same_place r p net q f g = rw (f q (omega arith), f (q - 1) (omega arith), g) refl

touched_same : (r p : List Op) (net j : ℕ) → ((i : ℕ) → i ≤ j → take i r ≡ take i p) → ((i : ℕ) → i < j → slice_get r i ≡ slice_get p i) → touched r j net ≡ touched p j net
touched_same r p net zero f g = refl
touched_same r p net (suc j) f g =
    rw (same_place r p net (suc j) f (g (suc j - 1) (omega arith)), touched_same r p net j (λ i h. f i (omega arith)) (λ i h. g i (omega arith))) refl

get_front : (p : List Op) (op : Op) (i : ℕ) → i < length p → slice_get (p ++ op ∷ []) i ≡ slice_get p i
get_front [] op i h = absurd (omega arith)
get_front (x ∷ p) op zero h = refl
get_front (x ∷ p) op (suc i) h = get_front p op i (omega arith)

pub touched_more : (p : List Op) (op : Op) (net : ℕ) → Agree (entries p) (entries (p ++ op ∷ [])) p → now (entries p) ≤ now (entries (p ++ op ∷ []))
    → touched (p ++ op ∷ []) (length (p ++ op ∷ [])) net
    ≡ (if (is_entry_of (entries (p ++ op ∷ [])) net op || is_order_of net op) || ends_of (entries p) (entries (p ++ op ∷ [])) p op net then length p + 1 else touched p (length p) net)
touched_more p op net a h =
    let long : length (p ++ op ∷ []) ≡ suc (length p) = length-append p (op ∷ []) ∙ omega arith in
    let one : length p + 1 ≡ suc (length p) = omega arith in
    rw (long, one, touches_more p op net a h, touched_same (p ++ op ∷ []) p net (length p) (λ i l. take-append-le i p (op ∷ []) l) (λ i l. get_front p op i l)) refl
