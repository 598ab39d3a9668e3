-- How the rules of networks follow one entry more.
use Rattle.std.proofs.Common.{◌≡◌, ℕ, ◌<◌, ◌≤◌, ◌⊎◌, Bool, true, false, ◌&&◌, ◌||◌, not, List, [], ◌∷◌, ◌++◌, Option, Some, None, nat_eq, cond, refl, ap, sym, ◌∙◌, subst, append-nil, arith, inl, inr}
use Rattle.std.specs.Prelude.{if◌then◌else◌, ◌==◌, nat_lt}
use Rattle.std.specs.List.{list_any, filter, find}
use Rattle.std.proofs.lemmas.Bool.{eqb-true, eq-eqb, ne_eqb, lt-ltb, le-ltb, cases_order, false≢true}
use Rattle.std.specs.HashMap.{HashMap}
use Rattle.std.specs.declared.hash.FoldHasher.{FoldHasher}
use Rattle.std.specs.declared.hash.BuildHasherDefault.{BuildHasherDefault}
use Rattle.and_policy.specs.declared.entry.Entry.{Entry}
use Rattle.and_policy.specs.declared.entry.Entry.TheVariants.{AddNet, AddVm, RemoveVm, Place, AddRule, DelRule, AddRoute, DelRoute, Tick}
use Rattle.and_policy.specs.declared.entry.Rule.{Rule}
use Rattle.and_policy.specs.Egress.{rule_before, verdict, verdict_by}
use Rattle.and_policy.specs.Fitting.{fits}
use Rattle.and_policy.specs.Logs.{rules, has_rule}
use Rattle.and_policy.specs.Numbered.{less}
use Rattle.and_policy.specs.Once.{Once}
use Rattle.and_policy.specs.Sorting.{IsOrder, place, sorted, Ascends, Differ}
use Rattle.and_policy.specs.declared.packet.Tuple.{Tuple}
use Rattle.and_policy.specs.declared.entry.Side.{Side}
use Rattle.and_policy.specs.Matching.{better, least, matches, is_side}
use Rattle.and_policy.proofs.Appends.{rules-append, rules-removed}
use Rattle.and_policy.proofs.Sorted.{sorted_more, sorted_filter, differ, ascends, first_best, first_is_least}
use Rattle.and_policy.proofs.Unique.{once_last, once_filter}
use Rattle.and_tables.specs.declared.rulebook.Rulebook.{Rulebook}
use Rattle.and_tables.specs.Books.{IsRulebook, rules_at}

abbrev Book : Type 0
Book = HashMap ℕ (List Rule) (BuildHasherDefault FoldHasher)

abbrev is_number : ℕ → Rule → Bool
is_number n r = r.number == n

-- ---- the order of rules

abbrev by_parts : ℕ → ℕ → ℕ → ℕ → Bool
by_parts p q m n = nat_lt p q || ((p == q) && nat_lt m n)

first : (p q m n : ℕ) → p < q → by_parts p q m n ≡ true
first p q m n h = rw (lt-ltb p q h) refl

second : (p q m n : ℕ) → p ≡ q → m < n → by_parts p q m n ≡ true
second p q m n e h = rw (le-ltb p q (omega arith), eq-eqb p q e, lt-ltb m n h) refl

not_first : (p q m n : ℕ) → q < p → by_parts p q m n ≡ false
not_first p q m n h = rw (le-ltb p q (omega arith), ne_eqb p q (λ e. omega arith)) refl

not_second : (p q m n : ℕ) → p ≡ q → n ≤ m → by_parts p q m n ≡ false
not_second p q m n e h = rw (le-ltb p q (omega arith), eq-eqb p q e, le-ltb m n h) refl

-- by cases of both parts
told : (p q m n : ℕ) → by_parts p q m n ≡ true → (p < q) ⊎ ((p ≡ q) × (m < n))
told p q m n h = elim (cases_order p q) as (λ _. (p < q) ⊎ ((p ≡ q) × (m < n))) [
  | inl e ↦ elim (cases_order m n) as (λ _. (p < q) ⊎ ((p ≡ q) × (m < n))) [
    | inl f ↦ absurd (false≢true (sym (not_second p q m n e (omega arith)) ∙ h))
    | inr o ↦ elim o as (λ _. (p < q) ⊎ ((p ≡ q) × (m < n))) [
      | inl l ↦ inr (e, l)
      | inr l ↦ absurd (false≢true (sym (not_second p q m n e (omega arith)) ∙ h))
    ]
  ]
  | inr o ↦ elim o as (λ _. (p < q) ⊎ ((p ≡ q) × (m < n))) [
    | inl l ↦ inl l
    | inr l ↦ absurd (false≢true (sym (not_first p q m n l) ∙ h))
  ]
]

backward : (p q m n : ℕ) → by_parts p q m n ≡ true → by_parts q p n m ≡ false
backward p q m n h = elim (told p q m n h) as (λ _. by_parts q p n m ≡ false) [
  | inl l ↦ not_first q p n m l
  | inr e ↦ not_second q p n m (sym e.0) (omega (arith, e.1))
]

through : (p q r m n o : ℕ) → by_parts p q m n ≡ true → by_parts q r n o ≡ true → by_parts p r m o ≡ true
through p q r m n o h g = elim (told p q m n h) as (λ _. by_parts p r m o ≡ true) [
  | inl l ↦ elim (told q r n o g) as (λ _. by_parts p r m o ≡ true) [
    | inl k ↦ first p r m o (omega arith)
    | inr e ↦ first p r m o (omega (arith, e.0))
  ]
  | inr e ↦ elim (told q r n o g) as (λ _. by_parts p r m o ≡ true) [
    | inl k ↦ first p r m o (omega (arith, e.0))
    | inr f ↦ second p r m o (e.0 ∙ f.0) (omega (arith, e.1, f.1))
  ]
]

either : (p q m n : ℕ) → (m ≡ n → ⊥) → by_parts p q m n ≡ false → by_parts q p n m ≡ true
either p q m n d h = elim (cases_order p q) as (λ _. by_parts q p n m ≡ true) [
  | inl e ↦ elim (cases_order m n) as (λ _. by_parts q p n m ≡ true) [
    | inl f ↦ absurd (d f)
    | inr o ↦ elim o as (λ _. by_parts q p n m ≡ true) [
      | inl l ↦ absurd (false≢true (sym h ∙ second p q m n e l))
      | inr l ↦ second q p n m (sym e) l
    ]
  ]
  | inr o ↦ elim o as (λ _. by_parts q p n m ≡ true) [
    | inl l ↦ absurd (false≢true (sym h ∙ first p q m n l))
    | inr l ↦ first q p n m l
  ]
]

pub rule_order : IsOrder rule_before (λ r. r.number)
rule_order = record {
  asym = λ x y h. backward x.priority y.priority x.number y.number h;
  trans = λ x y z h g. through x.priority y.priority z.priority x.number y.number z.number h g;
  total = λ x y d h. either x.priority y.priority x.number y.number d h;
}

-- ---- what an entry that fits says

passed : {F : Type 0} (b : Bool) (f : F) (rest : Option F) → (if b then Some f else rest) ≡ None → (b ≡ false) × (rest ≡ None)
passed true f rest h = absurd (cc)
passed false f rest h = (refl, h)

fresh : (k : List Entry) (net : ℕ) (rule : Rule) → fits None k (AddRule net rule) ≡ None → has_rule k net rule.number ≡ false
fresh k net rule fit = (passed _ _ _ (passed _ _ _ fit).1).0

-- ---- a rule more, a rule less

more_in : (same : Bool) (old new here : List Rule) (xs : List Rule) (rule : Rule) → (same ≡ true → list_any (is_number rule.number) xs ≡ false) → old ≡ sorted rule_before xs
    → new ≡ cond same (place rule_before rule here) old → (same ≡ true → here ≡ old) → new ≡ sorted rule_before (xs ++ (if same && true then rule ∷ [] else []))
more_in false old new here xs rule n a b c = rw (append-nil xs) (b ∙ a)
more_in true old new here xs rule n a b c = rw (sorted_more rule_before (λ (r : Rule). r.number) rule_order xs rule (n refl)) (b ∙ ap (place rule_before rule) (c refl ∙ a))

once_more : (same : Bool) (xs : List Rule) (number : ℕ) (rule : Rule) → Once (is_number number) xs → (same ≡ true → (rule.number == number) ≡ true → list_any (is_number number) xs ≡ false)
    → Once (is_number number) (xs ++ (if same && true then rule ∷ [] else []))
once_more true xs number rule o f = once_last (is_number number) xs rule o (f refl)
once_more false xs number rule o f = subst (Once (is_number number)) (sym (append-nil xs)) o

pub rulebook-more : (x y : Rulebook) (k : List Entry) (net : ℕ) (rule : Rule) → fits None k (AddRule net rule) ≡ None → IsRulebook x k
    → ((q : ℕ) → rules_at y.nets q ≡ cond (nat_eq net q) (place rule_before rule (rules_at x.nets net)) (rules_at x.nets q)) → IsRulebook y (k ++ AddRule net rule ∷ [])
rulebook-more x y k net rule fit is put =
    let new : (q : ℕ) → (net == q) ≡ true → list_any (is_number rule.number) (rules k q) ≡ false =
    λ q e. subst (λ (i : ℕ). list_any (is_number rule.number) (rules k i) ≡ false) (eqb-true net q e) (fresh k net rule fit) in
    let free : (q number : ℕ) → (net == q) ≡ true → (rule.number == number) ≡ true → list_any (is_number number) (rules k q) ≡ false =
    λ q number e f. subst (λ (i : ℕ). list_any (is_number i) (rules k q) ≡ false) (eqb-true rule.number number f) (new q e) in
    record {
      lists = λ q. rw (rules-append k (AddRule net rule) q (λ _ _. refl))
          (more_in (net == q) (rules_at x.nets q) (rules_at y.nets q) (rules_at x.nets net) (rules k q) rule (new q) (is.lists q) (put q) (λ e. ap (rules_at x.nets) (eqb-true net q e)));
      once = λ q number. rw (rules-append k (AddRule net rule) q (λ _ _. refl)) (once_more (net == q) (rules k q) number rule (is.once q number) (free q number));
    }

less_in : (same : Bool) (old new here : List Rule) (xs : List Rule) (n : ℕ) → Differ (λ (r : Rule). r.number) xs → old ≡ sorted rule_before xs
    → new ≡ cond same (filter (λ r. not (r.number == n)) here) old → (same ≡ true → here ≡ old) → new ≡ sorted rule_before (less (λ r. r.number) same n xs)
less_in false old new here xs n d a b c = b ∙ a
less_in true old new here xs n d a b c =
    rw (sorted_filter rule_before (λ (r : Rule). r.number) rule_order (λ r. not (r.number == n)) xs d) (b ∙ ap (filter (λ r. not (r.number == n))) (c refl ∙ a))

once_less : (same : Bool) (xs : List Rule) (n number : ℕ) → Once (is_number number) xs → Once (is_number number) (less (λ r. r.number) same n xs)
once_less true xs n number o = once_filter (is_number number) (λ r. not (r.number == n)) xs o
once_less false xs n number o = o

pub rulebook-less : (x y : Rulebook) (k : List Entry) (net number : ℕ) → IsRulebook x k
    → ((q : ℕ) → rules_at y.nets q ≡ cond (nat_eq net q) (filter (λ r. not (r.number == number)) (rules_at x.nets net)) (rules_at x.nets q)) → IsRulebook y (k ++ DelRule net number ∷ [])
rulebook-less x y k net number is put =
    record {
      lists = λ q. rw (rules-removed k net number q)
          (less_in (net == q) (rules_at x.nets q) (rules_at y.nets q) (rules_at x.nets net) (rules k q) number (differ rule_before (λ (r : Rule). r.number) (rules k q) (is.once q)) (is.lists q) (put q) (λ e. ap (rules_at x.nets) (eqb-true net q e)));
      once = λ q n. rw (rules-removed k net number q) (once_less (net == q) (rules k q) number n (is.once q n));
    }

-- ---- other look-ups, other entries

pub rulebook-as : (x y : Rulebook) (k : List Entry) → ((q : ℕ) → rules_at y.nets q ≡ rules_at x.nets q) → IsRulebook x k → IsRulebook y k
rulebook-as x y k same is = record { lists = λ q. same q ∙ is.lists q; once = is.once }

rulebook_same : (x : Rulebook) (k : List Entry) (e : Entry) → ((net : ℕ) → rules (k ++ e ∷ []) net ≡ rules k net ++ []) → IsRulebook x k → IsRulebook x (k ++ e ∷ [])
rulebook_same x k e h is =
    let same : (net : ℕ) → rules (k ++ e ∷ []) net ≡ rules k net = λ net. h net ∙ append-nil (rules k net) in
    record { lists = λ q. rw (same q) (is.lists q); once = λ q number. rw (same q) (is.once q number) }

pub rulebook-other : (x : Rulebook) (k : List Entry) (e : Entry) → ((net : ℕ) (rule : Rule) → e ≡ AddRule net rule → ⊥) → ((net number : ℕ) → e ≡ DelRule net number → ⊥)
    → IsRulebook x k → IsRulebook x (k ++ e ∷ [])
rulebook-other x k (AddRule net rule) a b is = absurd (a net rule refl)
rulebook-other x k (DelRule net number) a b is = absurd (b net number refl)
rulebook-other x k (AddNet n) a b is = rulebook_same x k (AddNet n) (λ net. rules-append k (AddNet n) net (λ _ _. refl)) is
rulebook-other x k (AddVm vm n mac ip host) a b is = rulebook_same x k (AddVm vm n mac ip host) (λ net. rules-append k (AddVm vm n mac ip host) net (λ _ _. refl)) is
rulebook-other x k (RemoveVm vm) a b is = rulebook_same x k (RemoveVm vm) (λ net. rules-append k (RemoveVm vm) net (λ _ _. refl)) is
rulebook-other x k (Place vm host) a b is = rulebook_same x k (Place vm host) (λ net. rules-append k (Place vm host) net (λ _ _. refl)) is
rulebook-other x k (AddRoute n route) a b is = rulebook_same x k (AddRoute n route) (λ net. rules-append k (AddRoute n route) net (λ _ _. refl)) is
rulebook-other x k (DelRoute n number) a b is = rulebook_same x k (DelRoute n number) (λ net. rules-append k (DelRoute n number) net (λ _ _. refl)) is
rulebook-other x k Tick a b is = rulebook_same x k Tick (λ net. rules-append k Tick net (λ _ _. refl)) is

-- ---- what the rules in order say

whole : (xs : List Rule) → filter (λ _. true) xs ≡ xs
whole [] = refl
whole (x ∷ xs) = ap (λ ys. x ∷ ys) (whole xs)

least_first : (ys : List Rule) → Ascends rule_before ys → least rule_before ys ≡ find (λ _. true) ys
least_first [] a = refl
least_first (y ∷ ys) a =
    ap (λ (r : Rule). Some r) (ap (better rule_before y) (least_first ys a.1) ∙ first_best rule_before (λ (r : Rule). r.number) rule_order (λ _. true) y ys a.0)

least_sorted : (xs : List Rule) → Differ (λ (r : Rule). r.number) xs → least rule_before (sorted rule_before xs) ≡ least rule_before xs
least_sorted xs d =
    least_first (sorted rule_before xs) (ascends rule_before (λ (r : Rule). r.number) rule_order xs d)
    ∙ first_is_least rule_before (λ (r : Rule). r.number) rule_order (λ _. true) xs d ∙ ap (least rule_before) (whole xs)

pub rulebook-verdict : (x : Rulebook) (k : List Entry) (net : ℕ) (side : Side) (t : Tuple) → IsRulebook x k → verdict side t (sorted rule_before (rules k net)) ≡ verdict side t (rules k net)
rulebook-verdict x k net side t is =
    let m : Rule → Bool = λ rule. is_side rule.side side && matches t rule in
    ap (verdict_by side)
    (ap (least rule_before) (sym (sorted_filter rule_before (λ (r : Rule). r.number) rule_order (λ rule. is_side rule.side side && matches t rule) (rules k net) (differ rule_before (λ (r : Rule). r.number) (rules k net) (is.once net))))
    ∙ least_sorted (filter (λ rule. is_side rule.side side && matches t rule) (rules k net))
    (differ rule_before (λ (r : Rule). r.number) (filter (λ rule. is_side rule.side side && matches t rule) (rules k net)) (λ n. once_filter (is_number n) (λ rule. is_side rule.side side && matches t rule) (rules k net) (is.once net n))))
