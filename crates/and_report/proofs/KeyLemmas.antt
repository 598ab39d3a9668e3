-- Keys in order, counted, with one key more.
use Rattle.std.proofs.Common.{◌≡◌, ℕ, ◌+◌, Bool, true, false, ◌&&◌, ◌||◌, List, [], ◌∷◌, map, cond, Option, Some, unwrap_or, refl, ap, ap₂, sym, ◌∙◌, subst, arith, add-zero}
use Rattle.std.specs.Prelude.{◌==◌, nat_lt, if◌then◌else◌}
use Rattle.std.specs.List.{AllByRecursion, flat_map}
use Rattle.std.proofs.lemmas.List.Folds.{flat_map-map}
use Rattle.std.specs.Cmp.{IsTotalOrder}
use Rattle.std.specs.declared.cmp.Ordering.{Ordering}
use Rattle.std.specs.declared.cmp.Ordering.TheVariants.{Less, Equal, Greater}
use Rattle.std.specs.Ordering.{ordering_then, match_ordering, is_eq}
use Rattle.std.specs.BTreeMap.{insert_entry, is_at}
use Rattle.std.specs.Map.{keys_of, lookup}
use Rattle.std.specs.List.Sorted.{IsStrictlySortedBy}
use Rattle.std.proofs.lemmas.Map.{NonePasses}
use Rattle.std.proofs.lemmas.Map.Entries.{none_below_head}
use Rattle.std.proofs.lemmas.Map.Keys.{sorted_head, sorted_tail}
use Rattle.std.proofs.lemmas.Cmp.{nat_cmp_total, on_total, then_total}
use Rattle.and_report.specs.declared.fate.Key.{Key}
use Rattle.and_report.specs.declared.fate.Stage.{Stage}
use Rattle.and_report.specs.Report.{same_key, key_before, with_key, in_order, count_key, keyed_lines}
use Rattle.and_report.specs.Keys.{pair_cmp, pair_of, entry_by, tallied, entry_line, stage_line}
use Rattle.std.proofs.lemmas.Bool.Decides.{nat_tests}
use Rattle.and_report.specs.Counts.{one}
use Rattle.and_report.proofs.Counting.{count_next}

pub pair_total : IsTotalOrder pair_cmp
pair_total = then_total (on_total (λ (p : ℕ × ℕ). p.0) nat_cmp_total) (on_total (λ (p : ℕ × ℕ). p.1) nat_cmp_total)

-- ---- tests of keys

exclusive : (a b : ℕ) → nat_lt a b ≡ true → (a == b) ≡ false
exclusive a b h = grind (arith, nat_tests)

no_both : {A : Type 0} → (true ≡ true → true ≡ false) → A
no_both h = let e : true ≡ false = h refl in absurd (cc)

-- an order by two numbers, from their tests
by_tests : Bool → Bool → Bool → Bool → Ordering
by_tests lt eq lt' eq' = ordering_then (cond lt Less (cond eq Equal Greater)) (cond lt' Less (cond eq' Equal Greater))

chosen : {X : Type 0} (lt eq lt' eq' : Bool) → (lt ≡ true → eq ≡ false) → (lt' ≡ true → eq' ≡ false) → (less equal greater : X)
    → (if eq && eq' then equal else (if lt || (eq && lt') then less else greater)) ≡ match_ordering (by_tests lt eq lt' eq') less equal greater
unfolding by_tests
chosen true true lt' eq' h h' less equal greater = no_both h
chosen true false lt' eq' h h' less equal greater = refl
chosen false true true true h h' less equal greater = no_both h'
chosen false true true false h h' less equal greater = refl
chosen false true false true h h' less equal greater = refl
chosen false true false false h h' less equal greater = refl
chosen false false lt' eq' h h' less equal greater = refl

tied : (lt eq lt' eq' : Bool) → (lt ≡ true → eq ≡ false) → (lt' ≡ true → eq' ≡ false) → is_eq (by_tests lt eq lt' eq') ≡ (eq && eq')
unfolding by_tests
tied true true lt' eq' h h' = no_both h
tied true false lt' eq' h h' = refl
tied false true true true h h' = no_both h'
tied false true true false h h' = refl
tied false true false true h h' = refl
tied false true false false h h' = refl
tied false false lt' eq' h h' = refl

-- the keys' order picks what their tests pick
picks : {X : Type 0} (k x : Key) (less equal greater : X)
    → (if same_key k x then equal else (if key_before k x then less else greater)) ≡ match_ordering (pair_cmp (pair_of k) (pair_of x)) less equal greater
unfolding by_tests
picks k x less equal greater =
    chosen (nat_lt k.net x.net) (k.net == x.net) (nat_lt k.number x.number) (k.number == x.number) (exclusive k.net x.net) (exclusive k.number x.number) less equal greater

at_is : (k x : Key) → is_at (pair_cmp (pair_of k)) (pair_of x) ≡ same_key k x
unfolding by_tests
at_is k x = tied (nat_lt k.net x.net) (k.net == x.net) (nat_lt k.number x.number) (k.number == x.number) (exclusive k.net x.net) (exclusive k.number x.number)

eq_sym : (a b : ℕ) → (a == b) ≡ (b == a)
eq_sym a b = grind (arith, nat_tests)

same_sym : (k x : Key) → same_key k x ≡ same_key x k
same_sym k x = ap₂ (λ a b. a && b) (eq_sym k.net x.net) (eq_sym k.number x.number)

both_true : (a b : Bool) → (a && b) ≡ true → (a ≡ true) × (b ≡ true)
both_true true b h = (refl, h)
both_true false b h = absurd (cc)

number_is : (a b : ℕ) → (a == b) ≡ true → a ≡ b
number_is a b h = grind (arith, nat_tests)

-- keys that the test does not tell apart are one
same_is : (k x : Key) → same_key k x ≡ true → k ≡ x
same_is k x h =
    let (nets, numbers) = both_true (k.net == x.net) (k.number == x.number) h in
    let make : ℕ → ℕ → Key = λ a b. record { net = a; number = b } in
    ap₂ make (number_is k.net x.net nets) (number_is k.number x.number numbers)

-- ---- how often a key stands in a list

abbrev pub Lacks : Key → List Key → Type 0
Lacks k xs = AllByRecursion (λ x. same_key k x ≡ false) xs

lacks_by : (k y x : Key) (xs : List Key) (same before : Bool) → same_key y x ≡ same
    → (Lacks k (with_key y xs) → (same_key k y ≡ false) × Lacks k xs)
    → Lacks k (if same then x ∷ xs else (if before then y ∷ x ∷ xs else x ∷ with_key y xs))
    → (same_key k y ≡ false) × Lacks k (x ∷ xs)
lacks_by k y x xs true before is rest h = (ap (same_key k) (same_is y x is) ∙ h.0, h)
lacks_by k y x xs false true is rest h = h
lacks_by k y x xs false false is rest h = let r = rest h.1 in (r.0, (h.0, r.1))

lacks_with : (k y : Key) (xs : List Key) → Lacks k (with_key y xs) → (same_key k y ≡ false) × Lacks k xs
lacks_with k y [] h = h
lacks_with k y (x ∷ xs) h = lacks_by k y x xs (same_key y x) (key_before y x) refl (lacks_with k y xs) h

lacks_none : (k : Key) (keys : List Key) → Lacks k (in_order keys) → count_key k keys ≡ 0
lacks_none k [] h = refl
lacks_none k (y ∷ keys) h =
    let (apart, rest) = lacks_with k y (in_order keys) h in
    count_next (same_key k) y keys ∙ ap₂ (λ n b. n + one b) (lacks_none k keys rest) apart

found_by : (k x : Key) (count : Key → ℕ) (rest : Option ℕ) (same : Bool) → same_key k x ≡ same → (same ≡ false → unwrap_or rest 0 ≡ count k)
    → unwrap_or (cond same (Some (count x)) rest) 0 ≡ count k
found_by k x count rest true is h = ap count (sym (same_is k x is))
found_by k x count rest false is h = h refl

-- the count at a key
found : (k : Key) (count : Key → ℕ) (xs : List Key) → (Lacks k xs → count k ≡ 0) → unwrap_or (lookup (is_at (pair_cmp (pair_of k))) (map (entry_by count) xs)) 0 ≡ count k
found k count [] h = sym (h tt)
found k count (x ∷ xs) h =
    let rest : Option ℕ = lookup (is_at (pair_cmp (pair_of k))) (map (entry_by count) xs) in
    ap (λ b. unwrap_or (cond b (Some (count x)) rest) 0) (at_is k x)
    ∙ found_by k x count rest (same_key k x) refl (λ apart. found k count xs (λ lacks. h (apart, lacks)))

pub count_found : (k : Key) (keys : List Key) → unwrap_or (lookup (is_at (pair_cmp (pair_of k))) (tallied keys)) 0 ≡ count_key k keys
count_found k keys = found k (λ x. count_key x keys) (in_order keys) (lacks_none k keys)

-- ---- one key more

abbrev pub Alike : Key → (Key → ℕ) → (Key → ℕ) → Type 0
Alike k f g = (x : Key) → same_key k x ≡ false → f x ≡ g x

alike_entries : (k : Key) (f g : Key → ℕ) → Alike k f g → (xs : List Key) → NonePasses (is_at (pair_cmp (pair_of k))) (map (entry_by f) xs) → map (entry_by f) xs ≡ map (entry_by g) xs
alike_entries k f g alike [] h = refl
alike_entries k f g alike (x ∷ xs) h =
    let here : f x ≡ g x = alike x (sym (at_is k x) ∙ h.0) in
    ap₂ (λ n l. (pair_of x, n) ∷ l) here (alike_entries k f g alike xs h.1)

none_after : (k x : Key) (f : Key → ℕ) → pair_of k ≡ pair_of x → (xs : List Key) → AllByRecursion (λ y. pair_cmp (pair_of x) y ≡ Less) (keys_of (map (entry_by f) xs))
    → NonePasses (is_at (pair_cmp (pair_of k))) (map (entry_by f) xs)
none_after k x f is [] h = tt
none_after k x f is (y ∷ xs) h = (ap (λ p. is_eq (pair_cmp p (pair_of y))) is ∙ ap is_eq h.0, none_after k x f is xs h.1)

abbrev pub Sorted : (Key → ℕ) → List Key → Type 0
Sorted f xs = IsStrictlySortedBy pair_cmp (keys_of (map (entry_by f) xs))

entry_next : (k x : Key) (f g : Key → ℕ) (xs : List Key) → Alike k f g → Sorted f (x ∷ xs)
    → insert_entry pair_cmp (map (entry_by f) xs) (pair_of k) (g k) ≡ map (entry_by g) (with_key k xs)
    → (o : Ordering) → pair_cmp (pair_of k) (pair_of x) ≡ o
    → match_ordering o ((pair_of k, g k) ∷ map (entry_by f) (x ∷ xs)) ((pair_of x, g k) ∷ map (entry_by f) xs)
    ((pair_of x, f x) ∷ insert_entry pair_cmp (map (entry_by f) xs) (pair_of k) (g k))
    ≡ map (entry_by g) (match_ordering o (k ∷ x ∷ xs) (x ∷ xs) (x ∷ with_key k xs))
entry_next k x f g xs alike sorted rest Less is =
    ap (λ l. (pair_of k, g k) ∷ l) (alike_entries k f g alike (x ∷ xs) (none_below_head pair_total (pair_of k) (entry_by f x) (map (entry_by f) xs) sorted is))
entry_next k x f g xs alike sorted rest Equal is =
    let same : k ≡ x = same_is k x (sym (at_is k x) ∙ ap is_eq is) in
    let after : NonePasses (is_at (pair_cmp (pair_of k))) (map (entry_by f) xs) = none_after k x f (ap pair_of same) xs (sorted_head pair_cmp (pair_of x) (keys_of (map (entry_by f) xs)) sorted) in
    ap₂ (λ n l. (pair_of x, n) ∷ l) (ap g same) (alike_entries k f g alike xs after)
entry_next k x f g xs alike sorted rest Greater is =
    ap₂ (λ n l. (pair_of x, n) ∷ l) (alike x (sym (at_is k x) ∙ ap is_eq is)) rest

entries_next : (k : Key) (f g : Key → ℕ) → Alike k f g → (xs : List Key) → Sorted f xs
    → insert_entry pair_cmp (map (entry_by f) xs) (pair_of k) (g k) ≡ map (entry_by g) (with_key k xs)
entries_next k f g alike [] sorted = refl
entries_next k f g alike (x ∷ xs) sorted =
    entry_next k x f g xs alike sorted (entries_next k f g alike xs (sorted_tail pair_cmp (pair_of x) (keys_of (map (entry_by f) xs)) sorted)) (pair_cmp (pair_of k) (pair_of x)) refl
    ∙ ap (map (entry_by g)) (sym (picks k x (k ∷ x ∷ xs) (x ∷ xs) (x ∷ with_key k xs)))

count_same : (k : Key) (keys : List Key) → count_key k (k ∷ keys) ≡ count_key k keys + 1
count_same k keys = count_next (same_key k) k keys ∙ ap (λ b. count_key k keys + one b) (self (k.net) (k.number))
  where
    self : (a b : ℕ) → ((a == a) && (b == b)) ≡ true
    self a b = grind (arith, nat_tests)

count_other : (k : Key) (keys : List Key) → Alike k (λ x. count_key x keys) (λ x. count_key x (k ∷ keys))
count_other k keys x apart =
    sym (add-zero (count_key x keys)) ∙ ap (λ b. count_key x keys + one b) (sym (same_sym x k ∙ apart)) ∙ sym (count_next (same_key x) k keys)

-- the tally of keys, of which one is put in front: a map's entries, in which that key's count is raised
pub tallied_next : (k : Key) (keys : List Key) (entries : List ((ℕ × ℕ) × ℕ)) (n : ℕ) → entries ≡ tallied keys → IsStrictlySortedBy pair_cmp (keys_of entries)
    → n ≡ unwrap_or (lookup (is_at (pair_cmp (pair_of k))) entries) 0 → insert_entry pair_cmp entries (pair_of k) (n + 1) ≡ tallied (k ∷ keys)
tallied_next k keys entries n is sorted count =
    let sorted_too : IsStrictlySortedBy pair_cmp (keys_of (tallied keys)) = subst (λ (l : List ((ℕ × ℕ) × ℕ)). IsStrictlySortedBy pair_cmp (keys_of l)) is sorted in
    let raised : n + 1 ≡ count_key k (k ∷ keys) =
    ap (λ m. m + 1) (count ∙ ap (λ (l : List ((ℕ × ℕ) × ℕ)). unwrap_or (lookup (is_at (pair_cmp (pair_of k))) l) 0) is ∙ count_found k keys) ∙ sym (count_same k keys) in
    ap₂ (λ l m. insert_entry pair_cmp l (pair_of k) m) is raised
    ∙ entries_next k (λ x. count_key x keys) (λ x. count_key x (k ∷ keys)) (count_other k keys) (in_order keys) sorted_too

-- the lines of keys, by the entries of their tally
pub keyed_text : (stage : Stage) (keys : List Key) → flat_map (entry_line stage) (tallied keys) ≡ keyed_lines (stage_line stage) keys
keyed_text stage keys = flat_map-map (entry_line stage) (entry_by (λ k. count_key k keys)) (in_order keys)
