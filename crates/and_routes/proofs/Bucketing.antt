-- How the index of routes follows one entry more.
use Rattle.std.proofs.Common.{◌≡◌, ℕ, ◌≤◌, ◌-◌, ◌/◌, ◌^◌, Bool, true, false, ◌&&◌, not, List, [], ◌∷◌, ◌++◌, Option, Some, None, cond, unwrap_or, refl, ap, sym, ◌∙◌, subst, append-nil}
use Rattle.std.specs.Prelude.{if◌then◌else◌, ◌==◌, nat_le, length, option_map}
use Rattle.std.specs.List.{list_any, find, filter}
use Rattle.std.proofs.lemmas.Bool.{eqb-true, and_parts}
use Rattle.std.proofs.lemmas.List.Elements.{filter-append}
use Rattle.std.specs.HashMap as hash
use Rattle.std.specs.HashMap.{HashMap}
use Rattle.std.specs.declared.hash.FoldHasher.{FoldHasher}
use Rattle.std.specs.declared.hash.BuildHasherDefault.{BuildHasherDefault}
use Rattle.and_policy.specs.declared.entry.Entry.{Entry}
use Rattle.and_policy.specs.declared.entry.Entry.TheVariants.{AddNet, AddVm, RemoveVm, Place, AddRule, DelRule, AddRoute, DelRoute, Tick}
use Rattle.and_policy.specs.declared.entry.EntryFault.TheVariants.{NoNet, RouteTaken, TooMany}
use Rattle.and_policy.specs.declared.entry.Prefix.{Prefix}
use Rattle.and_policy.specs.declared.entry.Route.{Route}
use Rattle.and_policy.specs.Checks.{first_failing}
use Rattle.and_policy.specs.Fitting.{fits, no_peer}
use Rattle.and_policy.specs.Logs.{has_net, routes, has_route}
use Rattle.and_policy.specs.Numbered.{less}
use Rattle.and_policy.specs.Once.{Once}
use Rattle.and_policy.specs.Registers.{pair_eq}
use Rattle.and_policy.specs.Sorting.{place, sorted, smaller_route, Differ}
use Rattle.and_policy.proofs.Appends.{routes-append, routes-removed}
use Rattle.and_policy.proofs.Sorted.{sorted_more, sorted_filter, differ, route_order}
use Rattle.and_policy.proofs.Unique.{not_both, or_both, once_last, once_filter, found_more, found_less, found_meets, any_is_found}
use Rattle.and_routes.specs.declared.prefixes.Prefixes.{Prefixes}
use Rattle.and_routes.specs.Buckets.{IsPrefixes, in_bucket, bucket_at, key_eq, first_in}
use Rattle.and_routes.specs.Heads.{head}
use Rattle.and_routes.proofs.Lengths.{first_is}

abbrev Buckets : Type 0
Buckets = HashMap ((ℕ × ℕ) × ℕ) (List Route) (BuildHasherDefault FoldHasher)

abbrev Numbers : Type 0
Numbers = HashMap (ℕ × ℕ) Prefix (BuildHasherDefault FoldHasher)

abbrev is_number : ℕ → Route → Bool
is_number n r = r.number == n

passed : {F : Type 0} (b : Bool) (f : F) (rest : Option F) → (if b then Some f else rest) ≡ None → (b ≡ false) × (rest ≡ None)
passed true f rest h = absurd (cc)
passed false f rest h = (refl, h)

not_false : (b : Bool) → not b ≡ false → b ≡ true
not_false true h = refl
not_false false h = absurd (cc)

pub fresh : (k : List Entry) (net : ℕ) (route : Route) → fits None k (AddRoute net route) ≡ None → has_route k net route.number ≡ false
fresh k net route fit =
    let c1 = passed (not (has_net k net)) NoNet (first_failing ((no_peer k route.target, NoNet) ∷ (has_route k net route.number, RouteTaken) ∷ (nat_le 256 (length (routes k net)), TooMany) ∷ [])) fit in
    let c2 = passed (no_peer k route.target) NoNet (first_failing ((has_route k net route.number, RouteTaken) ∷ (nat_le 256 (length (routes k net)), TooMany) ∷ [])) c1.1 in
    (passed (has_route k net route.number) RouteTaken (first_failing ((nat_le 256 (length (routes k net)), TooMany) ∷ [])) c2.1).0

there : (k : List Entry) (net number : ℕ) → fits None k (DelRoute net number) ≡ None → has_route k net number ≡ true
there k net number fit = not_false _ (passed _ _ _ (passed _ _ _ fit).1).0

-- ---- filters and numbers

any_filter : (t g : Route → Bool) (xs : List Route) → list_any t xs ≡ false → list_any t (filter g xs) ≡ false
any_filter t g [] h = refl
any_filter t g (x ∷ xs) h =
    let parts = or_both (t x) (list_any t xs) h in
    at_first (g x) parts.0 (any_filter t g xs parts.1)
  where
    at_first : (b : Bool) → t x ≡ false → list_any t (filter g xs) ≡ false → list_any t (cond b (x ∷ filter g xs) (filter g xs)) ≡ false
    at_first true e ih = rw e ih
    at_first false e ih = ih

swapped : (f g : Route → Bool) (xs : List Route) → filter f (filter g xs) ≡ filter g (filter f xs)
swapped f g [] = refl
swapped f g (x ∷ xs) = at_first (f x) refl (g x) refl (swapped f g xs)
  where
    at_first : (a : Bool) → f x ≡ a → (b : Bool) → g x ≡ b → filter f (filter g xs) ≡ filter g (filter f xs)
        → filter f (cond b (x ∷ filter g xs) (filter g xs)) ≡ filter g (cond a (x ∷ filter f xs) (filter f xs))
    at_first true e true h ih = rw (e, h) (ap (λ ys. x ∷ ys) ih)
    at_first true e false h ih = rw h ih
    at_first false e true h ih = rw e ih
    at_first false e false h ih = ih

kept : (t : Route → Bool) (xs : List Route) → list_any t xs ≡ false → filter (λ x. not (t x)) xs ≡ xs
kept t [] h = refl
kept t (x ∷ xs) h =
    let parts = or_both (t x) (list_any t xs) h in
    rw parts.0 (ap (λ ys. x ∷ ys) (kept t xs parts.1))

-- the one of a number is not in a bucket that is not its own
not_in : (t g : Route → Bool) (xs : List Route) (v : Route) → find t xs ≡ Some v → Once t xs → g v ≡ false → list_any t (filter g xs) ≡ false
not_in t g [] v h o e = absurd (cc)
not_in t g (x ∷ xs) v h o e = at_first (t x) refl h (g x) refl (λ f. not_in t g xs v f o.1 e)
  where
    some_is : (a b : Route) → Some a ≡ Some b → a ≡ b
    some_is a b h = cc h

    at_first : (a : Bool) → t x ≡ a → cond a (Some x) (find t xs) ≡ Some v → (b : Bool) → g x ≡ b → (find t xs ≡ Some v → list_any t (filter g xs) ≡ false) → list_any t (cond b (x ∷ filter g xs) (filter g xs)) ≡ false
    at_first true f h true i ih = absurd (not_both (g x) i (ap g (some_is x v h) ∙ e))
    at_first true f h false i ih = any_filter t g xs (o.0 f)
    at_first false f h true i ih = rw f (ih h)
    at_first false f h false i ih = ih h

-- ---- a route more

more_in : (same here : Bool) (old new bucket : List Route) (xs : List Route) (g : Route → Bool) (route : Route) → g route ≡ here
    → Differ (λ (r : Route). r.number) (filter g xs) → (same ≡ true → list_any (is_number route.number) xs ≡ false)
    → old ≡ sorted smaller_route (filter g xs)
    → new ≡ cond (same && here) (place smaller_route route bucket) old → ((same && here) ≡ true → bucket ≡ old)
    → new ≡ sorted smaller_route (filter g (xs ++ (if same && true then route ∷ [] else [])))
more_in false here old new bucket xs g route e d n a b c = rw (append-nil xs) (b ∙ a)
more_in true false old new bucket xs g route e d n a b c = rw (filter-append g xs (route ∷ []), e, append-nil (filter g xs)) (b ∙ a)
more_in true true old new bucket xs g route e d n a b c =
    rw (filter-append g xs (route ∷ []), e, sorted_more smaller_route (λ (r : Route). r.number) route_order (filter g xs) route (any_filter (is_number route.number) g xs (n refl)))
    (b ∙ ap (place smaller_route route) (c refl ∙ a))

prefix_more : (same here : Bool) (old new : Option Prefix) (xs : List Route) (number : ℕ) (route : Route) → (route.number == number) ≡ here → (here ≡ true → same ≡ true → list_any (is_number number) xs ≡ false)
    → old ≡ option_map (λ (r : Route). r.prefix) (find (is_number number) xs) → new ≡ cond (same && here) (Some route.prefix) old
    → new ≡ option_map (λ (r : Route). r.prefix) (find (is_number number) (xs ++ (if same && true then route ∷ [] else [])))
prefix_more false here old new xs number route e n a b = rw (append-nil xs) (b ∙ a)
prefix_more true here old new xs number route e n a b = found_more (λ (r : Route). r.prefix) (is_number number) xs route here old new e (λ h. n h refl) a b

once_more : (same : Bool) (xs : List Route) (number : ℕ) (route : Route) → Once (is_number number) xs → (same ≡ true → (route.number == number) ≡ true → list_any (is_number number) xs ≡ false)
    → Once (is_number number) (xs ++ (if same && true then route ∷ [] else []))
once_more true xs number route o f = once_last (is_number number) xs route o (f refl)
once_more false xs number route o f = subst (Once (is_number number)) (sym (append-nil xs)) o

abbrev Key : Type 0
Key = (ℕ × ℕ) × ℕ

keys : (a b c d e f : ℕ) → a ≡ d → b ≡ e → c ≡ f → ◌≡◌ {A = Key} ((a, b), c) ((d, e), f)
keys a b c d e f x y z = rw (x, y, z) refl

same_key : (a b c d e f : ℕ) → key_eq ((a, b), c) ((d, e), f) ≡ true → ◌≡◌ {A = Key} ((a, b), c) ((d, e), f)
same_key a b c d e f h =
    let p = and_parts ((a == d) && (b == e)) (c == f) h in
    let q = and_parts (a == d) (b == e) p.0 in
    keys a b c d e f (eqb-true a d q.0) (eqb-true b e q.1) (eqb-true c f p.1)

-- what is taken out and put back unchanged
pub restored : (m n : Buckets) (a b c : ℕ) (xs : List Route) → ((q : Key) → bucket_at n q ≡ cond (key_eq ((a, b), c) q) xs (bucket_at m q)) → xs ≡ bucket_at m ((a, b), c)
    → (q : Key) → bucket_at n q ≡ bucket_at m q
restored m n a b c xs put is q = by_key (key_eq ((a, b), c) q) refl (put q)
  where
    by_key : (h : Bool) → key_eq ((a, b), c) q ≡ h → bucket_at n q ≡ cond h xs (bucket_at m q) → bucket_at n q ≡ bucket_at m q
    by_key true e f = f ∙ is ∙ ap (bucket_at m) (same_key a b c q.0.0 q.0.1 q.1 e)
    by_key false e f = f

chosen : (h : Bool) (xs : List Route) (mid old : Option (List Route)) → mid ≡ cond h None old → unwrap_or (cond h (Some xs) mid) [] ≡ cond h xs (unwrap_or old [])
chosen true xs mid old e = refl
chosen false xs mid old e = rw e refl

pub rewritten : (m mid n : Buckets) (key : Key) (xs : List Route) → ((q : Key) → hash.get key_eq mid q ≡ cond (key_eq key q) None (hash.get key_eq m q))
    → ((q : Key) → hash.get key_eq n q ≡ cond (key_eq key q) (Some xs) (hash.get key_eq mid q)) → (q : Key) → bucket_at n q ≡ cond (key_eq key q) xs (bucket_at m q)
rewritten m mid n key xs out put q = ap (λ o. unwrap_or o []) (put q) ∙ chosen (key_eq key q) xs (hash.get key_eq mid q) (hash.get key_eq m q) (out q)

key_parts : (same b c : Bool) → ((same && b) && c) ≡ (same && (b && c))
key_parts true b c = refl
key_parts false b c = refl

high_is : (n q len length high address number : ℕ) → (len ≤ 32 → high ≡ address / 2 ^ (32 - len)) → length ≤ 32
    → key_eq ((n, len), high) ((q, length), number) ≡ ((n == q) && ((len == length) && (address / 2 ^ (32 - length) == number)))
high_is n q len length high address number h within =
    key_parts (n == q) (len == length) (high == number) ∙ ap (λ b. (n == q) && b) (by_length (len == length) refl)
  where
    by_length : (b : Bool) → (len == length) ≡ b → (b && (high == number)) ≡ (b && (address / 2 ^ (32 - length) == number))
    by_length true e =
        let is : len ≡ length = eqb-true len length e in
        ap (λ i. i == number) (subst (λ (m : ℕ). high ≡ address / 2 ^ (32 - m)) is (h (subst (λ (m : ℕ). m ≤ 32) (sym is) within)))
    by_length false e = refl

pub prefixes-more : (x : Prefixes) (m : Buckets) (s : Numbers) (k : List Entry) (net high : ℕ) (route : Route)
    → (route.prefix.length ≤ 32 → high ≡ route.prefix.address / 2 ^ (32 - route.prefix.length)) → fits None k (AddRoute net route) ≡ None → IsPrefixes x k
    → ((q : (ℕ × ℕ) × ℕ) → bucket_at m q ≡ cond (key_eq ((net, route.prefix.length), high) q) (place smaller_route route (bucket_at x.buckets ((net, route.prefix.length), high))) (bucket_at x.buckets q))
    → ((q : ℕ × ℕ) → hash.get pair_eq s q ≡ cond (pair_eq (net, route.number) q) (Some route.prefix) (hash.get pair_eq x.prefixes q))
    → IsPrefixes (record { buckets = m; prefixes = s }) (k ++ AddRoute net route ∷ [])
prefixes-more x m s k net high route is_high fit is put noted =
    let new : (q : ℕ) → (net == q) ≡ true → list_any (is_number route.number) (routes k q) ≡ false =
    λ q e. subst (λ (i : ℕ). list_any (is_number route.number) (routes k i) ≡ false) (eqb-true net q e) (fresh k net route fit) in
    let free : (q number : ℕ) → (net == q) ≡ true → (route.number == number) ≡ true → list_any (is_number number) (routes k q) ≡ false =
    λ q number e f. subst (λ (i : ℕ). list_any (is_number i) (routes k q) ≡ false) (eqb-true route.number number f) (new q e) in
    record {
      buckets = λ q length number within.
          let key : key_eq ((net, route.prefix.length), high) ((q, length), number) ≡ ((net == q) && in_bucket length number route) =
          high_is net q route.prefix.length length high route.prefix.address number is_high within in
          rw (routes-append k (AddRoute net route) q (λ _ _. refl))
          (more_in (net == q) (in_bucket length number route) (bucket_at x.buckets ((q, length), number)) (bucket_at m ((q, length), number)) (bucket_at x.buckets ((net, route.prefix.length), high)) (routes k q) (in_bucket length number) route refl
          (differ smaller_route (λ (r : Route). r.number) (filter (in_bucket length number) (routes k q)) (λ i. once_filter (is_number i) (in_bucket length number) (routes k q) (is.once q i)))
          (new q) (is.buckets q length number within)
          (put ((q, length), number) ∙ ap (λ b. cond b (place smaller_route route (bucket_at x.buckets ((net, route.prefix.length), high))) (bucket_at x.buckets ((q, length), number))) key)
          (λ e. ap (bucket_at x.buckets) (same_key net route.prefix.length high q length number (key ∙ e))));
      prefixes = λ q number. rw (routes-append k (AddRoute net route) q (λ _ _. refl))
          (prefix_more (net == q) (route.number == number) (hash.get pair_eq x.prefixes (q, number)) (hash.get pair_eq s (q, number)) (routes k q) number route refl (λ e f. free q number f e) (is.prefixes q number) (noted (q, number)));
      once = λ q number. rw (routes-append k (AddRoute net route) q (λ _ _. refl)) (once_more (net == q) (routes k q) number route (is.once q number) (free q number));
    }

-- ---- a route less

less_in : (same here : Bool) (old new bucket : List Route) (xs : List Route) (g : Route → Bool) (n : ℕ) (v : Route) → g v ≡ here
    → (same ≡ true → find (is_number n) xs ≡ Some v) → Once (is_number n) xs → Differ (λ (r : Route). r.number) (filter g xs)
    → old ≡ sorted smaller_route (filter g xs)
    → new ≡ cond (same && here) (filter (λ r. not (r.number == n)) bucket) old → ((same && here) ≡ true → bucket ≡ old)
    → new ≡ sorted smaller_route (filter g (less (λ r. r.number) same n xs))
less_in false here old new bucket xs g n v e f o d a b c = b ∙ a
less_in true false old new bucket xs g n v e f o d a b c =
    rw (swapped g (λ r. not (r.number == n)) xs, kept (is_number n) (filter g xs) (not_in (is_number n) g xs v (f refl) o e)) (b ∙ a)
less_in true true old new bucket xs g n v e f o d a b c =
    rw (swapped g (λ r. not (r.number == n)) xs, sorted_filter smaller_route (λ (r : Route). r.number) route_order (λ r. not (r.number == n)) (filter g xs) d)
    (b ∙ ap (filter (λ r. not (r.number == n))) (c refl ∙ a))

prefix_less : (same here : Bool) (old new : Option Prefix) (xs : List Route) (n number : ℕ) (v : Route) → (v.number == number) ≡ here
    → (same ≡ true → find (is_number n) xs ≡ Some v) → Once (is_number n) xs → Once (is_number number) xs
    → old ≡ option_map (λ (r : Route). r.prefix) (find (is_number number) xs) → new ≡ cond (same && here) None old
    → new ≡ option_map (λ (r : Route). r.prefix) (find (is_number number) (less (λ r. r.number) same n xs))
prefix_less false here old new xs n number v e f o p a b = b ∙ a
prefix_less true here old new xs n number v e f o p a b = found_less (λ (r : Route). r.prefix) (is_number number) (is_number n) xs v here old new (f refl) e o p a b

once_less : (same : Bool) (xs : List Route) (n number : ℕ) → Once (is_number number) xs → Once (is_number number) (less (λ r. r.number) same n xs)
once_less true xs n number o = once_filter (is_number number) (λ r. not (r.number == n)) xs o
once_less false xs n number o = o

pub prefixes-gone : (x : Prefixes) (m : Buckets) (s : Numbers) (k : List Entry) (net number high : ℕ) (v : Route)
    → find (is_number number) (routes k net) ≡ Some v → (v.prefix.length ≤ 32 → high ≡ v.prefix.address / 2 ^ (32 - v.prefix.length)) → IsPrefixes x k
    → ((q : (ℕ × ℕ) × ℕ) → bucket_at m q ≡ cond (key_eq ((net, v.prefix.length), high) q) (filter (λ r. not (r.number == number)) (bucket_at x.buckets ((net, v.prefix.length), high))) (bucket_at x.buckets q))
    → ((q : ℕ × ℕ) → hash.get pair_eq s q ≡ cond (pair_eq (net, number) q) None (hash.get pair_eq x.prefixes q))
    → IsPrefixes (record { buckets = m; prefixes = s }) (k ++ DelRoute net number ∷ [])
prefixes-gone x m s k net number high v found is_high is put noted =
    let here : (q : ℕ) → (net == q) ≡ true → find (is_number number) (routes k q) ≡ Some v =
    λ q e. subst (λ (i : ℕ). find (is_number number) (routes k i) ≡ Some v) (eqb-true net q e) found in
    let is_v : v.number ≡ number = eqb-true v.number number (found_meets (is_number number) (routes k net) v found) in
    record {
      buckets = λ q length bits within.
          let key : key_eq ((net, v.prefix.length), high) ((q, length), bits) ≡ ((net == q) && in_bucket length bits v) =
          high_is net q v.prefix.length length high v.prefix.address bits is_high within in
          rw (routes-removed k net number q)
          (less_in (net == q) (in_bucket length bits v) (bucket_at x.buckets ((q, length), bits)) (bucket_at m ((q, length), bits)) (bucket_at x.buckets ((net, v.prefix.length), high)) (routes k q) (in_bucket length bits) number v refl
          (here q) (is.once q number)
          (differ smaller_route (λ (r : Route). r.number) (filter (in_bucket length bits) (routes k q)) (λ i. once_filter (is_number i) (in_bucket length bits) (routes k q) (is.once q i)))
          (is.buckets q length bits within)
          (put ((q, length), bits) ∙ ap (λ b. cond b (filter (λ r. not (r.number == number)) (bucket_at x.buckets ((net, v.prefix.length), high))) (bucket_at x.buckets ((q, length), bits))) key)
          (λ e. ap (bucket_at x.buckets) (same_key net v.prefix.length high q length bits (key ∙ e))));
      prefixes = λ q n. rw (routes-removed k net number q)
          (prefix_less (net == q) (number == n) (hash.get pair_eq x.prefixes (q, n)) (hash.get pair_eq s (q, n)) (routes k q) number n v (ap (λ i. i == n) is_v) (here q) (is.once q number) (is.once q n) (is.prefixes q n) (noted (q, n)));
      once = λ q n. rw (routes-removed k net number q) (once_less (net == q) (routes k q) number n (is.once q n));
    }

some_of : (o : Option Route) (p : Prefix) → option_map (λ (r : Route). r.prefix) o ≡ Some p → (v : Route) × ((o ≡ Some v) × (v.prefix ≡ p))
some_of None p h = absurd (cc)
some_of (Some v) p h = (v, (refl, cc))

pub prefixes-less : (x : Prefixes) (m : Buckets) (s : Numbers) (k : List Entry) (net number high : ℕ) (p : Prefix)
    → hash.get pair_eq x.prefixes (net, number) ≡ Some p → (p.length ≤ 32 → high ≡ p.address / 2 ^ (32 - p.length)) → IsPrefixes x k
    → ((q : (ℕ × ℕ) × ℕ) → bucket_at m q ≡ cond (key_eq ((net, p.length), high) q) (filter (λ r. not (r.number == number)) (bucket_at x.buckets ((net, p.length), high))) (bucket_at x.buckets q))
    → ((q : ℕ × ℕ) → hash.get pair_eq s q ≡ cond (pair_eq (net, number) q) None (hash.get pair_eq x.prefixes q))
    → IsPrefixes (record { buckets = m; prefixes = s }) (k ++ DelRoute net number ∷ [])
prefixes-less x m s k net number high p got is_high is put noted =
    let some = some_of (find (is_number number) (routes k net)) p (sym (is.prefixes net number) ∙ got) in
    prefixes-gone x m s k net number high some.0 some.1.0
    (subst (λ (w : Prefix). w.length ≤ 32 → high ≡ w.address / 2 ^ (32 - w.length)) (sym some.1.1) is_high) is
    (subst (λ (w : Prefix). (q : (ℕ × ℕ) × ℕ) → bucket_at m q ≡ cond (key_eq ((net, w.length), high) q) (filter (λ r. not (r.number == number)) (bucket_at x.buckets ((net, w.length), high))) (bucket_at x.buckets q)) (sym some.1.1) put) noted

some_number : (xs : List Route) (n : ℕ) → list_any (is_number n) xs ≡ true → find (is_number n) xs ≡ None → ⊥
some_number xs n h e = any_is_found (is_number n) xs h e

none_of : (o : Option Route) → option_map (λ (r : Route). r.prefix) o ≡ None → o ≡ None
none_of None h = refl
none_of (Some v) h = absurd (cc)

-- a route that an entry deletes is there
pub known : (x : Prefixes) (k : List Entry) (net number : ℕ) → fits None k (DelRoute net number) ≡ None → IsPrefixes x k → hash.get pair_eq x.prefixes (net, number) ≡ None → ⊥
known x k net number fit is none =
    some_number (routes k net) number (there k net number fit) (none_of (find (is_number number) (routes k net)) (sym (is.prefixes net number) ∙ none))

-- ---- other look-ups, other entries

pub prefixes-as : (x y : Prefixes) (k : List Entry) → ((q : (ℕ × ℕ) × ℕ) → bucket_at y.buckets q ≡ bucket_at x.buckets q)
    → ((q : ℕ × ℕ) → hash.get pair_eq y.prefixes q ≡ hash.get pair_eq x.prefixes q) → IsPrefixes x k → IsPrefixes y k
prefixes-as x y k b n is = record {
  buckets = λ q length bits within. b ((q, length), bits) ∙ is.buckets q length bits within;
  prefixes = λ q number. n (q, number) ∙ is.prefixes q number;
  once = is.once;
}

prefixes_same : (x : Prefixes) (k : List Entry) (e : Entry) → ((net : ℕ) → routes (k ++ e ∷ []) net ≡ routes k net ++ []) → IsPrefixes x k → IsPrefixes x (k ++ e ∷ [])
prefixes_same x k e h is =
    let same : (net : ℕ) → routes (k ++ e ∷ []) net ≡ routes k net = λ net. h net ∙ append-nil (routes k net) in
    record {
      buckets = λ q length bits within. rw (same q) (is.buckets q length bits within);
      prefixes = λ q number. rw (same q) (is.prefixes q number);
      once = λ q number. rw (same q) (is.once q number);
    }

pub prefixes-other : (x : Prefixes) (k : List Entry) (e : Entry) → ((net : ℕ) (route : Route) → e ≡ AddRoute net route → ⊥) → ((net number : ℕ) → e ≡ DelRoute net number → ⊥)
    → IsPrefixes x k → IsPrefixes x (k ++ e ∷ [])
prefixes-other x k (AddRoute net route) a b is = absurd (a net route refl)
prefixes-other x k (DelRoute net number) a b is = absurd (b net number refl)
prefixes-other x k (AddNet n) a b is = prefixes_same x k (AddNet n) (λ net. routes-append k (AddNet n) net (λ _ _. refl)) is
prefixes-other x k (AddVm vm n mac ip host) a b is = prefixes_same x k (AddVm vm n mac ip host) (λ net. routes-append k (AddVm vm n mac ip host) net (λ _ _. refl)) is
prefixes-other x k (RemoveVm vm) a b is = prefixes_same x k (RemoveVm vm) (λ net. routes-append k (RemoveVm vm) net (λ _ _. refl)) is
prefixes-other x k (Place vm host) a b is = prefixes_same x k (Place vm host) (λ net. routes-append k (Place vm host) net (λ _ _. refl)) is
prefixes-other x k (AddRule n rule) a b is = prefixes_same x k (AddRule n rule) (λ net. routes-append k (AddRule n rule) net (λ _ _. refl)) is
prefixes-other x k (DelRule n number) a b is = prefixes_same x k (DelRule n number) (λ net. routes-append k (DelRule n number) net (λ _ _. refl)) is
prefixes-other x k Tick a b is = prefixes_same x k Tick (λ net. routes-append k Tick net (λ _ _. refl)) is

-- ---- looks

pub first-in : (x : Prefixes) (k : List Entry) (net n address high : ℕ) → n ≤ 32 → high ≡ address / 2 ^ (32 - n) → IsPrefixes x k
    → head (bucket_at x.buckets ((net, n), high)) ≡ first_in n address (routes k net)
first-in x k net n address high within bits is =
    ap (λ h. head (bucket_at x.buckets ((net, n), h))) bits
    ∙ ap head (is.buckets net n (address / 2 ^ (32 - n)) within)
    ∙ first_is n address (routes k net) within (differ smaller_route (λ (r : Route). r.number) (filter (in_bucket n (address / 2 ^ (32 - n))) (routes k net)) (λ i. once_filter (is_number i) (in_bucket n (address / 2 ^ (32 - n))) (routes k net) (is.once net i)))
