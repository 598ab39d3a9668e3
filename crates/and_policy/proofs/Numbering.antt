-- How the numbers of live rules and routes follow one entry more.
use Rattle.std.proofs.Common.{◌≡◌, ℕ, ◌+◌, ◌<◌, ◌^◌, ◌-◌, Bool, true, false, ◌&&◌, ◌||◌, not, List, [], ◌∷◌, ◌++◌, length, map, Option, Some, None, nat_eq, cond, unwrap_or, refl, ap, sym, ◌∙◌, subst, arith, length-append, append-nil}
use Rattle.std.specs.Prelude.{if◌then◌else◌, ◌==◌, nat_le, min}
use Rattle.std.specs.List.{list_any, filter}
use Rattle.std.proofs.lemmas.Bool.{eqb-true, leb-false}
use Rattle.std.proofs.lemmas.List.{map-append, length-map}
use Rattle.std.proofs.lemmas.List.Folds.{list_any-append}
use Rattle.std.specs.HashMap as hash
use Rattle.std.specs.HashMap.{HashMap}
use Rattle.std.specs.HashSet as bag
use Rattle.std.specs.HashSet.{HashSet}
use Rattle.std.specs.declared.hash.FoldHasher.{FoldHasher}
use Rattle.std.specs.declared.hash.BuildHasherDefault.{BuildHasherDefault}
use Rattle.and_policy.specs.declared.entry.Entry.{Entry}
use Rattle.and_policy.specs.declared.entry.Entry.TheVariants.{AddNet, AddVm, RemoveVm, Place, AddRule, DelRule, AddRoute, DelRoute, Tick}
use Rattle.and_policy.specs.declared.entry.Rule.{Rule}
use Rattle.and_policy.specs.declared.entry.Route.{Route}
use Rattle.and_policy.specs.declared.numbered.Numbered.{Numbered}
use Rattle.and_policy.specs.declared.entry.EntryFault.TheVariants.{NoNet, RouteTaken, TooMany}
use Rattle.and_policy.specs.Checks.{first_failing}
use Rattle.and_policy.specs.Fitting.{fits, no_peer}
use Rattle.and_policy.specs.Logs.{has_net, rules, has_rule, routes, has_route}
use Rattle.and_policy.specs.Numbered.{IsNumbered, IsSameNumbered, less, with_number, without_number, rule_numbers, route_numbers}
use Rattle.and_policy.specs.Once.{Once}
use Rattle.and_policy.specs.Registers.{pair_eq}
use Rattle.and_policy.proofs.Appends.{rules-append, rules-removed, routes-append, routes-removed}
use Rattle.and_policy.proofs.Unique.{once_last, once_filter, length_without, any_without, none_left}

abbrev Map : Type 0
Map = HashMap ℕ ℕ (BuildHasherDefault FoldHasher)

abbrev Set : Type 0
Set = HashSet (ℕ × ℕ) (BuildHasherDefault FoldHasher)

pub same-numbered : (x y : Numbered) (f : ℕ → List ℕ) → IsSameNumbered x y → IsNumbered x f → IsNumbered y f
same-numbered x y f same is =
    record {
      counts = λ net. ap (λ o. unwrap_or o 0) (same.counts net) ∙ is.counts net;
      live = λ net number. same.live (net, number) ∙ is.live net number;
      once = is.once;
    }

-- the same numbers
pub numbered-as : (x : Numbered) (f g : ℕ → List ℕ) → ((net : ℕ) → g net ≡ f net) → IsNumbered x f → IsNumbered x g
numbered-as x f g same is =
    record {
      counts = λ net. is.counts net ∙ ap length (sym (same net));
      live = λ net number. is.live net number ∙ ap (list_any (λ n. n == number)) (sym (same net));
      once = λ net number. subst (Once (λ n. n == number)) (sym (same net)) (is.once net number);
    }

-- ---- a number more

count_more : (same : Bool) (old new : Option ℕ) (xs : List ℕ) (number count : ℕ) → unwrap_or old 0 ≡ length xs → new ≡ cond same (Some count) old
    → (same ≡ true → count ≡ length xs + 1) → unwrap_or new 0 ≡ length (xs ++ (if same then number ∷ [] else []))
count_more true old new xs number count a b c = rw b (c refl ∙ sym (length-append xs (number ∷ [])))
count_more false old new xs number count a b c = rw (b, append-nil xs) a

number_more : (same : Bool) (old new : Bool) (xs : List ℕ) (number n : ℕ) → old ≡ list_any (λ m. m == n) xs → new ≡ cond (same && (number == n)) true old
    → new ≡ list_any (λ m. m == n) (xs ++ (if same then number ∷ [] else []))
number_more false old new xs number n a b = rw (append-nil xs) (b ∙ a)
number_more true old new xs number n a b = rw (list_any-append (λ m. m == n) xs (number ∷ [])) (choice old new (list_any (λ m. m == n) xs) (number == n) a b)
  where
    choice : (old new there same : Bool) → old ≡ there → new ≡ cond same true old → new ≡ (there || (same || false))
    choice old new true true a b = b
    choice old new true false a b = b ∙ a
    choice old new false true a b = b
    choice old new false false a b = b ∙ a

once_more : (same : Bool) (xs : List ℕ) (number n : ℕ) → Once (λ m. m == n) xs → (same ≡ true → list_any (λ m. m == number) xs ≡ false)
    → Once (λ m. m == n) (xs ++ (if same then number ∷ [] else []))
once_more true xs number n o f = once_last (λ m. m == n) xs number o (λ e. subst (λ i. list_any (λ m. m == i) xs ≡ false) (eqb-true number n e) (f refl))
once_more false xs number n o f = subst (Once (λ m. m == n)) (sym (append-nil xs)) o

pub numbered-more : (x : Numbered) (m : Map) (s : Set) (f : ℕ → List ℕ) (net number count : ℕ)
    → length (f net) < 256 → list_any (λ n. n == number) (f net) ≡ false → IsNumbered x f
    → count ≡ unwrap_or (hash.get nat_eq x.counts net) 0
    → ((q : ℕ) → hash.get nat_eq m q ≡ cond (nat_eq net q) (Some (min (count + 1) (2 ^ 32 - 1))) (hash.get nat_eq x.counts q))
    → ((q : ℕ × ℕ) → bag.contains pair_eq s q ≡ cond (pair_eq (net, number) q) true (bag.contains pair_eq x.live q))
    → IsNumbered (record { counts = m; live = s }) (with_number f net number)
numbered-more x m s f net number count few fresh is read counted marked =
    let is_count : count ≡ length (f net) = read ∙ is.counts net in
    let more : min (count + 1) (2 ^ 32 - 1) ≡ length (f net) + 1 = omega (arith, is_count, few) in
    record {
      counts = λ q. count_more (nat_eq net q) _ _ (f q) number (min (count + 1) (2 ^ 32 - 1)) (is.counts q) (counted q) (λ e. more ∙ ap (λ n. length (f n) + 1) (eqb-true net q e));
      live = λ q n. number_more (net == q) _ _ (f q) number n (is.live q n) (marked (q, n));
      once = λ q n. once_more (net == q) (f q) number n (is.once q n) (λ e. subst (λ i. list_any (λ m. m == number) (f i) ≡ false) (eqb-true net q e) fresh);
    }

-- ---- a number less

count_less : (same : Bool) (old new : Option ℕ) (xs : List ℕ) (number count : ℕ) → unwrap_or old 0 ≡ length xs → new ≡ cond same (Some count) old
    → (same ≡ true → count ≡ length (filter (λ m. not (m == number)) xs)) → unwrap_or new 0 ≡ length (less (λ m. m) same number xs)
count_less true old new xs number count a b c = rw b (c refl)
count_less false old new xs number count a b c = rw b a

number_less : (same : Bool) (old new : Bool) (xs : List ℕ) (number n : ℕ) → old ≡ list_any (λ m. m == n) xs → new ≡ cond (same && (number == n)) false old
    → new ≡ list_any (λ m. m == n) (less (λ m. m) same number xs)
number_less false old new xs number n a b = b ∙ a
number_less true old new xs number n a b = at_number (number == n) refl b
  where
    at_number : (c : Bool) → (number == n) ≡ c → new ≡ cond c false old → new ≡ list_any (λ m. m == n) (filter (λ m. not (m == number)) xs)
    at_number true e h = h ∙ sym (subst (λ i. list_any (λ m. m == i) (filter (λ m. not (m == number)) xs) ≡ false) (eqb-true number n e) (none_left (λ m. m == number) xs))
    at_number false e h = h ∙ a ∙ sym (any_without (λ m. m == number) (λ m. m == n) xs (λ m k. ap (λ i. i == n) (eqb-true m number k) ∙ e))

once_less : (same : Bool) (xs : List ℕ) (number n : ℕ) → Once (λ m. m == n) xs → Once (λ m. m == n) (less (λ m. m) same number xs)
once_less true xs number n o = once_filter (λ m. m == n) (λ m. not (m == number)) xs o
once_less false xs number n o = o

pub numbered-less : (x : Numbered) (m : Map) (s : Set) (f : ℕ → List ℕ) (net number count : ℕ)
    → list_any (λ n. n == number) (f net) ≡ true → IsNumbered x f
    → count ≡ unwrap_or (hash.get nat_eq x.counts net) 0
    → ((q : ℕ) → hash.get nat_eq m q ≡ cond (nat_eq net q) (Some (count - 1)) (hash.get nat_eq x.counts q))
    → ((q : ℕ × ℕ) → bag.contains pair_eq s q ≡ cond (pair_eq (net, number) q) false (bag.contains pair_eq x.live q))
    → IsNumbered (record { counts = m; live = s }) (without_number f net number)
numbered-less x m s f net number count there is read counted marked =
    let is_count : count ≡ length (f net) = read ∙ is.counts net in
    let one : length (filter (λ n. not (n == number)) (f net)) + 1 ≡ length (f net) = length_without (λ n. n == number) (f net) there (is.once net number) in
    let fewer : count - 1 ≡ length (filter (λ n. not (n == number)) (f net)) = omega (arith, is_count, one) in
    record {
      counts = λ q. count_less (nat_eq net q) _ _ (f q) number (count - 1) (is.counts q) (counted q) (λ e. fewer ∙ ap (λ i. length (filter (λ n. not (n == number)) (f i))) (eqb-true net q e));
      live = λ q n. number_less (net == q) _ _ (f q) number n (is.live q n) (marked (q, n));
      once = λ q n. once_less (net == q) (f q) number n (is.once q n);
    }

-- ---- of rules and of routes

any_map : {A : Type 0} (number : A → ℕ) (n : ℕ) (xs : List A) → list_any (λ m. m == n) (map number xs) ≡ list_any (λ x. number x == n) xs
any_map number n [] = refl
any_map number n (x ∷ xs) = ap (λ b. (number x == n) || b) (any_map number n xs)

pub has-rule : (k : List Entry) (net n : ℕ) → list_any (λ m. m == n) (rule_numbers k net) ≡ has_rule k net n
has-rule k net n = any_map (λ (r : Rule). r.number) n (rules k net)

pub has-route : (k : List Entry) (net n : ℕ) → list_any (λ m. m == n) (route_numbers k net) ≡ has_route k net n
has-route k net n = any_map (λ (r : Route). r.number) n (routes k net)

map_more : {A : Type 0} (number : A → ℕ) (b : Bool) (x : A) (xs : List A) → map number (xs ++ (if b && true then x ∷ [] else [])) ≡ map number xs ++ (if b then number x ∷ [] else [])
map_more number true x xs = map-append number xs (x ∷ [])
map_more number false x xs = map-append number xs []

map_filter : {A : Type 0} (number : A → ℕ) (n : ℕ) (xs : List A) → map number (filter (λ x. not (number x == n)) xs) ≡ filter (λ m. not (m == n)) (map number xs)
map_filter number n [] = refl
map_filter number n (x ∷ xs) = at_first (number x == n) (map_filter number n xs)
  where
    at_first : (b : Bool) → map number (filter (λ y. not (number y == n)) xs) ≡ filter (λ m. not (m == n)) (map number xs)
        → map number (cond (not b) (x ∷ filter (λ y. not (number y == n)) xs) (filter (λ y. not (number y == n)) xs)) ≡ cond (not b) (number x ∷ filter (λ m. not (m == n)) (map number xs)) (filter (λ m. not (m == n)) (map number xs))
    at_first true ih = ih
    at_first false ih = ap (λ ms. number x ∷ ms) ih

map_less : {A : Type 0} (number : A → ℕ) (same : Bool) (n : ℕ) (xs : List A) → map number (less number same n xs) ≡ less (λ m. m) same n (map number xs)
map_less number true n xs = map_filter number n xs
map_less number false n xs = refl

pub rules-more : (k : List Entry) (n : ℕ) (rule : Rule) (net : ℕ) → rule_numbers (k ++ AddRule n rule ∷ []) net ≡ with_number (rule_numbers k) n rule.number net
rules-more k n rule net = rw (rules-append k (AddRule n rule) net (λ _ _. refl)) (map_more (λ (r : Rule). r.number) (n == net) rule (rules k net))

pub rules-less : (k : List Entry) (n m net : ℕ) → rule_numbers (k ++ DelRule n m ∷ []) net ≡ without_number (rule_numbers k) n m net
rules-less k n m net = rw (rules-removed k n m net) (map_less (λ (r : Rule). r.number) (n == net) m (rules k net))

pub routes-more : (k : List Entry) (n : ℕ) (route : Route) (net : ℕ) → route_numbers (k ++ AddRoute n route ∷ []) net ≡ with_number (route_numbers k) n route.number net
routes-more k n route net = rw (routes-append k (AddRoute n route) net (λ _ _. refl)) (map_more (λ (r : Route). r.number) (n == net) route (routes k net))

pub routes-less : (k : List Entry) (n m net : ℕ) → route_numbers (k ++ DelRoute n m ∷ []) net ≡ without_number (route_numbers k) n m net
routes-less k n m net = rw (routes-removed k n m net) (map_less (λ (r : Route). r.number) (n == net) m (routes k net))

-- ---- what follows from it that an entry fits

passed : {F : Type 0} (b : Bool) (f : F) (rest : Option F) → (if b then Some f else rest) ≡ None → (b ≡ false) × (rest ≡ None)
passed true f rest h = absurd (cc)
passed false f rest h = (refl, h)

not_false : (b : Bool) → not b ≡ false → b ≡ true
not_false true h = refl
not_false false h = absurd (cc)

few : (n : ℕ) → nat_le 256 n ≡ false → n < 256
few n h = leb-false 256 n h

pub rule-added : (x y : Numbered) (hosts : Option ℕ) (k : List Entry) (net : ℕ) (rule : Rule) → fits hosts k (AddRule net rule) ≡ None
    → ((f : ℕ → List ℕ) → length (f net) < 256 → list_any (λ n. n == rule.number) (f net) ≡ false → IsNumbered x f → IsNumbered y (with_number f net rule.number))
    → IsNumbered x (rule_numbers k) → IsNumbered y (rule_numbers (k ++ AddRule net rule ∷ []))
rule-added x y hosts k net rule fit step is =
    let c1 = passed _ _ _ fit in
    let c2 = passed _ _ _ c1.1 in
    let c3 = passed _ _ _ c2.1 in
    numbered-as y (with_number (rule_numbers k) net rule.number) (rule_numbers (k ++ AddRule net rule ∷ [])) (rules-more k net rule)
    (step (rule_numbers k) (subst (λ n. n < 256) (sym (length-map (rules k net) (λ (r : Rule). r.number))) (few (length (rules k net)) c3.0)) (has-rule k net rule.number ∙ c2.0) is)

pub rule-deleted : (x y : Numbered) (hosts : Option ℕ) (k : List Entry) (net number : ℕ) → fits hosts k (DelRule net number) ≡ None
    → ((f : ℕ → List ℕ) → list_any (λ n. n == number) (f net) ≡ true → IsNumbered x f → IsNumbered y (without_number f net number))
    → IsNumbered x (rule_numbers k) → IsNumbered y (rule_numbers (k ++ DelRule net number ∷ []))
rule-deleted x y hosts k net number fit step is =
    let c1 = passed _ _ _ fit in
    let c2 = passed _ _ _ c1.1 in
    numbered-as y (without_number (rule_numbers k) net number) (rule_numbers (k ++ DelRule net number ∷ [])) (rules-less k net number)
    (step (rule_numbers k) (has-rule k net number ∙ not_false _ c2.0) is)

pub route-added : (x y : Numbered) (hosts : Option ℕ) (k : List Entry) (net : ℕ) (route : Route) → fits hosts k (AddRoute net route) ≡ None
    → ((f : ℕ → List ℕ) → length (f net) < 256 → list_any (λ n. n == route.number) (f net) ≡ false → IsNumbered x f → IsNumbered y (with_number f net route.number))
    → IsNumbered x (route_numbers k) → IsNumbered y (route_numbers (k ++ AddRoute net route ∷ []))
route-added x y hosts k net route fit step is =
    let c1 = passed (not (has_net k net)) NoNet (first_failing ((no_peer k route.target, NoNet) ∷ (has_route k net route.number, RouteTaken) ∷ (nat_le 256 (length (routes k net)), TooMany) ∷ [])) fit in
    let c2 = passed (no_peer k route.target) NoNet (first_failing ((has_route k net route.number, RouteTaken) ∷ (nat_le 256 (length (routes k net)), TooMany) ∷ [])) c1.1 in
    let c3 = passed (has_route k net route.number) RouteTaken (first_failing ((nat_le 256 (length (routes k net)), TooMany) ∷ [])) c2.1 in
    let c4 = passed (nat_le 256 (length (routes k net))) TooMany None c3.1 in
    numbered-as y (with_number (route_numbers k) net route.number) (route_numbers (k ++ AddRoute net route ∷ [])) (routes-more k net route)
    (step (route_numbers k) (subst (λ n. n < 256) (sym (length-map (routes k net) (λ (r : Route). r.number))) (few (length (routes k net)) c4.0)) (has-route k net route.number ∙ c3.0) is)

pub route-deleted : (x y : Numbered) (hosts : Option ℕ) (k : List Entry) (net number : ℕ) → fits hosts k (DelRoute net number) ≡ None
    → ((f : ℕ → List ℕ) → list_any (λ n. n == number) (f net) ≡ true → IsNumbered x f → IsNumbered y (without_number f net number))
    → IsNumbered x (route_numbers k) → IsNumbered y (route_numbers (k ++ DelRoute net number ∷ []))
route-deleted x y hosts k net number fit step is =
    let c1 = passed _ _ _ fit in
    let c2 = passed _ _ _ c1.1 in
    numbered-as y (without_number (route_numbers k) net number) (route_numbers (k ++ DelRoute net number ∷ [])) (routes-less k net number)
    (step (route_numbers k) (has-route k net number ∙ not_false _ c2.0) is)

-- ---- an entry that changes none of them

rules_same : (x : Numbered) (k : List Entry) (e : Entry) → ((net : ℕ) → rule_numbers (k ++ e ∷ []) net ≡ rule_numbers k net) → IsNumbered x (rule_numbers k) → IsNumbered x (rule_numbers (k ++ e ∷ []))
rules_same x k e same is = numbered-as x (rule_numbers k) (rule_numbers (k ++ e ∷ [])) same is

no_rule : (k : List Entry) (e : Entry) (net : ℕ) → rules (k ++ e ∷ []) net ≡ rules k net ++ [] → rule_numbers (k ++ e ∷ []) net ≡ rule_numbers k net
no_rule k e net h = rw (h, append-nil (rules k net)) refl

no_route : (k : List Entry) (e : Entry) (net : ℕ) → routes (k ++ e ∷ []) net ≡ routes k net ++ [] → route_numbers (k ++ e ∷ []) net ≡ route_numbers k net
no_route k e net h = rw (h, append-nil (routes k net)) refl

pub rules-other : (x : Numbered) (k : List Entry) (e : Entry) → ((net : ℕ) (rule : Rule) → e ≡ AddRule net rule → ⊥) → ((net number : ℕ) → e ≡ DelRule net number → ⊥)
    → IsNumbered x (rule_numbers k) → IsNumbered x (rule_numbers (k ++ e ∷ []))
rules-other x k (AddRule net rule) a b is = absurd (a net rule refl)
rules-other x k (DelRule net number) a b is = absurd (b net number refl)
rules-other x k (AddNet n) a b is = rules_same x k _ (λ net. no_rule k _ net (rules-append k (AddNet n) net (λ _ _. refl))) is
rules-other x k (AddVm vm n mac ip host) a b is = rules_same x k _ (λ net. no_rule k _ net (rules-append k (AddVm vm n mac ip host) net (λ _ _. refl))) is
rules-other x k (RemoveVm vm) a b is = rules_same x k _ (λ net. no_rule k _ net (rules-append k (RemoveVm vm) net (λ _ _. refl))) is
rules-other x k (Place vm host) a b is = rules_same x k _ (λ net. no_rule k _ net (rules-append k (Place vm host) net (λ _ _. refl))) is
rules-other x k (AddRoute n route) a b is = rules_same x k _ (λ net. no_rule k _ net (rules-append k (AddRoute n route) net (λ _ _. refl))) is
rules-other x k (DelRoute n number) a b is = rules_same x k _ (λ net. no_rule k _ net (rules-append k (DelRoute n number) net (λ _ _. refl))) is
rules-other x k Tick a b is = rules_same x k _ (λ net. no_rule k _ net (rules-append k Tick net (λ _ _. refl))) is

routes_same : (x : Numbered) (k : List Entry) (e : Entry) → ((net : ℕ) → route_numbers (k ++ e ∷ []) net ≡ route_numbers k net) → IsNumbered x (route_numbers k) → IsNumbered x (route_numbers (k ++ e ∷ []))
routes_same x k e same is = numbered-as x (route_numbers k) (route_numbers (k ++ e ∷ [])) same is

pub routes-other : (x : Numbered) (k : List Entry) (e : Entry) → ((net : ℕ) (route : Route) → e ≡ AddRoute net route → ⊥) → ((net number : ℕ) → e ≡ DelRoute net number → ⊥)
    → IsNumbered x (route_numbers k) → IsNumbered x (route_numbers (k ++ e ∷ []))
routes-other x k (AddRoute net route) a b is = absurd (a net route refl)
routes-other x k (DelRoute net number) a b is = absurd (b net number refl)
routes-other x k (AddNet n) a b is = routes_same x k _ (λ net. no_route k _ net (routes-append k (AddNet n) net (λ _ _. refl))) is
routes-other x k (AddVm vm n mac ip host) a b is = routes_same x k _ (λ net. no_route k _ net (routes-append k (AddVm vm n mac ip host) net (λ _ _. refl))) is
routes-other x k (RemoveVm vm) a b is = routes_same x k _ (λ net. no_route k _ net (routes-append k (RemoveVm vm) net (λ _ _. refl))) is
routes-other x k (Place vm host) a b is = routes_same x k _ (λ net. no_route k _ net (routes-append k (Place vm host) net (λ _ _. refl))) is
routes-other x k (AddRule n rule) a b is = routes_same x k _ (λ net. no_route k _ net (routes-append k (AddRule n rule) net (λ _ _. refl))) is
routes-other x k (DelRule n number) a b is = routes_same x k _ (λ net. no_route k _ net (routes-append k (DelRule n number) net (λ _ _. refl))) is
routes-other x k Tick a b is = routes_same x k _ (λ net. no_route k _ net (routes-append k Tick net (λ _ _. refl))) is
