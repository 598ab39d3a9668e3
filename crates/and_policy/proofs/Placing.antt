-- How the placements of VMs follow one entry more.
use Rattle.std.proofs.Common.{◌≡◌, ℕ, suc, ◌+◌, ◌-◌, ◌<◌, ◌≤◌, ◌==◌, ◌^◌, Bool, true, false, not, cond, List, [], ◌∷◌, ◌++◌, length, nat_eq, refl, sym, ap, ◌∙◌, arith, ⊎_elim, Option, Some, None, length-append}
use Rattle.std.specs.Prelude.{nat_lt, position, option_map, unwrap_or, min, if◌then◌else◌}
use Rattle.std.specs.HashMap as hash
use Rattle.std.specs.HashMap.{HashMap}
use Rattle.std.specs.List.{find, prefix_len}
use Rattle.std.specs.declared.hash.FoldHasher.{FoldHasher}
use Rattle.std.specs.declared.hash.BuildHasherDefault.{BuildHasherDefault}
use Rattle.std.proofs.lemmas.Bool.{eqb-true, lt-ltb, le-ltb, cases_lt}
use Rattle.and_policy.specs.declared.entry.Entry.{Entry}
use Rattle.and_policy.specs.declared.entry.Entry.TheVariants.{AddNet, AddVm, RemoveVm, Place, AddRule, DelRule, AddRoute, DelRoute, Tick}
use Rattle.and_policy.specs.declared.placements.Addition.{Addition}
use Rattle.and_policy.specs.declared.placements.Placements.{Placements}
use Rattle.and_policy.specs.Logs.{Vm, added}
use Rattle.and_policy.specs.Owners.{place, host_by, or_else}
use Rattle.and_policy.specs.Placements.{ArePlacements, AreSamePlacements, net_by}
use Rattle.and_policy.specs.Programmes.{net_of_vm, adds, added_at}
use Rattle.and_policy.proofs.Appends.{place-append, or_else_none}

abbrev Map : Type 0 → Type 0 → Type 0
Map K V = HashMap K V (BuildHasherDefault FoldHasher)

pub same-placements : (p q : Placements) (k : List Entry) → AreSamePlacements p q → ArePlacements p k → ArePlacements q k
same-placements p q k same is =
    record {
      count = λ few. same.count ∙ is.count few;
      networks = λ vm. ap (option_map (λ (a : Addition). a.net)) (same.additions vm) ∙ is.networks vm;
      numbers = λ few vm. ap (option_map (λ (a : Addition). a.number)) (same.additions vm) ∙ is.numbers few vm;
      hosts = λ vm. same.hosts vm ∙ is.hosts vm;
    }

-- ---- the first place that passes, by recursion

first_at : {X : Type 0} (p : X → Bool) → List X → Option ℕ
first_at p [] = None
first_at p (x ∷ xs) = cond (p x) (Some 0) (option_map suc (first_at p xs))

within_step : (a n : ℕ) → cond (nat_lt (1 + a) (1 + n)) (Some (1 + a)) None ≡ option_map suc (cond (nat_lt a n) (Some a) None)
within_step a n =
    let none : Option ℕ = None in
    ⊎_elim
    (λ (h : a < n). ap (λ b. cond b (Some (1 + a)) none) (lt-ltb (1 + a) (1 + n) (omega arith))
    ∙ (ap Some (omega arith) ∙ ap (λ b. option_map suc (cond b (Some a) none)) (sym (lt-ltb a n h))))
    (λ (h : n ≤ a). ap (λ b. cond b (Some (1 + a)) none) (le-ltb (1 + a) (1 + n) (omega arith))
    ∙ ap (λ b. option_map suc (cond b (Some a) none)) (sym (le-ltb a n h)))
    (cases_lt a n)

position_first : {X : Type 0} (p : X → Bool) (xs : List X) → position p xs ≡ first_at p xs
unfolding first_at
position_first p [] = refl
position_first p (x ∷ xs) =
    let none : Option ℕ = None in
    let k = prefix_len (λ y. not (p y)) xs in
    let n = length (x ∷ xs) in
    elim (p x) as (λ b. cond (nat_lt (cond (not b) (1 + k) 0) n) (Some (cond (not b) (1 + k) 0)) none ≡ cond b (Some 0) (option_map suc (first_at p xs))) [
      | true ↦ ap (λ b. cond b (Some 0) none) (lt-ltb 0 n (omega arith))
      | false ↦
          let longer : n ≡ 1 + length xs = omega arith in
          ap (λ m. cond (nat_lt (1 + k) m) (Some (1 + k)) none) longer ∙ (within_step k (length xs) ∙ ap (option_map suc) (position_first p xs))
    ]

or_suc : (a : Option ℕ) (b : Bool) (n : ℕ) → option_map suc (or_else a (cond b (Some n) None)) ≡ or_else (option_map suc a) (cond b (Some (1 + n)) None)
or_suc (Some k) b n = refl
or_suc None true n = ap Some (omega arith)
or_suc None false n = refl

first_push : {X : Type 0} (p : X → Bool) (xs : List X) (x : X) → first_at p (xs ++ x ∷ []) ≡ or_else (first_at p xs) (cond (p x) (Some (length xs)) None)
unfolding first_at
first_push p [] x = refl
first_push p (y ∷ ys) x =
    let none : Option ℕ = None in
    let more = ap (option_map suc) (first_push p ys x) ∙ or_suc (first_at p ys) (p x) (length ys) in
    let n = length (y ∷ ys) in
    let longer : 1 + length ys ≡ n = omega arith in
    let later = more ∙ ap (λ m. or_else (option_map suc (first_at p ys)) (cond (p x) (Some m) none)) longer in
    elim (p y) as (λ b. cond b (Some 0) (option_map suc (first_at p (ys ++ x ∷ []))) ≡ or_else (cond b (Some 0) (option_map suc (first_at p ys))) (cond (p x) (Some n) none)) [
      | true ↦ refl
      | false ↦ later
    ]

pub added-number : (log : List Entry) (e : Entry) (vm : ℕ) → added_at (log ++ e ∷ []) vm ≡ or_else (added_at log vm) (cond (adds vm e) (Some (1 + length log)) None)
added-number log e vm =
    ap (option_map suc) (position_first (adds vm) (log ++ e ∷ []) ∙ first_push (adds vm) log e)
    ∙ (or_suc (first_at (adds vm) log) (adds vm e) (length log)
    ∙ ap (λ a. or_else (option_map suc a) (cond (adds vm e) (Some (1 + length log)) None)) (sym (position_first (adds vm) log)))

-- ---- the network

-- the network of the first VM that passes the test, in a list that has another VM in front
first_net : (b : Bool) (v : Vm) (rest all : Option Vm) (last : Option ℕ) → option_map (λ (x : Vm). x.net) all ≡ or_else (option_map (λ (x : Vm). x.net) rest) last
    → option_map (λ (x : Vm). x.net) (cond b (Some v) all) ≡ or_else (option_map (λ (x : Vm). x.net) (cond b (Some v) rest)) last
first_net true v rest all last h = refl
first_net false v rest all last h = h

last_is : (b : Bool) (v : Vm) → option_map (λ (x : Vm). x.net) (cond b (Some v) None) ≡ (if b then Some v.net else None)
last_is true v = refl
last_is false v = refl

-- the network of a VM with one entry more
pub net-append : (vm : ℕ) (k : List Entry) (e : Entry) → net_of_vm (k ++ e ∷ []) vm ≡ or_else (net_of_vm k vm) (net_by vm e)
net-append vm [] (AddVm v net mac ip host) = last_is (v == vm) _
net-append vm [] _ = refl
net-append vm (AddVm v net mac ip host ∷ k) e =
    first_net (v == vm) _ (find (λ (x : Vm). x.number == vm) (added k)) (find (λ (x : Vm). x.number == vm) (added (k ++ e ∷ []))) (net_by vm e) (net-append vm k e)
net-append vm (_ ∷ k) e = net-append vm k e

-- ---- the first that adds a VM stays

first_more : (f : Addition → ℕ) (b : Bool) (at_vm at_q new : Option Addition) (a : Addition) (was : Option ℕ)
    → (b ≡ true → at_vm ≡ at_q) → option_map f at_q ≡ was → new ≡ cond b (Some (unwrap_or at_vm a)) at_q → option_map f new ≡ or_else was (cond b (Some (f a)) None)
first_more f true at_vm (Some x) new a was same old is = ap (option_map f) (is ∙ ap (λ o. Some (unwrap_or o a)) (same refl)) ∙ ap (λ w. or_else w (Some (f a))) old
first_more f true at_vm None new a was same old is = ap (option_map f) (is ∙ ap (λ o. Some (unwrap_or o a)) (same refl)) ∙ ap (λ w. or_else w (Some (f a))) old
first_more f false at_vm at_q new a was same old is = ap (option_map f) is ∙ old ∙ sym (or_else_none was)

placed : (b : Bool) (host : ℕ) (now : Option ℕ) → cond b (Some host) now ≡ or_else (if b then Some host else None) now
placed true host now = refl
placed false host now = refl

fewer : (k : List Entry) (e : Entry) → length (k ++ e ∷ []) < 2 ^ 32 → length k < 2 ^ 32
fewer k e few = omega (arith, few, length-append k (e ∷ []))

-- the count reaches the number of the entry
counted : (k : List Entry) (e : Entry) (old new : ℕ) → (length k < 2 ^ 32 → old ≡ length k) → new ≡ min (old + 1) (2 ^ 32 - 1) → length (k ++ e ∷ []) < 2 ^ 32 → new ≡ 1 + length k
counted k e old new was is few =
    let longer = length-append k (e ∷ []) in
    let same = was (fewer k e few) in
    omega (arith, is, same, few, longer)

count_more : (k : List Entry) (e : Entry) (old new : ℕ) → (length k < 2 ^ 32 → old ≡ length k) → new ≡ min (old + 1) (2 ^ 32 - 1) → length (k ++ e ∷ []) < 2 ^ 32 → new ≡ length (k ++ e ∷ [])
count_more k e old new was is few = omega (arith, counted k e old new was is few, length-append k (e ∷ []))

pub placements-added : (p : Placements) (additions : Map ℕ Addition) (hosts : Map ℕ ℕ) (count : ℕ) (k : List Entry) (vm net mac ip host : ℕ)
    → count ≡ min (p.count + 1) (2 ^ 32 - 1)
    → ((q : ℕ) → hash.get nat_eq additions q ≡ cond (nat_eq vm q) (Some (unwrap_or (hash.get nat_eq p.additions vm) (record { net = net; number = count }))) (hash.get nat_eq p.additions q))
    → ((q : ℕ) → hash.get nat_eq hosts q ≡ cond (nat_eq vm q) (Some host) (hash.get nat_eq p.hosts q))
    → ArePlacements p k → ArePlacements (record { count = count; additions = additions; hosts = hosts }) (k ++ AddVm vm net mac ip host ∷ [])
placements-added p additions hosts count k vm net mac ip host counts noted put is =
    let e : Entry = AddVm vm net mac ip host in
    let a : Addition = record { net = net; number = count } in
    let here : (q : ℕ) → nat_eq vm q ≡ true → hash.get nat_eq p.additions vm ≡ hash.get nat_eq p.additions q = λ q h. ap (hash.get nat_eq p.additions) (eqb-true vm q h) in
    record {
      count = count_more k e p.count count is.count counts;
      networks = λ q. first_more (λ (x : Addition). x.net) (nat_eq vm q) _ _ _ a _ (here q) (is.networks q) (noted q) ∙ sym (net-append q k e);
      numbers = λ few q. first_more (λ (x : Addition). x.number) (nat_eq vm q) _ _ _ a _ (here q) (is.numbers (fewer k e few) q) (noted q)
          ∙ ap (λ n. or_else (added_at k q) (cond (nat_eq vm q) (Some n) None)) (counted k e p.count count is.count counts few) ∙ sym (added-number k e q);
      hosts = λ q. put q ∙ ap (λ o. cond (nat_eq vm q) (Some host) o) (is.hosts q) ∙ placed (vm == q) host (place k q) ∙ sym (place-append k e q);
    }

-- ---- an entry that adds no VM

pub placements-placed : (p : Placements) (hosts : Map ℕ ℕ) (count : ℕ) (k : List Entry) (vm host : ℕ)
    → count ≡ min (p.count + 1) (2 ^ 32 - 1)
    → ((q : ℕ) → hash.get nat_eq hosts q ≡ cond (nat_eq vm q) (Some host) (hash.get nat_eq p.hosts q))
    → ArePlacements p k → ArePlacements (record { count = count; additions = p.additions; hosts = hosts }) (k ++ Place vm host ∷ [])
placements-placed p hosts count k vm host counts put is =
    let e : Entry = Place vm host in
    record {
      count = count_more k e p.count count is.count counts;
      networks = λ q. is.networks q ∙ sym (net-append q k e ∙ or_else_none (net_of_vm k q));
      numbers = λ few q. is.numbers (fewer k e few) q ∙ sym (added-number k e q ∙ or_else_none (added_at k q));
      hosts = λ q. put q ∙ ap (λ o. cond (nat_eq vm q) (Some host) o) (is.hosts q) ∙ placed (vm == q) host (place k q) ∙ sym (place-append k e q);
    }

-- the entry says nothing of where VMs are
record IsQuiet (e : Entry) : Type 0 where
  pub network : (vm : ℕ) → net_by vm e ≡ None
  pub addition : (vm : ℕ) → adds vm e ≡ false
  pub move : (vm : ℕ) → host_by vm e ≡ None

quiet : (p : Placements) (count : ℕ) (k : List Entry) (e : Entry) → count ≡ min (p.count + 1) (2 ^ 32 - 1) → IsQuiet e → ArePlacements p k
    → ArePlacements (record { count = count; additions = p.additions; hosts = p.hosts }) (k ++ e ∷ [])
quiet p count k e counts q is =
    let none : Option ℕ = None in
    record {
      count = count_more k e p.count count is.count counts;
      networks = λ vm. is.networks vm ∙ sym (net-append vm k e ∙ ap (or_else (net_of_vm k vm)) (q.network vm) ∙ or_else_none (net_of_vm k vm));
      numbers = λ few vm. is.numbers (fewer k e few) vm ∙ sym (added-number k e vm ∙ ap (λ b. or_else (added_at k vm) (cond b (Some (1 + length k)) none)) (q.addition vm) ∙ or_else_none (added_at k vm));
      hosts = λ vm. is.hosts vm ∙ sym (place-append k e vm ∙ ap (λ a. or_else a (place k vm)) (q.move vm));
    }

pub placements-other : (p : Placements) (count : ℕ) (k : List Entry) (e : Entry) → count ≡ min (p.count + 1) (2 ^ 32 - 1)
    → ((vm net mac ip host : ℕ) → e ≡ AddVm vm net mac ip host → ⊥) → ((vm host : ℕ) → e ≡ Place vm host → ⊥)
    → ArePlacements p k → ArePlacements (record { count = count; additions = p.additions; hosts = p.hosts }) (k ++ e ∷ [])
placements-other p count k (AddVm vm net mac ip host) counts a b is = absurd (a vm net mac ip host refl)
placements-other p count k (Place vm host) counts a b is = absurd (b vm host refl)
placements-other p count k (AddNet net) counts a b is = quiet p count k (AddNet net) counts (record { network = λ _. refl; addition = λ _. refl; move = λ _. refl }) is
placements-other p count k (RemoveVm v) counts a b is = quiet p count k (RemoveVm v) counts (record { network = λ _. refl; addition = λ _. refl; move = λ _. refl }) is
placements-other p count k (AddRule net rule) counts a b is = quiet p count k (AddRule net rule) counts (record { network = λ _. refl; addition = λ _. refl; move = λ _. refl }) is
placements-other p count k (DelRule net number) counts a b is = quiet p count k (DelRule net number) counts (record { network = λ _. refl; addition = λ _. refl; move = λ _. refl }) is
placements-other p count k (AddRoute net route) counts a b is = quiet p count k (AddRoute net route) counts (record { network = λ _. refl; addition = λ _. refl; move = λ _. refl }) is
placements-other p count k (DelRoute net number) counts a b is = quiet p count k (DelRoute net number) counts (record { network = λ _. refl; addition = λ _. refl; move = λ _. refl }) is
placements-other p count k Tick counts a b is = quiet p count k Tick counts (record { network = λ _. refl; addition = λ _. refl; move = λ _. refl }) is
