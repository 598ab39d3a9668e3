-- What one entry more at the end adds to what a prefix has.
use Rattle.std.proofs.Common.{◌≡◌, ℕ, Bool, true, false, ◌&&◌, ◌||◌, not, List, [], ◌∷◌, ◌++◌, Option, Some, None, refl, ap, sym, ◌∙◌, append-nil, inl, inr}
use Rattle.std.specs.Prelude.{if◌then◌else◌, ◌==◌}
use Rattle.std.specs.List.{list_any, filter}
use Rattle.std.proofs.lemmas.Bool.{cases_eq, eq-eqb, ne_eqb}
use Rattle.std.proofs.lemmas.List.Folds.{list_any-append}
use Rattle.and_policy.specs.declared.entry.Entry.{Entry}
use Rattle.and_policy.specs.declared.entry.Entry.TheVariants.{AddNet, AddVm, RemoveVm, AddRule, DelRule, AddRoute, DelRoute}
use Rattle.and_policy.specs.declared.entry.Rule.{Rule}
use Rattle.and_policy.specs.declared.entry.Route.{Route}
use Rattle.and_policy.specs.Logs.{Vm, nets, added, vms, removes, rules, deletes_rule, routes, deletes_route}
use Rattle.and_policy.specs.Numbered.{less}
use Rattle.and_policy.specs.Owners.{place, host_by, or_else}

-- a choice about the first element, before a list and after
if_cons : {A : Type 0} (b : Bool) (x : A) (xs ys : List A) → (if b then x ∷ (xs ++ ys) else xs ++ ys) ≡ (if b then x ∷ xs else xs) ++ ys
if_cons true x xs ys = refl
if_cons false x xs ys = refl

unless_cons : {A : Type 0} (b : Bool) (x : A) (xs ys : List A) → (if b then xs ++ ys else x ∷ (xs ++ ys)) ≡ (if b then xs else x ∷ xs) ++ ys
unless_cons true x xs ys = refl
unless_cons false x xs ys = refl

pub nets-append : (k : List Entry) (e : Entry) → nets (k ++ e ∷ []) ≡ nets k ++ nets (e ∷ [])
nets-append [] e = refl
nets-append (AddNet net ∷ k) e = ap (λ ns. net ∷ ns) (nets-append k e)
nets-append (_ ∷ k) e = nets-append k e

pub added-append : (k : List Entry) (e : Entry) → added (k ++ e ∷ []) ≡ added k ++ added (e ∷ [])
added-append [] e = refl
added-append (AddVm vm net mac ip host ∷ k) e = rw (added-append k e)
added-append (_ ∷ k) e = added-append k e

-- an entry that fails the test changes no answer about what comes later
pub any-append : (p : Entry → Bool) (k : List Entry) (e : Entry) → p e ≡ false → list_any p (k ++ e ∷ []) ≡ list_any p k
any-append p [] e h = rw h
any-append p (x ∷ k) e h = ap (λ b. p x || b) (any-append p k e h)

pub vms-append : (k : List Entry) (e : Entry) → ((vm : ℕ) → removes vm e ≡ false) → vms (k ++ e ∷ []) ≡ vms k ++ vms (e ∷ [])
vms-append [] e h = refl
vms-append (AddVm vm net mac ip host ∷ k) e h =
    rw (any-append (removes vm) k e (h vm), vms-append k e h) (unless_cons (list_any (removes vm) k) _ (vms k) (vms (e ∷ [])))
vms-append (_ ∷ k) e h = vms-append k e h

pub rules-append : (k : List Entry) (e : Entry) (net : ℕ) → ((n m : ℕ) → deletes_rule n m e ≡ false) → rules (k ++ e ∷ []) net ≡ rules k net ++ rules (e ∷ []) net
rules-append [] e net h = refl
rules-append (AddRule n rule ∷ k) e net h =
    rw (any-append (deletes_rule net rule.number) k e (h net rule.number), rules-append k e net h) (if_cons ((n == net) && not (list_any (deletes_rule net rule.number) k)) rule (rules k net) (rules (e ∷ []) net))
rules-append (_ ∷ k) e net h = rules-append k e net h

-- the same at each kind of entry
pub added-net : (k : List Entry) (net : ℕ) → added (k ++ AddNet net ∷ []) ≡ added k
added-net k net = added-append k (AddNet net) ∙ append-nil (added k)

pub vms-net : (k : List Entry) (net : ℕ) → vms (k ++ AddNet net ∷ []) ≡ vms k
vms-net k net = vms-append k (AddNet net) (λ _. refl) ∙ append-nil (vms k)

pub rules-net : (k : List Entry) (net q : ℕ) → rules (k ++ AddNet net ∷ []) q ≡ rules k q
rules-net k net q = rules-append k (AddNet net) q (λ _ _. refl) ∙ append-nil (rules k q)

pub nets-vm : (k : List Entry) (vm net mac ip host : ℕ) → nets (k ++ AddVm vm net mac ip host ∷ []) ≡ nets k
nets-vm k vm net mac ip host = nets-append k (AddVm vm net mac ip host) ∙ append-nil (nets k)

pub rules-vm : (k : List Entry) (vm net mac ip host q : ℕ) → rules (k ++ AddVm vm net mac ip host ∷ []) q ≡ rules k q
rules-vm k vm net mac ip host q = rules-append k (AddVm vm net mac ip host) q (λ _ _. refl) ∙ append-nil (rules k q)

pub nets-rule : (k : List Entry) (net : ℕ) (rule : Rule) → nets (k ++ AddRule net rule ∷ []) ≡ nets k
nets-rule k net rule = nets-append k (AddRule net rule) ∙ append-nil (nets k)

pub added-rule : (k : List Entry) (net : ℕ) (rule : Rule) → added (k ++ AddRule net rule ∷ []) ≡ added k
added-rule k net rule = added-append k (AddRule net rule) ∙ append-nil (added k)

pub vms-rule : (k : List Entry) (net : ℕ) (rule : Rule) → vms (k ++ AddRule net rule ∷ []) ≡ vms k
vms-rule k net rule = vms-append k (AddRule net rule) (λ _. refl) ∙ append-nil (vms k)

pub rules-rule : (k : List Entry) (net : ℕ) (rule : Rule) (q : ℕ) → rules (k ++ AddRule net rule ∷ []) q ≡ rules k q ++ (if net == q then rule ∷ [] else [])
rules-rule k net rule q = rules-append k (AddRule net rule) q (λ _ _. refl) ∙ ap (λ xs. rules k q ++ xs) (alone (net == q))
  where
    alone : (b : Bool) → (if b && true then rule ∷ [] else []) ≡ (if b then rule ∷ [] else [])
    alone true = refl
    alone false = refl

-- ---- entries that take away

or_else_assoc : (a b c : Option ℕ) → or_else (or_else a b) c ≡ or_else a (or_else b c)
or_else_assoc (Some x) b c = refl
or_else_assoc None b c = refl

pub or_else_none : (a : Option ℕ) → or_else a None ≡ a
or_else_none (Some x) = refl
or_else_none None = refl

pub place-append : (k : List Entry) (e : Entry) (vm : ℕ) → place (k ++ e ∷ []) vm ≡ or_else (host_by vm e) (place k vm)
place-append [] e vm = sym (or_else_none (host_by vm e))
place-append (x ∷ k) e vm = ap (λ a. or_else a (host_by vm x)) (place-append k e vm) ∙ or_else_assoc (host_by vm e) (place k vm) (host_by vm x)

same_eqb : (m n : ℕ) → (m == n) ≡ (n == m)
same_eqb m n = elim (cases_eq m n) as (λ _. (m == n) ≡ (n == m)) [ inl e ↦ rw (eq-eqb m n e, eq-eqb n m (sym e)) refl | inr e ↦ rw (ne_eqb m n e, ne_eqb n m (λ h. e (sym h))) refl ]

without : (a b : Bool) (x : Vm) (vm : ℕ) (xs ys : List Vm) → (x.number == vm) ≡ b → ys ≡ filter (λ v. not (v.number == vm)) xs
    → (if a || (b || false) then ys else x ∷ ys) ≡ filter (λ v. not (v.number == vm)) (if a then xs else x ∷ xs)
without true b x vm xs ys e h = h
without false true x vm xs ys e h = rw e h
without false false x vm xs ys e h = rw e (ap (λ zs. x ∷ zs) h)

pub vms-removed : (k : List Entry) (vm : ℕ) → vms (k ++ RemoveVm vm ∷ []) ≡ filter (λ v. not (v.number == vm)) (vms k)
vms-removed [] vm = refl
vms-removed (AddVm v net mac ip host ∷ k) vm =
    rw (list_any-append (removes v) k (RemoveVm vm ∷ []))
    (without (list_any (removes v) k) (vm == v) (record { number = v; net = net; mac = mac; ip = ip; host = host }) vm (vms k) (vms (k ++ RemoveVm vm ∷ [])) (same_eqb v vm) (vms-removed k vm))
vms-removed (_ ∷ k) vm = vms-removed k vm

fewer : {A : Type 0} (number : A → ℕ) (here gone same b : Bool) (x : A) (n : ℕ) (xs ys : List A) → (number x == n) ≡ b → ys ≡ less number same n xs
    → (if here && not (gone || ((same && b) || false)) then x ∷ ys else ys) ≡ less number same n (if here && not gone then x ∷ xs else xs)
fewer number false gone same b x n xs ys e h = h
fewer number true true same b x n xs ys e h = h
fewer number true false false b x n xs ys e h = ap (λ zs. x ∷ zs) h
fewer number true false true true x n xs ys e h = rw e h
fewer number true false true false x n xs ys e h = rw e (ap (λ zs. x ∷ zs) h)

pub rules-removed : (k : List Entry) (n m net : ℕ) → rules (k ++ DelRule n m ∷ []) net ≡ less (λ r. r.number) (n == net) m (rules k net)
rules-removed [] n m net = empty (n == net)
  where
    empty : (b : Bool) → [] ≡ less (λ (r : Rule). r.number) b m []
    empty true = refl
    empty false = refl
rules-removed (AddRule a rule ∷ k) n m net =
    rw (list_any-append (deletes_rule net rule.number) k (DelRule n m ∷ []))
    (fewer (λ (r : Rule). r.number) (a == net) (list_any (deletes_rule net rule.number) k) (n == net) (m == rule.number) rule m (rules k net) (rules (k ++ DelRule n m ∷ []) net) (same_eqb rule.number m) (rules-removed k n m net))
rules-removed (_ ∷ k) n m net = rules-removed k n m net

pub routes-append : (k : List Entry) (e : Entry) (net : ℕ) → ((n m : ℕ) → deletes_route n m e ≡ false) → routes (k ++ e ∷ []) net ≡ routes k net ++ routes (e ∷ []) net
routes-append [] e net h = refl
routes-append (AddRoute n route ∷ k) e net h =
    rw (any-append (deletes_route net route.number) k e (h net route.number), routes-append k e net h) (if_cons ((n == net) && not (list_any (deletes_route net route.number) k)) route (routes k net) (routes (e ∷ []) net))
routes-append (_ ∷ k) e net h = routes-append k e net h

pub routes-removed : (k : List Entry) (n m net : ℕ) → routes (k ++ DelRoute n m ∷ []) net ≡ less (λ r. r.number) (n == net) m (routes k net)
routes-removed [] n m net = empty (n == net)
  where
    empty : (b : Bool) → [] ≡ less (λ (r : Route). r.number) b m []
    empty true = refl
    empty false = refl
routes-removed (AddRoute a route ∷ k) n m net =
    rw (list_any-append (deletes_route net route.number) k (DelRoute n m ∷ []))
    (fewer (λ (r : Route). r.number) (a == net) (list_any (deletes_route net route.number) k) (n == net) (m == route.number) route m (routes k net) (routes (k ++ DelRoute n m ∷ []) net) (same_eqb route.number m) (routes-removed k n m net))
routes-removed (_ ∷ k) n m net = routes-removed k n m net
