-- In a log the network of an entry stays what it is.
use Rattle.std.proofs.Common.{◌≡◌, ℕ, ◌+◌, ◌≤◌, Bool, true, false, ◌||◌, not, List, [], ◌∷◌, ◌++◌, length, take, Option, Some, None, refl, ap, sym, ◌∙◌, arith, append_assoc, subst, cond}
use Rattle.std.specs.Prelude.{if◌then◌else◌, ◌==◌, slice_get}
use Rattle.std.specs.List.{list_any, find}
use Rattle.std.proofs.lemmas.List.Folds.{list_any-append}
use Rattle.std.proofs.lemmas.List.{take-append-le}
use Rattle.std.proofs.Math.Seq.{take-length}
use Rattle.std.proofs.lemmas.Bool.{or_left}
use Rattle.and_policy.specs.declared.entry.Entry.{Entry}
use Rattle.and_policy.specs.declared.entry.Entry.TheVariants.{AddNet, AddVm, RemoveVm, Place, AddRule, DelRule, AddRoute, DelRoute, Tick}
use Rattle.and_policy.specs.declared.entry.EntryFault.{EntryFault}
use Rattle.and_policy.specs.declared.entry.Op.{Op}
use Rattle.and_policy.specs.declared.entry.Op.TheVariants as ops
use Rattle.and_policy.specs.Checks.{first_failing}
use Rattle.and_policy.specs.declared.entry.EntryFault.TheVariants.{NoVm, NoHost}
use Rattle.and_policy.specs.Fitting.{fits, IsLog, no_host}
use Rattle.and_policy.specs.Programmes.{is_entry_of, net_of_vm, is_net, entries}
use Rattle.and_policy.specs.Logs.{Vm, added, vms, is_live, removes, now}
use Rattle.and_policy.proofs.Logging.{entries-append}
use Rattle.and_tables.specs.Lasts.{Agree}

-- the VM that an entry names was added
abbrev known : List Entry → Entry → Type 0
known k (RemoveVm vm) = list_any (λ v. v.number == vm) (added k) ≡ true
known k (Place vm host) = list_any (λ v. v.number == vm) (added k) ≡ true
known k _ = Unit {0}

abbrev AllKnown : List Entry → List Entry → Type 0
AllKnown k [] = Unit {0}
AllKnown k (e ∷ later) = known k e × AllKnown k later

vm_first : (b c m : Bool) (x : Vm) (xs : List Vm) (vm : ℕ) → (x.number == vm) ≡ c → list_any (λ w. w.number == vm) (if b then xs else x ∷ xs) ≡ true
    → (list_any (λ w. w.number == vm) xs ≡ true → m ≡ true) → (c || m) ≡ true
vm_first b true m x xs vm e h f = refl
vm_first true false m x xs vm e h f = f h
vm_first false false m x xs vm e h f = f (sym (ap (λ d. d || list_any (λ w. w.number == vm) xs) e) ∙ h)

live_added : (k : List Entry) (vm : ℕ) → is_live k vm ≡ true → list_any (λ v. v.number == vm) (added k) ≡ true
live_added [] vm h = h
live_added (AddVm v net mac ip host ∷ k) vm h =
    vm_first (list_any (removes v) k) (v == vm) (list_any (λ w. w.number == vm) (added k)) (record { number = v; net = net; mac = mac; ip = ip; host = host }) (vms k) vm refl h (live_added k vm)
live_added (AddNet _ ∷ k) vm h = live_added k vm h
live_added (RemoveVm _ ∷ k) vm h = live_added k vm h
live_added (Place _ _ ∷ k) vm h = live_added k vm h
live_added (AddRule _ _ ∷ k) vm h = live_added k vm h
live_added (DelRule _ _ ∷ k) vm h = live_added k vm h
live_added (AddRoute _ _ ∷ k) vm h = live_added k vm h
live_added (DelRoute _ _ ∷ k) vm h = live_added k vm h
live_added (Tick ∷ k) vm h = live_added k vm h

failing : (b : Bool) (f : EntryFault) (rest : List (Bool × EntryFault)) → first_failing ((not b, f) ∷ rest) ≡ None → b ≡ true
failing true f rest h = refl
failing false f rest h = absurd (cc h)

pub added_more : (k more : List Entry) → added (k ++ more) ≡ added k ++ added more
added_more [] more = refl
added_more (AddVm v net mac ip host ∷ k) more = rw (added_more k more) refl
added_more (AddNet _ ∷ k) more = added_more k more
added_more (RemoveVm _ ∷ k) more = added_more k more
added_more (Place _ _ ∷ k) more = added_more k more
added_more (AddRule _ _ ∷ k) more = added_more k more
added_more (DelRule _ _ ∷ k) more = added_more k more
added_more (AddRoute _ _ ∷ k) more = added_more k more
added_more (DelRoute _ _ ∷ k) more = added_more k more
added_more (Tick ∷ k) more = added_more k more

still_added : (k more : List Entry) (vm : ℕ) → list_any (λ v. v.number == vm) (added k) ≡ true → list_any (λ v. v.number == vm) (added (k ++ more)) ≡ true
still_added k more vm h = rw (added_more k more, list_any-append (λ v. v.number == vm) (added k) (added more)) (or_left _ _ h)

known_by : (hosts : Option ℕ) (k more : List Entry) (e : Entry) → fits hosts k e ≡ None → known (k ++ more) e
known_by hosts k more (RemoveVm vm) h = still_added k more vm (live_added k vm (failing (is_live k vm) NoVm [] h))
known_by hosts k more (Place vm host) h = still_added k more vm (live_added k vm (failing (is_live k vm) NoVm ((no_host hosts host, NoHost) ∷ []) h))
known_by hosts k more (AddNet _) h = tt
known_by hosts k more (AddVm _ _ _ _ _) h = tt
known_by hosts k more (AddRule _ _) h = tt
known_by hosts k more (DelRule _ _) h = tt
known_by hosts k more (AddRoute _ _) h = tt
known_by hosts k more (DelRoute _ _) h = tt
known_by hosts k more Tick h = tt

here : (before : List Entry) (e : Entry) (later : List Entry) → slice_get (before ++ e ∷ later) (length before) ≡ Some e
here [] e later = refl
here (x ∷ before) e later = here before e later

all_known : (hosts : Option ℕ) (k before later : List Entry) → before ++ later ≡ k → IsLog hosts k → AllKnown k later
all_known hosts k before [] e l = tt
all_known hosts k before (x ∷ later) e l =
    let there : slice_get k (length before) ≡ Some x = ap (λ xs. slice_get xs (length before)) (sym e) ∙ here before x later in
    let front : take (length before) k ≡ before = ap (take (length before)) (sym e) ∙ take-append-le (length before) before (x ∷ later) (omega arith) ∙ take-length before in
    let fit : fits hosts before x ≡ None = subst (λ (b : List Entry). fits hosts b x ≡ None) front (l (length before) x there) in (
      subst (λ (xs : List Entry). known xs x) e (known_by hosts before (x ∷ later) x fit),
      all_known hosts k (before ++ x ∷ []) later (append_assoc before (x ∷ []) later ∙ e) l,
    )

find_first : (vm : ℕ) (xs ys : List Vm) → list_any (λ v. v.number == vm) xs ≡ true → find (λ v. v.number == vm) (xs ++ ys) ≡ find (λ v. v.number == vm) xs
find_first vm [] ys h = absurd (cc h)
find_first vm (x ∷ xs) ys h = at_first (x.number == vm) h (find_first vm xs ys)
  where
    at_first : (b : Bool) → (b || list_any (λ v. v.number == vm) xs) ≡ true → (list_any (λ v. v.number == vm) xs ≡ true → find (λ v. v.number == vm) (xs ++ ys) ≡ find (λ v. v.number == vm) xs)
        → cond b (Some x) (find (λ v. v.number == vm) (xs ++ ys)) ≡ cond b (Some x) (find (λ v. v.number == vm) xs)
    at_first true h f = refl
    at_first false h f = f h

same_net : (k more : List Entry) (vm : ℕ) → list_any (λ v. v.number == vm) (added k) ≡ true → net_of_vm (k ++ more) vm ≡ net_of_vm k vm
same_net k more vm h = rw (added_more k more, find_first vm (added k) (added more) h) refl

agree_at : (k more : List Entry) (e : Entry) → known k e → (net : ℕ) → is_entry_of (k ++ more) net (ops.Entry e) ≡ is_entry_of k net (ops.Entry e)
agree_at k more (RemoveVm vm) h net = ap (λ o. is_net o net) (same_net k more vm h)
agree_at k more (Place vm host) h net = ap (λ o. is_net o net) (same_net k more vm h)
agree_at k more (AddNet _) h net = refl
agree_at k more (AddVm _ _ _ _ _) h net = refl
agree_at k more (AddRule _ _) h net = refl
agree_at k more (DelRule _ _) h net = refl
agree_at k more (AddRoute _ _) h net = refl
agree_at k more (DelRoute _ _) h net = refl
agree_at k more Tick h net = refl

agree_all : (k more : List Entry) (p : List Op) → AllKnown k (entries p) → Agree k (k ++ more) p
agree_all k more [] h = tt
agree_all k more (ops.Entry e ∷ p) h = (agree_at k more e h.0, agree_all k more p h.1)
agree_all k more (ops.Offload order ∷ p) h = (λ net. refl, agree_all k more p h)

pub entries_more : (p q : List Op) → entries (p ++ q) ≡ entries p ++ entries q
entries_more p q = entries-append p q

-- where the entries are a log, later operations change nothing of which networks the earlier ones are entries of
pub agree : (hosts : Option ℕ) (p q : List Op) → IsLog hosts (entries p) → Agree (entries p) (entries (p ++ q)) p
agree hosts p q l = rw (entries_more p q) (agree_all (entries p) (entries q) p (all_known hosts (entries p) [] (entries p) refl l))

now_more : (k more : List Entry) → now k ≤ now (k ++ more)
now_more [] more = omega arith
now_more (AddVm v net mac ip host ∷ k) more = now_more k more
now_more (AddNet _ ∷ k) more = now_more k more
now_more (RemoveVm _ ∷ k) more = now_more k more
now_more (Place _ _ ∷ k) more = now_more k more
now_more (AddRule _ _ ∷ k) more = now_more k more
now_more (DelRule _ _ ∷ k) more = now_more k more
now_more (AddRoute _ _ ∷ k) more = now_more k more
now_more (DelRoute _ _ ∷ k) more = now_more k more
now_more (Tick ∷ k) more = omega (arith, now_more k more)

-- ticks add up
pub now_add : (k more : List Entry) → now (k ++ more) ≡ now k + now more
now_add [] more = omega arith
now_add (AddVm v net mac ip host ∷ k) more = now_add k more
now_add (AddNet _ ∷ k) more = now_add k more
now_add (RemoveVm _ ∷ k) more = now_add k more
now_add (Place _ _ ∷ k) more = now_add k more
now_add (AddRule _ _ ∷ k) more = now_add k more
now_add (DelRule _ _ ∷ k) more = now_add k more
now_add (AddRoute _ _ ∷ k) more = now_add k more
now_add (DelRoute _ _ ∷ k) more = now_add k more
now_add (Tick ∷ k) more = omega (arith, now_add k more)

pub later_now : (p q : List Op) → now (entries p) ≤ now (entries (p ++ q))
later_now p q = rw (entries_more p q) (now_more (entries p) (entries q))
