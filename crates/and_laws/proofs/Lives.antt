-- Which VMs are live, and where, after one entry more.
use Rattle.std.proofs.Common.{◌≡◌, ℕ, Bool, true, false, ◌&&◌, ◌||◌, not, List, [], ◌∷◌, ◌++◌, refl, sym, ap, ◌∙◌, arith, append-nil, Option, Some, None}
use Rattle.std.specs.Prelude.{if◌then◌else◌, ◌==◌}
use Rattle.std.specs.List.{list_any}
use Rattle.std.proofs.lemmas.Bool.{cases_eq, or_parts}
use Rattle.std.proofs.lemmas.Grind.{common_steps}
use Rattle.and_policy.specs.declared.entry.Entry.{Entry}
use Rattle.and_policy.specs.declared.entry.Entry.TheVariants.{AddVm, RemoveVm, Place}
use Rattle.and_policy.specs.Logs.{Vm, vms, added, is_live, removes}
use Rattle.and_policy.specs.Owners.{place, host_by, or_else}
use Rattle.and_policy.proofs.Appends.{vms-append}

or_false : (b : Bool) → (b || false) ≡ b
or_false true = refl
or_false false = refl

or_assoc : (a b c : Bool) → (a || (b || c)) ≡ ((a || b) || c)
or_assoc true b c = refl
or_assoc false b c = refl

any_more : {X : Type 0} (p : X → Bool) (xs : List X) (y : X) → list_any p (xs ++ y ∷ []) ≡ (list_any p xs || p y)
any_more p [] y = or_false (p y)
any_more p (x ∷ xs) y = ap (λ b. p x || b) (any_more p xs y) ∙ or_assoc (p x) (list_any p xs) (p y)

any_unless : {X : Type 0} (p : X → Bool) (b : Bool) (x : X) (xs : List X) → list_any p (if b then xs else x ∷ xs) ≡ (if b then list_any p xs else (p x || list_any p xs))
any_unless p true x xs = refl
any_unless p false x xs = refl

-- ---- an entry that adds a VM

pub live_added : (k : List Entry) (vm net mac ip host v : ℕ) → is_live (k ++ AddVm vm net mac ip host ∷ []) v ≡ (is_live k v || (vm == v))
live_added k vm net mac ip host v =
    let is : Vm → Bool = λ x. x.number == v in
    ap (list_any is) (vms-append k (AddVm vm net mac ip host) (λ u. refl)) ∙ any_more is (vms k) (record { number = vm; net = net; mac = mac; ip = ip; host = host })

-- a VM that was never added is not live
pub not_added : (k : List Entry) (v : ℕ) → list_any (λ x. x.number == v) (added k) ≡ false → is_live k v ≡ false
not_added [] v e = refl
not_added (AddVm w net mac ip host ∷ k) v e =
    let both = or_parts (w == v) (list_any (λ x. x.number == v) (added k)) e in
    let rest = not_added k v both.1 in
    any_unless (λ x. x.number == v) (list_any (removes w) k) (record { number = w; net = net; mac = mac; ip = ip; host = host }) (vms k)
    ∙ neither_kept (list_any (removes w) k) (w == v) (is_live k v) both.0 rest
  where
    neither_kept : (b c l : Bool) → c ≡ false → l ≡ false → (if b then l else (c || l)) ≡ false
    neither_kept true c l e f = f
    neither_kept false true l e f = absurd (cc)
    neither_kept false false l e f = f
not_added (_ ∷ k) v e = not_added k v e

-- ---- an entry that removes a VM

removed_step : (b l : Bool) (u w v : ℕ) → (if (b || (u == w)) then (l && not (u == v)) else ((w == v) || (l && not (u == v)))) ≡ ((if b then l else ((w == v) || l)) && not (u == v))
removed_step true l u w v = refl
removed_step false true u w v = grind (arith, common_steps, cases_eq u w, cases_eq w v, cases_eq u v)
removed_step false false u w v = grind (arith, common_steps, cases_eq u w, cases_eq w v, cases_eq u v)

pub live_removed : (k : List Entry) (u v : ℕ) → is_live (k ++ RemoveVm u ∷ []) v ≡ (is_live k v && not (u == v))
live_removed [] u v = refl
live_removed (AddVm w net mac ip host ∷ k) u v =
    let vm : Vm = record { number = w; net = net; mac = mac; ip = ip; host = host } in
    let is : Vm → Bool = λ x. x.number == v in
    any_unless is (list_any (removes w) (k ++ RemoveVm u ∷ [])) vm (vms (k ++ RemoveVm u ∷ []))
    ∙ ap (λ l. if list_any (removes w) (k ++ RemoveVm u ∷ []) then l else ((w == v) || l)) (live_removed k u v)
    ∙ ap (λ b. if b then (is_live k v && not (u == v)) else ((w == v) || (is_live k v && not (u == v)))) (any_more (removes w) k (RemoveVm u))
    ∙ removed_step (list_any (removes w) k) (is_live k v) u w v
    ∙ ap (λ b. b && not (u == v)) (sym (any_unless is (list_any (removes w) k) vm (vms k)))
live_removed (_ ∷ k) u v = live_removed k u v

-- ---- other entries

-- an entry that neither adds nor removes a VM
abbrev pub KeepsVms : Entry → Type 0
KeepsVms (AddVm vm net mac ip host) = ⊥
KeepsVms (RemoveVm vm) = ⊥
KeepsVms _ = Unit {0}

adds_none : (e : Entry) → KeepsVms e → vms (e ∷ []) ≡ []
adds_none (AddVm vm net mac ip host) n = absurd n
adds_none (RemoveVm vm) n = absurd n
adds_none e n = refl

removes_none : (e : Entry) (vm : ℕ) → KeepsVms e → removes vm e ≡ false
removes_none (AddVm v net mac ip host) vm n = absurd n
removes_none (RemoveVm v) vm n = absurd n
removes_none e vm n = refl

pub live_kept : (k : List Entry) (e : Entry) (v : ℕ) → KeepsVms e → is_live (k ++ e ∷ []) v ≡ is_live k v
live_kept k e v n =
    ap (list_any (λ (x : Vm). x.number == v)) (vms-append k e (λ u. removes_none e u n) ∙ (ap (λ xs. vms k ++ xs) (adds_none e n) ∙ append-nil (vms k)))

-- ---- places

else_none : (o : Option ℕ) → o ≡ or_else o None
else_none None = refl
else_none (Some h) = refl

else_assoc : (a b c : Option ℕ) → or_else (or_else a b) c ≡ or_else a (or_else b c)
else_assoc None b c = refl
else_assoc (Some h) b c = refl

pub place_more : (k : List Entry) (e : Entry) (v : ℕ) → place (k ++ e ∷ []) v ≡ or_else (host_by v e) (place k v)
place_more [] e v = else_none (host_by v e)
place_more (x ∷ k) e v = ap (λ o. or_else o (host_by v x)) (place_more k e v) ∙ else_assoc (host_by v e) (place k v) (host_by v x)

abbrev pub KeepsPlaces : Entry → Type 0
KeepsPlaces (AddVm vm net mac ip host) = ⊥
KeepsPlaces (Place vm host) = ⊥
KeepsPlaces _ = Unit {0}

brings_none : (e : Entry) (v : ℕ) → KeepsPlaces e → host_by v e ≡ None
brings_none (AddVm vm net mac ip host) v n = absurd n
brings_none (Place vm host) v n = absurd n
brings_none e v n = refl

pub place_kept : (k : List Entry) (e : Entry) (v : ℕ) → KeepsPlaces e → place (k ++ e ∷ []) v ≡ place k v
place_kept k e v n = place_more k e v ∙ ap (λ o. or_else o (place k v)) (brings_none e v n)
