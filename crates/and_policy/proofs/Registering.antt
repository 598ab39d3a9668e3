-- How the register of VMs follows one entry more.
use Rattle.std.proofs.Common.{◌≡◌, ℕ, ◌+◌, ◌-◌, ◌<◌, ◌^◌, Bool, true, false, ◌||◌, not, List, [], ◌∷◌, ◌++◌, Option, Some, None, nat_eq, cond, length, refl, ap, sym, ◌∙◌, subst, arith, length-append, append-nil}
use Rattle.std.specs.Prelude.{if◌then◌else◌, ◌==◌, is_some, min, option_map}
use Rattle.std.specs.List.{list_any, find}
use Rattle.std.proofs.lemmas.Bool.{eqb-true, leb-false, and_parts}
use Rattle.std.specs.HashMap as hash
use Rattle.std.specs.HashMap.{HashMap}
use Rattle.std.specs.declared.hash.FoldHasher.{FoldHasher}
use Rattle.std.specs.declared.hash.BuildHasherDefault.{BuildHasherDefault}
use Rattle.and_policy.specs.declared.entry.Entry.{Entry}
use Rattle.and_policy.specs.declared.entry.Entry.TheVariants.{AddNet, AddVm, RemoveVm, Place, AddRule, DelRule, AddRoute, DelRoute, Tick}
use Rattle.and_policy.specs.declared.register.Register.{Register}
use Rattle.and_policy.specs.declared.register.Residence.{Residence}
use Rattle.and_policy.specs.declared.placements.Placements.{Placements}
use Rattle.and_policy.specs.Fitting.{fits}
use Rattle.and_policy.specs.Logs.{Vm, added, vms, vm_of, is_live, removes}
use Rattle.and_policy.specs.Placements.{ArePlacements}
use Rattle.and_policy.specs.Programmes.{net_of_vm}
use Rattle.and_policy.specs.Registers.{AreLive, IsRegister, IsSameRegister, pair_eq, residence_of, is_numbered, has_mac, has_address}
use Rattle.and_policy.proofs.Appends.{added-append, vms-append, vms-removed}
use Rattle.and_policy.proofs.Unique.{found_meets, any_is_found, once_last, once_filter, found_more, found_less}

abbrev Map : Type 0 → Type 0 → Type 0
Map K V = HashMap K V (BuildHasherDefault FoldHasher)

pub same-register : (r s : Register) (k : List Entry) → IsSameRegister r s → IsRegister r k → IsRegister s k
same-register r s k same is =
    record {
      placements = same.placements k is.placements;
      live = record {
        count = same.count ∙ is.live.count;
        residents = λ vm. same.residents vm ∙ is.live.residents vm;
        owners = λ net ip. same.owners (net, ip) ∙ is.live.owners net ip;
        macs = λ mac. same.macs mac ∙ is.live.macs mac;
        one_numbered = is.live.one_numbered;
        one_addressed = is.live.one_addressed;
        one_mac = is.live.one_mac;
      };
    }

-- the placements have no part in what is said of live VMs
pub replaced : (r : Register) (p : Placements) (k : List Entry) → AreLive r k → AreLive (record { placements = p; count = r.count; residents = r.residents; owners = r.owners; macs = r.macs }) k
replaced r p k is =
    record { count = is.count; residents = is.residents; owners = is.owners; macs = is.macs; one_numbered = is.one_numbered; one_addressed = is.one_addressed; one_mac = is.one_mac }

-- ---- what follows from it that an entry fits

passed : {F : Type 0} (b : Bool) (f : F) (rest : Option F) → (if b then Some f else rest) ≡ None → (b ≡ false) × (rest ≡ None)
passed true f rest h = absurd (cc)
passed false f rest h = (refl, h)

not_false : (b : Bool) → not b ≡ false → b ≡ true
not_false true h = refl
not_false false h = absurd (cc)

-- a live VM was added
live_added : (k : List Entry) (vm : ℕ) → list_any (is_numbered vm) (added k) ≡ false → list_any (is_numbered vm) (vms k) ≡ false
live_added [] vm h = refl
live_added (AddVm v net mac ip host ∷ k) vm h = both (v == vm) (list_any (removes v) k) refl h (live_added k vm)
  where
    both : (b gone : Bool) → (v == vm) ≡ b → (b || list_any (is_numbered vm) (added k)) ≡ false
        → (list_any (is_numbered vm) (added k) ≡ false → list_any (is_numbered vm) (vms k) ≡ false)
        → list_any (is_numbered vm) (if gone then vms k else record { number = v; net = net; mac = mac; ip = ip; host = host } ∷ vms k) ≡ false
    both true gone e f g = absurd (cc)
    both false true e f g = g f
    both false false e f g = rw e (g f)
live_added (_ ∷ k) vm h = live_added k vm h

-- ---- a VM more

pub register-vm : (r : Register) (count : ℕ) (residents : Map ℕ Residence) (owners : Map (ℕ × ℕ) ℕ) (macs : Map ℕ ℕ) (hosts : Option ℕ) (k : List Entry) (vm net mac ip host : ℕ)
    → fits hosts k (AddVm vm net mac ip host) ≡ None → ArePlacements r.placements (k ++ AddVm vm net mac ip host ∷ []) → AreLive r k
    → count ≡ min (r.count + 1) (2 ^ 32 - 1)
    → ((q : ℕ) → hash.get nat_eq residents q ≡ cond (nat_eq vm q) (Some (record { net = net; mac = mac; ip = ip })) (hash.get nat_eq r.residents q))
    → ((q : ℕ × ℕ) → hash.get pair_eq owners q ≡ cond (pair_eq (net, ip) q) (Some vm) (hash.get pair_eq r.owners q))
    → ((q : ℕ) → hash.get nat_eq macs q ≡ cond (nat_eq mac q) (Some vm) (hash.get nat_eq r.macs q))
    → IsRegister (record { placements = r.placements; count = count; residents = residents; owners = owners; macs = macs }) (k ++ AddVm vm net mac ip host ∷ [])
register-vm r count residents owners macs hosts k vm net mac ip host fit placed is counted resided owned maced =
    let c1 = passed _ _ _ fit in
    let c2 = passed _ _ _ c1.1 in
    let c3 = passed _ _ _ c2.1 in
    let c4 = passed _ _ _ c3.1 in
    let c5 = passed _ _ _ c4.1 in
    let c6 = passed _ _ _ c5.1 in
    let v : Vm = record { number = vm; net = net; mac = mac; ip = ip; host = host } in
    let e : Entry = AddVm vm net mac ip host in
    let all : vms (k ++ AddVm vm net mac ip host ∷ []) ≡ vms k ++ record { number = vm; net = net; mac = mac; ip = ip; host = host } ∷ [] = vms-append k e (λ _. refl) in
    let more : added (k ++ AddVm vm net mac ip host ∷ []) ≡ added k ++ record { number = vm; net = net; mac = mac; ip = ip; host = host } ∷ [] = added-append k e in
    let new : (q : ℕ) → (vm == q) ≡ true → list_any (is_numbered q) (added k) ≡ false = λ q h. subst (λ n. list_any (is_numbered n) (added k) ≡ false) (eqb-true vm q h) c2.0 in
    let fresh : (q : ℕ) → (vm == q) ≡ true → list_any (is_numbered q) (vms k) ≡ false = λ q h. live_added k q (new q h) in
    let alone : (m q : ℕ) → has_address m q v ≡ true → list_any (has_address m q) (vms k) ≡ false = λ m q h.
    let parts = and_parts (net == m) (ip == q) h in
    subst (λ n. list_any (has_address n q) (vms k) ≡ false) (eqb-true net m parts.0) (subst (λ i. list_any (has_address net i) (vms k) ≡ false) (eqb-true ip q parts.1) c5.0) in
    let single : (q : ℕ) → (mac == q) ≡ true → list_any (has_mac q) (vms k) ≡ false = λ q h. subst (λ m. list_any (has_mac m) (vms k) ≡ false) (eqb-true mac q h) c4.0 in
    let few : length (added k) < 1024 = leb-false 1024 (length (added k)) c6.0 in
    record {
      placements = placed;
      live = record {
        count = rw (more, length-append (added k)) (omega (arith, counted, few, is.count));
        residents = λ q. rw all (found_more residence_of (is_numbered q) (vms k) v (vm == q) _ _ refl (fresh q) (is.residents q) (resided q));
        owners = λ m q. rw all (found_more (λ (w : Vm). w.number) (has_address m q) (vms k) v (pair_eq (net, ip) (m, q)) _ _ refl (alone m q) (is.owners m q) (owned (m, q)));
        macs = λ q. rw all (found_more (λ (w : Vm). w.number) (has_mac q) (vms k) v (mac == q) _ _ refl (single q) (is.macs q) (maced q));
        one_numbered = λ q. rw all (once_last (is_numbered q) (vms k) v (is.one_numbered q) (fresh q));
        one_addressed = λ m q. rw all (once_last (has_address m q) (vms k) v (is.one_addressed m q) (alone m q));
        one_mac = λ q. rw all (once_last (has_mac q) (vms k) v (is.one_mac q) (single q));
      };
    }

-- ---- a VM less

pub register-gone : (r : Register) (residents : Map ℕ Residence) (owners : Map (ℕ × ℕ) ℕ) (macs : Map ℕ ℕ) (k : List Entry) (vm : ℕ) (v : Vm)
    → find (is_numbered vm) (vms k) ≡ Some v → ArePlacements r.placements (k ++ RemoveVm vm ∷ []) → AreLive r k
    → ((q : ℕ) → hash.get nat_eq residents q ≡ cond (nat_eq vm q) None (hash.get nat_eq r.residents q))
    → ((q : ℕ × ℕ) → hash.get pair_eq owners q ≡ cond (pair_eq (v.net, v.ip) q) None (hash.get pair_eq r.owners q))
    → ((q : ℕ) → hash.get nat_eq macs q ≡ cond (nat_eq v.mac q) None (hash.get nat_eq r.macs q))
    → IsRegister (record { placements = r.placements; count = r.count; residents = residents; owners = owners; macs = macs }) (k ++ RemoveVm vm ∷ [])
register-gone r residents owners macs k vm v found placed is resided owned maced =
    let e : Entry = RemoveVm vm in
    let more : added (k ++ RemoveVm vm ∷ []) ≡ added k = added-append k e ∙ append-nil (added k) in
    let number : v.number ≡ vm = eqb-true v.number vm (found_meets (is_numbered vm) (vms k) v found) in
    record {
      placements = placed;
      live = record {
        count = rw more is.count;
        residents = λ q. rw (vms-removed k vm) (found_less residence_of (is_numbered q) (is_numbered vm) (vms k) v (vm == q) _ _ found (ap (λ n. n == q) number) (is.one_numbered vm) (is.one_numbered q) (is.residents q) (resided q));
        owners = λ m q. rw (vms-removed k vm) (found_less (λ (w : Vm). w.number) (has_address m q) (is_numbered vm) (vms k) v (pair_eq (v.net, v.ip) (m, q)) _ _ found refl (is.one_numbered vm) (is.one_addressed m q) (is.owners m q) (owned (m, q)));
        macs = λ q. rw (vms-removed k vm) (found_less (λ (w : Vm). w.number) (has_mac q) (is_numbered vm) (vms k) v (v.mac == q) _ _ found refl (is.one_numbered vm) (is.one_mac q) (is.macs q) (maced q));
        one_numbered = λ q. rw (vms-removed k vm) (once_filter (is_numbered q) (λ w. not (w.number == vm)) (vms k) (is.one_numbered q));
        one_addressed = λ m q. rw (vms-removed k vm) (once_filter (has_address m q) (λ w. not (w.number == vm)) (vms k) (is.one_addressed m q));
        one_mac = λ q. rw (vms-removed k vm) (once_filter (has_mac q) (λ w. not (w.number == vm)) (vms k) (is.one_mac q));
      };
    }

some_of : {A B : Type 0} (f : A → B) (o : Option A) (b : B) → option_map f o ≡ Some b → (x : A) × ((o ≡ Some x) × (f x ≡ b))
some_of f None b h = absurd (cc)
some_of f (Some x) b h = (x, (refl, cc h))

none_of : {A B : Type 0} (f : A → B) (o : Option A) → option_map f o ≡ None → o ≡ None
none_of f None h = refl
none_of f (Some x) h = absurd (cc)

pub register-removed : (r : Register) (residents : Map ℕ Residence) (owners : Map (ℕ × ℕ) ℕ) (macs : Map ℕ ℕ) (k : List Entry) (vm : ℕ) (x : Residence)
    → hash.get nat_eq r.residents vm ≡ Some x → ArePlacements r.placements (k ++ RemoveVm vm ∷ []) → AreLive r k
    → ((q : ℕ) → hash.get nat_eq residents q ≡ cond (nat_eq vm q) None (hash.get nat_eq r.residents q))
    → ((q : ℕ × ℕ) → hash.get pair_eq owners q ≡ cond (pair_eq (x.net, x.ip) q) None (hash.get pair_eq r.owners q))
    → ((q : ℕ) → hash.get nat_eq macs q ≡ cond (nat_eq x.mac q) None (hash.get nat_eq r.macs q))
    → IsRegister (record { placements = r.placements; count = r.count; residents = residents; owners = owners; macs = macs }) (k ++ RemoveVm vm ∷ [])
register-removed r residents owners macs k vm x there placed is resided owned maced =
    let some = some_of residence_of (vm_of k vm) x (sym (is.residents vm) ∙ there) in
    register-gone r residents owners macs k vm some.0 some.1.0 placed is resided
    (subst (λ (y : Residence). (q : ℕ × ℕ) → hash.get pair_eq owners q ≡ cond (pair_eq (y.net, y.ip) q) None (hash.get pair_eq r.owners q)) (sym some.1.1) owned)
    (subst (λ (y : Residence). (q : ℕ) → hash.get nat_eq macs q ≡ cond (nat_eq y.mac q) None (hash.get nat_eq r.macs q)) (sym some.1.1) maced)

-- a VM that is removed is there
pub live-found : (r : Register) (hosts : Option ℕ) (k : List Entry) (vm : ℕ) → is_live k vm ≡ true → AreLive r k → hash.get nat_eq r.residents vm ≡ None → ⊥
live-found r hosts k vm live is none =
    any_is_found (is_numbered vm) (vms k) live (none_of residence_of (vm_of k vm) (sym (is.residents vm) ∙ none))

pub fits-removed : (hosts : Option ℕ) (k : List Entry) (vm : ℕ) → fits hosts k (RemoveVm vm) ≡ None → is_live k vm ≡ true
fits-removed hosts k vm h = not_false _ (passed _ _ _ h).0

-- ---- an entry that changes nothing of live VMs

register-same : (r : Register) (k : List Entry) (e : Entry) → added (e ∷ []) ≡ [] → vms (e ∷ []) ≡ [] → ((vm : ℕ) → removes vm e ≡ false)
    → ArePlacements r.placements (k ++ e ∷ []) → AreLive r k → IsRegister r (k ++ e ∷ [])
register-same r k e a b c placed is =
    let more : added (k ++ e ∷ []) ≡ added k = added-append k e ∙ ap (λ (xs : List Vm). added k ++ xs) a ∙ append-nil (added k) in
    let all : vms (k ++ e ∷ []) ≡ vms k = vms-append k e c ∙ ap (λ (xs : List Vm). vms k ++ xs) b ∙ append-nil (vms k) in
    record {
      placements = placed;
      live = record {
        count = rw more is.count;
        residents = λ q. rw all (is.residents q);
        owners = λ m q. rw all (is.owners m q);
        macs = λ q. rw all (is.macs q);
        one_numbered = λ q. rw all (is.one_numbered q);
        one_addressed = λ m q. rw all (is.one_addressed m q);
        one_mac = λ q. rw all (is.one_mac q);
      };
    }

pub register-other : (r : Register) (k : List Entry) (e : Entry)
    → ((vm net mac ip host : ℕ) → e ≡ AddVm vm net mac ip host → ⊥) → ((vm : ℕ) → e ≡ RemoveVm vm → ⊥)
    → ArePlacements r.placements (k ++ e ∷ []) → AreLive r k → IsRegister r (k ++ e ∷ [])
register-other r k (AddVm vm net mac ip host) a b placed is = absurd (a vm net mac ip host refl)
register-other r k (RemoveVm vm) a b placed is = absurd (b vm refl)
register-other r k (Place vm host) a b placed is = register-same r k (Place vm host) refl refl (λ _. refl) placed is
register-other r k (AddNet net) a b placed is = register-same r k (AddNet net) refl refl (λ _. refl) placed is
register-other r k (AddRule net rule) a b placed is = register-same r k (AddRule net rule) refl refl (λ _. refl) placed is
register-other r k (DelRule net number) a b placed is = register-same r k (DelRule net number) refl refl (λ _. refl) placed is
register-other r k (AddRoute net route) a b placed is = register-same r k (AddRoute net route) refl refl (λ _. refl) placed is
register-other r k (DelRoute net number) a b placed is = register-same r k (DelRoute net number) refl refl (λ _. refl) placed is
register-other r k Tick a b placed is = register-same r k Tick refl refl (λ _. refl) placed is

-- ---- who is live

some_map : {A B : Type 0} (f : A → B) (o : Option A) → is_some (option_map f o) ≡ is_some o
some_map f None = refl
some_map f (Some x) = refl

some_found : (p : Vm → Bool) (xs : List Vm) → is_some (find p xs) ≡ list_any p xs
some_found p [] = refl
some_found p (x ∷ xs) = at_first (p x) (some_found p xs)
  where
    at_first : (b : Bool) → is_some (find p xs) ≡ list_any p xs → is_some (cond b (Some x) (find p xs)) ≡ (b || list_any p xs)
    at_first true ih = refl
    at_first false ih = ih

pub added-is : (k : List Entry) (vm : ℕ) → is_some (net_of_vm k vm) ≡ list_any (is_numbered vm) (added k)
added-is k vm = some_map (λ (v : Vm). v.net) (find (is_numbered vm) (added k)) ∙ some_found (is_numbered vm) (added k)

pub live-is : (r : Register) (k : List Entry) (vm : ℕ) → IsRegister r k → is_some (hash.get nat_eq r.residents vm) ≡ is_live k vm
live-is r k vm is = ap is_some (is.live.residents vm) ∙ some_map residence_of (vm_of k vm) ∙ some_found (is_numbered vm) (vms k)

pub mac-is : (r : Register) (k : List Entry) (mac : ℕ) → IsRegister r k → is_some (hash.get nat_eq r.macs mac) ≡ list_any (has_mac mac) (vms k)
mac-is r k mac is = ap is_some (is.live.macs mac) ∙ some_map (λ (v : Vm). v.number) (find (has_mac mac) (vms k)) ∙ some_found (has_mac mac) (vms k)

pub address-is : (r : Register) (k : List Entry) (net ip : ℕ) → IsRegister r k → is_some (hash.get pair_eq r.owners (net, ip)) ≡ list_any (has_address net ip) (vms k)
address-is r k net ip is = ap is_some (is.live.owners net ip) ∙ some_map (λ (v : Vm). v.number) (find (has_address net ip) (vms k)) ∙ some_found (has_address net ip) (vms k)
