-- Entries of other networks leave alone where a route leads.
use Rattle.std.proofs.Common.{◌≡◌, ℕ, Bool, true, false, ◌&&◌, ◌||◌, cond, List, [], ◌∷◌, ◌++◌, refl, sym, ap, ◌∙◌, subst, arith, Option, Some, None, ⊎_elim, inl, inr, ◌⊎◌}
use Rattle.std.specs.Prelude.{if◌then◌else◌, ◌==◌}
use Rattle.std.specs.List.{list_any, find}
use Rattle.std.proofs.lemmas.Bool.{and_parts}
use Rattle.std.proofs.lemmas.Grind.{common_steps}
use Rattle.and_policy.specs.declared.entry.Entry.{Entry}
use Rattle.and_policy.specs.declared.entry.Entry.TheVariants.{AddNet, AddVm, RemoveVm, Place, AddRule, DelRule, AddRoute, DelRoute, Tick}
use Rattle.and_policy.specs.declared.decision.Name.{Name}
use Rattle.and_policy.specs.declared.decision.Routing.{Routing}
use Rattle.and_policy.specs.declared.decision.Routing.TheVariants as routings
use Rattle.and_policy.specs.declared.decision.Routed.TheVariants as routeds
use Rattle.and_policy.specs.Logs.{Vm, vms, removes, routes, deletes_route}
use Rattle.and_policy.specs.Owners.{place, host_by, or_else, owner_place, routed_at, routed_by, routed}
use Rattle.and_policy.specs.Routes.{route, routing_by, deciding_route}
use Rattle.and_policy.specs.Programmes.{net_of_vm, net_of, is_net}
use Rattle.and_policy.proofs.Appends.{any-append}
use Rattle.and_laws.proofs.Lives.{place_more}

-- the entries t say of each VM that is added in the list which network it has
abbrev pub Knows : List Entry → List Entry → Type 0
Knows t [] = Unit {0}
Knows t (AddVm vm net mac ip host ∷ later) = (net_of_vm t vm ≡ Some net) × Knows t later
Knows t (_ ∷ later) = Knows t later

pub knows_front : (t xs ys : List Entry) → Knows t (xs ++ ys) → Knows t xs
knows_front t [] ys k = tt
knows_front t (AddVm vm net mac ip host ∷ xs) ys k = (k.0, knows_front t xs ys k.1)
knows_front t (_ ∷ xs) ys k = knows_front t xs ys k

pub knows_back : (t xs ys : List Entry) → Knows t (xs ++ ys) → Knows t ys
knows_back t [] ys k = k
knows_back t (AddVm vm net mac ip host ∷ xs) ys k = knows_back t xs ys k.1
knows_back t (_ ∷ xs) ys k = knows_back t xs ys k

-- the entry is none of the network, by what t says of VMs
abbrev pub IsOther : List Entry → ℕ → Entry → Type 0
IsOther t net e = is_net (net_of t e) net ≡ false

any_more : {X : Type 0} (p : X → Bool) (xs : List X) (y : X) → list_any p (xs ++ y ∷ []) ≡ (list_any p xs || p y)
any_more p [] y = last (p y)
  where
    last : (b : Bool) → (b || false) ≡ b
    last true = refl
    last false = refl
any_more p (x ∷ xs) y = ap (λ b. p x || b) (any_more p xs y) ∙ assoc (p x) (list_any p xs) (p y)
  where
    assoc : (a b c : Bool) → (a || (b || c)) ≡ ((a || b) || c)
    assoc true b c = refl
    assoc false b c = refl

-- ---- routes

deletes_none : (t : List Entry) (net number : ℕ) (e : Entry) → IsOther t net e → deletes_route net number e ≡ false
deletes_none t net number (DelRoute n m) other = let differs : (n == net) ≡ false = other in rw differs
deletes_none t net number e other = refl

no_new_route : (t : List Entry) (net : ℕ) (e : Entry) → IsOther t net e → routes (e ∷ []) net ≡ []
no_new_route t net (AddRoute n route) other = let differs : (n == net) ≡ false = other in rw differs
no_new_route t net e other = refl

routes_kept : (t k : List Entry) (e : Entry) (net : ℕ) → IsOther t net e → routes (k ++ e ∷ []) net ≡ routes k net
routes_kept t [] e net other = no_new_route t net e other
routes_kept t (AddRoute n route ∷ k) e net other =
    rw (any-append (deletes_route net route.number) k e (deletes_none t net route.number e other), routes_kept t k e net other) refl
routes_kept t (_ ∷ k) e net other = routes_kept t k e net other

-- ---- owners

abbrev has : ℕ → ℕ → Vm → Bool
has net address v = (v.net == net) && (v.ip == address)

other_has_not : (net to : ℕ) (b : Bool) → (net == to) ≡ false → ((net == to) && b) ≡ false
other_has_not net to b e = rw e

no_new_owner : (t : List Entry) (net address : ℕ) (e : Entry) → IsOther t net e → find (has net address) (vms (e ∷ [])) ≡ None
no_new_owner t net address (AddVm vm n mac ip host) other = let differs : (n == net) ≡ false = other in rw differs
no_new_owner t net address e other = refl

-- a VM that the entry removes is not of the network
removed_other : (t : List Entry) (e : Entry) (vm n net : ℕ) (b : Bool) → net_of_vm t vm ≡ Some n → IsOther t net e → removes vm e ≡ true → ((n == net) && b) ≡ false
removed_other t (RemoveVm u) vm n net b knows other is =
    let same : u ≡ vm = grind (arith, common_steps) in
    let of_vm : is_net (net_of_vm t vm) net ≡ false = subst (λ w. is_net (net_of_vm t w) net ≡ false) same other in
    let differs : (n == net) ≡ false = subst (λ o. is_net o net ≡ false) knows of_vm in
    rw differs
removed_other t (AddNet m) vm n net b knows other is = absurd (let no_way : false ≡ true = is in cc)
removed_other t (AddVm u m mac ip host) vm n net b knows other is = absurd (let no_way : false ≡ true = is in cc)
removed_other t (Place u host) vm n net b knows other is = absurd (let no_way : false ≡ true = is in cc)
removed_other t (AddRule m rule) vm n net b knows other is = absurd (let no_way : false ≡ true = is in cc)
removed_other t (DelRule m number) vm n net b knows other is = absurd (let no_way : false ≡ true = is in cc)
removed_other t (AddRoute m route) vm n net b knows other is = absurd (let no_way : false ≡ true = is in cc)
removed_other t (DelRoute m number) vm n net b knows other is = absurd (let no_way : false ≡ true = is in cc)
removed_other t Tick vm n net b knows other is = absurd (let no_way : false ≡ true = is in cc)

found_kept : (q : Vm → Bool) (b r : Bool) (xs ys : List Vm) (v : Vm) → find q ys ≡ find q xs → (r ≡ true → q v ≡ false) → find q (if (b || r) then ys else v ∷ ys) ≡ find q (if b then xs else v ∷ xs)
found_kept q true r xs ys v e gone = e
found_kept q false false xs ys v e gone = ap (λ o. cond (q v) (Some v) o) e
found_kept q false true xs ys v e gone = let missed = gone refl in rw missed e

owner_kept : (t k : List Entry) (e : Entry) (net address : ℕ) → Knows t k → IsOther t net e → find (has net address) (vms (k ++ e ∷ [])) ≡ find (has net address) (vms k)
owner_kept t [] e net address knows other = no_new_owner t net address e other
owner_kept t (AddVm vm n mac ip host ∷ k) e net address knows other =
    let v : Vm = record { number = vm; net = n; mac = mac; ip = ip; host = host } in
    let now = vms (k ++ e ∷ []) in
    ap (λ b. find (has net address) (if b then now else v ∷ now)) (any_more (removes vm) k e)
    ∙ found_kept (has net address) (list_any (removes vm) k) (removes vm e) (vms k) now v (owner_kept t k e net address knows.1 other)
    (λ is. removed_other t e vm n net (ip == address) knows.0 other is)
owner_kept t (_ ∷ k) e net address knows other = owner_kept t k e net address knows other

pub found_among : (q : Vm → Bool) (b c : Bool) (xs : List Vm) (v x : Vm) → q v ≡ c → find q (if b then xs else v ∷ xs) ≡ Some x → (find q xs ≡ Some x) ⊎ ((q v ≡ true) × (v ≡ x))
found_among q true c xs v x e f = inl f
found_among q false true xs v x e f = let g = rw e at f in inr (e, (let h : Some v ≡ Some x = g in cc))
found_among q false false xs v x e f = inl (rw e at f)

equal_nets : (n net : ℕ) (b : Bool) → ((n == net) && b) ≡ true → n ≡ net
equal_nets n net b e = let both = and_parts (n == net) b e in let first = both.0 in grind (arith, common_steps)

-- the owner of an address in a network is a VM of it
owner_net : (t k : List Entry) (net address : ℕ) (x : Vm) → Knows t k → find (has net address) (vms k) ≡ Some x → net_of_vm t x.number ≡ Some net
owner_net t [] net address x knows f = absurd (let nothing : None ≡ Some x = f in cc)
owner_net t (AddVm vm n mac ip host ∷ k) net address x knows f =
    let v : Vm = record { number = vm; net = n; mac = mac; ip = ip; host = host } in
    ⊎_elim (λ (later : find (has net address) (vms k) ≡ Some x). owner_net t k net address x knows.1 later)
    (λ (it : (has net address v ≡ true) × (v ≡ x)).
    subst (λ (y : Vm). net_of_vm t y.number ≡ Some net) it.1 (knows.0 ∙ ap (λ m. Some m) (equal_nets n net (ip == address) it.0)))
    (found_among (has net address) (list_any (removes vm) k) (has net address v) (vms k) v x refl f)
owner_net t (_ ∷ k) net address x knows f = owner_net t k net address x knows f

-- ---- places

if_none : (w v host : ℕ) → (w ≡ v → ⊥) → (if w == v then Some host else None) ≡ None
if_none w v host n = grind (arith, common_steps)

nets_differ : (n net : ℕ) → (n == net) ≡ false → n ≡ net → ⊥
nets_differ n net e f = grind (arith, common_steps)

brings_not : (t : List Entry) (e : Entry) (v net : ℕ) → net_of_vm t v ≡ Some net → Knows t (e ∷ []) → IsOther t net e → host_by v e ≡ None
brings_not t (AddVm w n mac ip host) v net is knows other =
    if_none w v host (λ same.
    let both : Some n ≡ Some net = sym knows.0 ∙ ap (net_of_vm t) same ∙ is in
    let one : n ≡ net = cc in
    nets_differ n net other one)
brings_not t (Place w host) v net is knows other =
    if_none w v host (λ same.
    let of_v : is_net (net_of_vm t v) net ≡ false = subst (λ u. is_net (net_of_vm t u) net ≡ false) same other in
    let no_way : (net == net) ≡ false = subst (λ o. is_net o net ≡ false) is of_v in
    nets_differ net net no_way refl)
brings_not t (AddNet m) v net is knows other = refl
brings_not t (RemoveVm u) v net is knows other = refl
brings_not t (AddRule m rule) v net is knows other = refl
brings_not t (DelRule m number) v net is knows other = refl
brings_not t (AddRoute m route) v net is knows other = refl
brings_not t (DelRoute m number) v net is knows other = refl
brings_not t Tick v net is knows other = refl

module _ (t k : List Entry) (e : Entry) (knows : Knows t k) (knows_e : Knows t (e ∷ [])) where
  same_owner_place : (net address : ℕ) → IsOther t net e → (o : Option Vm) → find (has net address) (vms k) ≡ o → owner_place (k ++ e ∷ []) net address ≡ owner_place k net address
  same_owner_place net address other None f =
      let now : find (has net address) (vms (k ++ e ∷ [])) ≡ None = owner_kept t k e net address knows other ∙ f in
      rw (now, f)
  same_owner_place net address other (Some x) f =
      let now : find (has net address) (vms (k ++ e ∷ [])) ≡ Some x = owner_kept t k e net address knows other ∙ f in
      rw (now, f) (place_more k e x.number ∙ ap (λ o. or_else o (place k x.number)) (brings_not t e x.number net (owner_net t k net address x knows f) knows_e other))

  leads_to : (by b : Name) (n net host : ℕ) (o : Option ℕ) → routed_at b n o ≡ routeds.To by net host → n ≡ net
  leads_to by b n net host None said = cc
  leads_to by b n net host (Some h) said = cc

  routing_kept : (r : Routing) (address : ℕ) (by : Name) (net host : ℕ) → IsOther t net e → routed_by k address r ≡ routeds.To by net host → routed_by (k ++ e ∷ []) address r ≡ routeds.To by net host
  routing_kept (routings.Dropped b) address by net host other said = said
  routing_kept (routings.Into b n) address by net host other said =
      let is : n ≡ net = leads_to by b n net host (owner_place k n address) said in
      let same = same_owner_place n address (subst (λ m. IsOther t m e) (sym is) other) (find (has n address) (vms k)) refl in
      ap (routed_at b n) same ∙ said

  -- where a route leads stays the same after an entry of neither network
  pub routed_kept : (own address : ℕ) (by : Name) (net host : ℕ) → IsOther t own e → IsOther t net e → routed k own address ≡ routeds.To by net host → routed (k ++ e ∷ []) own address ≡ routeds.To by net host
  routed_kept own address by net host other_own other_net said =
      let same : route (k ++ e ∷ []) own address ≡ route k own address = ap (λ rs. routing_by own (deciding_route address rs)) (routes_kept t k e own other_own) in
      ap (routed_by (k ++ e ∷ []) address) same ∙ routing_kept (route k own address) address by net host other_net said
