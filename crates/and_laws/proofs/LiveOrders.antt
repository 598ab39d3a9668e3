-- A live order leads where the route leads.
use Rattle.std.proofs.Common.{◌≡◌, ℕ, zero, suc, Bool, true, false, ◌&&◌, ◌||◌, not, List, [], ◌∷◌, ◌++◌, take, refl, sym, ◌∙◌, subst, arith, append_assoc, append-nil, Some, None, ⊎_elim, inl, inr, ◌⊎◌}
use Rattle.std.specs.Prelude.{if◌then◌else◌, ◌==◌, nat_lt}
use Rattle.std.specs.List.{list_any, find}
use Rattle.std.proofs.lemmas.Bool.{and_parts, or_parts}
use Rattle.std.proofs.lemmas.Grind.{common_steps}
use Rattle.and_policy.specs.declared.entry.Entry.{Entry}
use Rattle.and_policy.specs.declared.entry.Order.{Order}
use Rattle.and_policy.specs.declared.entry.Op.{Op}
use Rattle.and_policy.specs.declared.entry.Op.TheVariants as ops
use Rattle.and_policy.specs.declared.decision.Name.{Name}
use Rattle.and_policy.specs.declared.decision.Routed.TheVariants as routeds
use Rattle.and_policy.specs.Logs.{now}
use Rattle.and_policy.specs.Owners.{routed}
use Rattle.and_policy.specs.Programmes.{entries, prefix, ends, is_entry_of, orders_for, lives, living, live}
use Rattle.and_laws.specs.Offloads.{IsRouted, AllRouted}
use Rattle.and_laws.proofs.Apart.{Knows, knows_front, knows_back, IsOther, routed_kept}

-- ---- programmes with orders that were routed

routed_and_entry : (k : List Entry) (p : List Op) (e : Entry) → AllRouted k p → AllRouted k (p ++ ops.Entry e ∷ [])
routed_and_entry k [] e all = tt
routed_and_entry k (ops.Entry first ∷ later) e all = routed_and_entry (k ++ first ∷ []) later e all
routed_and_entry k (ops.Offload order ∷ later) e all = (all.0, routed_and_entry k later e all.1)

pub entry_added : (p : List Op) (e : Entry) → AllRouted [] p → AllRouted [] (p ++ ops.Entry e ∷ [])
entry_added p e all = routed_and_entry [] p e all

routed_and_order : (k : List Entry) (p : List Op) (o : Order) → AllRouted k p → IsRouted (k ++ entries p) o → AllRouted k (p ++ ops.Offload o ∷ [])
routed_and_order k [] o all is = (subst (λ x. IsRouted x o) (append-nil k) is, tt)
routed_and_order k (ops.Entry first ∷ later) o all is =
    routed_and_order (k ++ first ∷ []) later o all (subst (λ x. IsRouted x o) (sym (append_assoc k (first ∷ []) (entries later))) is)
routed_and_order k (ops.Offload order ∷ later) o all is = (all.0, routed_and_order k later o all.1 is)

pub order_added : (p : List Op) (o : Order) → AllRouted [] p → IsRouted (entries p) o → AllRouted [] (p ++ ops.Offload o ∷ [])
order_added p o all is = routed_and_order [] p o all is

pub all_taken : (k : List Entry) (p : List Op) (j : ℕ) → AllRouted k p → AllRouted k (take j p)
all_taken k p zero all = tt
all_taken k [] (suc j) all = tt
all_taken k (ops.Entry first ∷ later) (suc j) all = all_taken (k ++ first ∷ []) later j all
all_taken k (ops.Offload order ∷ later) (suc j) all = (all.0, all_taken k later j all.1)

-- ---- what does not end an order leaves its route alone

-- neither its source nor its destination network has one of the entries
record AreOther (t : List Entry) (o : Order) (e : Entry) : Type 0 where
  pub own : IsOther t o.net e
  pub net : IsOther t o.to_net e

not_ended : (t : List Entry) (o : Order) (e : Entry) → ends t o (ops.Entry e) ≡ false → AreOther t o e
not_ended t o e no_end =
    let own = is_entry_of t o.net (ops.Entry e) in
    let net = is_entry_of t o.to_net (ops.Entry e) in
    let entries_of = or_parts (own || net) (orders_for o.net o.ip (ops.Entry e)) no_end in
    let both = or_parts own net entries_of.0 in
    record { own = both.0; net = both.1 }

stays_routed : (t k : List Entry) (o : Order) (later : List Op) → Knows t (k ++ entries later) → list_any (ends t o) later ≡ false → IsRouted k o → IsRouted (k ++ entries later) o
stays_routed t k o [] knows none is = subst (λ x. IsRouted x o) (sym (append-nil k)) is
stays_routed t k o (ops.Entry e ∷ later) knows none is =
    let parts = or_parts (ends t o (ops.Entry e)) (list_any (ends t o) later) none in
    let other = not_ended t o e parts.0 in
    let same = append_assoc k (e ∷ []) (entries later) in
    let whole : Knows t ((k ++ e ∷ []) ++ entries later) = subst (Knows t) (sym same) knows in
    let more = knows_front t (k ++ e ∷ []) (entries later) whole in
    let now : IsRouted (k ++ e ∷ []) o =
    (is.0, routed_kept t k e (knows_front t k (e ∷ []) more) (knows_back t k (e ∷ []) more) o.net o.ip is.0 o.to_net o.to_host other.own other.net is.1) in
    subst (λ x. IsRouted x o) same (stays_routed t (k ++ e ∷ []) o later whole parts.1 now)
stays_routed t k o (ops.Offload other ∷ later) knows none is =
    let parts = or_parts (ends t o (ops.Offload other)) (list_any (ends t o) later) none in
    stays_routed t k o later knows parts.1 is

-- ---- the live order for an address

abbrev is_for : ℕ → ℕ → Order → Bool
is_for net ip o = (o.net == net) && (o.ip == ip)

-- the order is for this network and address, and leads where the route of the network leads
pub record LeadsThere (t : List Entry) (net ip : ℕ) (o : Order) : Type 0 where
  pub by : Name
  pub routes : routed t net ip ≡ routeds.To by o.to_net o.to_host

found_first : (q : Order → Bool) (b c : Bool) (xs : List Order) (v x : Order) → q v ≡ c → find q (if b then v ∷ xs else xs) ≡ Some x → (find q xs ≡ Some x) ⊎ ((b ≡ true) × (q v ≡ true) × (v ≡ x))
found_first q false c xs v x e f = inl f
found_first q true true xs v x e f = let g = rw e at f in inr (refl, e, (let h : Some v ≡ Some x = g in cc))
found_first q true false xs v x e f = inl (rw e at f)

equal_keys : (a b c d : ℕ) → ((a == b) && (c == d)) ≡ true → (a ≡ b) × (c ≡ d)
equal_keys a b c d e =
    let both = and_parts (a == b) (c == d) e in
    let first = both.0 in
    let second = both.1 in
    let one : a ≡ b = grind (arith, common_steps) in
    let two : c ≡ d = grind (arith, common_steps) in
    (one, two)

not_true : (b : Bool) → not b ≡ true → b ≡ false
not_true true e = absurd (let no_way : false ≡ true = e in cc)
not_true false e = refl

leads_there : (t : List Entry) (net ip : ℕ) (o : Order) → (o.net ≡ net) × (o.ip ≡ ip) → IsRouted t o → LeadsThere t net ip o
leads_there t net ip o keys is =
    record { by = is.0; routes = subst (λ n. routed t n ip ≡ routeds.To is.0 o.to_net o.to_host) keys.0 (subst (λ a. routed t o.net a ≡ routeds.To is.0 o.to_net o.to_host) keys.1 is.1) }

found_leads : (t k : List Entry) (xs : List Op) (net ip : ℕ) (o : Order) → k ++ entries xs ≡ t → Knows t t → AllRouted k xs → find (is_for net ip) (living t xs) ≡ Some o → LeadsThere t net ip o
found_leads t k [] net ip o is knows all f = absurd (let nothing : None ≡ Some o = f in cc)
found_leads t k (ops.Entry e ∷ later) net ip o is knows all f =
    found_leads t (k ++ e ∷ []) later net ip o (append_assoc k (e ∷ []) (entries later) ∙ is) knows all f
found_leads t k (ops.Offload order ∷ later) net ip o is knows all f =
    ⊎_elim (λ (g : find (is_for net ip) (living t later) ≡ Some o). found_leads t k later net ip o is knows all.1 g)
    (λ (it : (lives t order later ≡ true) × (is_for net ip order ≡ true) × (order ≡ o)).
    let alive = and_parts (not (list_any (ends t order) later)) (nat_lt (now t) order.until) it.0 in
    let none = not_true (list_any (ends t order) later) alive.0 in
    let here = stays_routed t k order later (subst (Knows t) (sym is) knows) none all.0 in
    subst (LeadsThere t net ip) it.2 (leads_there t net ip order (equal_keys order.net net order.ip ip it.1) (subst (λ x. IsRouted x order) is here)))
    (found_first (is_for net ip) (lives t order later) (is_for net ip order) (living t later) order o refl f)

pub live_leads : (p : List Op) (j net ip : ℕ) (o : Order) → Knows (prefix p j) (prefix p j) → AllRouted [] p → live p j net ip ≡ Some o → LeadsThere (prefix p j) net ip o
live_leads p j net ip o knows all f = found_leads (prefix p j) [] (take j p) net ip o refl knows (all_taken [] p j all) f
