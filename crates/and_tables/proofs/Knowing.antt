-- The places of touches after one operation more.
use Rattle.std.proofs.Common.{◌≡◌, ℕ, ◌+◌, Bool, true, false, ◌&&◌, ◌||◌, not, List, [], ◌∷◌, ◌++◌, length, Option, None, refl, ap, sym, ◌∙◌, append-nil}
use Rattle.std.specs.Prelude.{if◌then◌else◌, ◌==◌}
use Rattle.std.specs.List.{list_any}
use Rattle.and_policy.specs.declared.entry.Entry.{Entry}
use Rattle.and_policy.specs.declared.entry.Entry.TheVariants.{AddNet, AddVm, RemoveVm, Place, AddRule, DelRule, AddRoute, DelRoute, Tick}
use Rattle.and_policy.specs.declared.entry.Op.{Op}
use Rattle.and_policy.specs.declared.entry.Op.TheVariants as ops
use Rattle.and_policy.specs.declared.entry.Order.{Order}
use Rattle.and_policy.specs.Fitting.{IsLog}
use Rattle.and_policy.specs.Logs.{now, added}
use Rattle.and_policy.specs.Programmes.{entries, is_entry_of, is_order_of, is_net, net_of_vm, living}
use Rattle.and_tables.specs.Lasts.{stays}
use Rattle.and_tables.specs.Steps.{named, own, stays_by, ends_by}
use Rattle.and_tables.specs.Kept.{Knows}
use Rattle.and_tables.proofs.Known.{agree, entries_more, later_now, added_more}
use Rattle.and_policy.proofs.Logging.{log-before}
use Rattle.and_tables.proofs.Living.{touched_more}

-- ---- the network that the operation names

net_kept : (k : List Entry) (e : Entry) (vm : ℕ) → added (e ∷ []) ≡ [] → net_of_vm (k ++ e ∷ []) vm ≡ net_of_vm k vm
net_kept k e vm h = rw (added_more k (e ∷ []), h, append-nil (added k)) refl

named_is-at : (k : List Entry) (home : ℕ → Option ℕ) (op : Op) (net : ℕ) → ((vm : ℕ) → home vm ≡ net_of_vm k vm) → is_entry_of (k ++ entries (op ∷ [])) net op ≡ is_net (named home op) net
named_is-at k home (ops.Offload order) net h = refl
named_is-at k home (ops.Entry (AddNet n)) net h = refl
named_is-at k home (ops.Entry (AddVm vm n mac ip host)) net h = refl
named_is-at k home (ops.Entry (RemoveVm vm)) net h = ap (λ o. is_net o net) (net_kept k (RemoveVm vm) vm refl ∙ sym (h vm))
named_is-at k home (ops.Entry (Place vm host)) net h = ap (λ o. is_net o net) (net_kept k (Place vm host) vm refl ∙ sym (h vm))
named_is-at k home (ops.Entry (AddRule n rule)) net h = refl
named_is-at k home (ops.Entry (DelRule n number)) net h = refl
named_is-at k home (ops.Entry (AddRoute n route)) net h = refl
named_is-at k home (ops.Entry (DelRoute n number)) net h = refl
named_is-at k home (ops.Entry Tick) net h = refl

pub named_is : (p : List Op) (home : ℕ → Option ℕ) (op : Op) (net : ℕ) → ((vm : ℕ) → home vm ≡ net_of_vm (entries p) vm) → is_entry_of (entries (p ++ op ∷ [])) net op ≡ is_net (named home op) net
named_is p home op net h = rw (entries_more p (op ∷ [])) (named_is-at (entries p) home op net h)

own_is : (home : ℕ → Option ℕ) (op : Op) (net : ℕ) → (is_net (named home op) net || is_order_of net op) ≡ is_net (own (named home op) op) net
own_is home (ops.Offload order) net = refl
own_is home (ops.Entry e) net = or_false (is_net (named home (ops.Entry e)) net)
  where
    or_false : (b : Bool) → (b || false) ≡ b
    or_false true = refl
    or_false false = refl

-- ---- the touches

stays_is : (k2 : List Entry) (name : Option ℕ) (op : Op) (order : Order) → ((net : ℕ) → is_entry_of k2 net op ≡ is_net name net) → stays k2 op order ≡ stays_by name op (now k2) order
stays_is k2 name op order h = rw (h order.net, h order.to_net) refl

ends_alike : (f g : Order → Bool) (net : ℕ) (xs : List Order) → ((x : Order) → f x ≡ g x) → list_any (λ o. (o.net == net) && not (f o)) xs ≡ list_any (λ o. (o.net == net) && not (g o)) xs
ends_alike f g net [] h = refl
ends_alike f g net (x ∷ xs) h = rw (h x, ends_alike f g net xs h) refl

both : (a b : Bool) (x y : ℕ) → (if a then x else (if b then x else y)) ≡ (if a || b then x else y)
both true b x y = refl
both false b x y = refl

pub knows_more : (p : List Op) (op : Op) (name : Option ℕ) (t t2 : ℕ → ℕ) (ticks2 : ℕ) → Knows p t
    → ticks2 ≡ now (entries (p ++ op ∷ []))
    → (IsLog None (entries p) → name ≡ named (net_of_vm (entries p)) op)
    → (IsLog None (entries p) → (net : ℕ) → t2 net ≡ (if is_net (own name op) net then length p + 1 else (if ends_by name op ticks2 (living (entries p) p) net then length p + 1 else t net)))
    → Knows (p ++ op ∷ []) t2
knows_more p op name t t2 ticks2 k ticks_are name_is t_is log net =
    let named_by : (net : ℕ) → is_entry_of (entries (p ++ op ∷ [])) net op ≡ is_net (named (net_of_vm (entries p)) op) net = λ net. named_is p (net_of_vm (entries p)) op net (λ vm. refl) in
    let stay : (o : Order) → stays (entries (p ++ op ∷ [])) op o ≡ stays_by (named (net_of_vm (entries p)) op) op ticks2 o =
    λ o. stays_is (entries (p ++ op ∷ [])) (named (net_of_vm (entries p)) op) op o named_by ∙ ap (λ n. stays_by (named (net_of_vm (entries p)) op) op n o) (sym ticks_are) in
    let before : IsLog None (entries p) = log-before p op log in
    t_is before net ∙ both (is_net (own name op) net) (ends_by name op ticks2 (living (entries p) p) net) (length p + 1) (t net)
    ∙ rw (
      name_is before,
      touched_more p op net (agree None p (op ∷ []) before) (later_now p (op ∷ [])),
      named_by net,
      own_is (net_of_vm (entries p)) op net,
      k before net,
      ends_alike (stays (entries (p ++ op ∷ [])) op) (stays_by (named (net_of_vm (entries p)) op) op ticks2) net (living (entries p) p) stay,
    ) refl
