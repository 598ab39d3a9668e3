-- All that is kept, at the start and after one operation more.
use Rattle.std.proofs.Common.{◌≡◌, ℕ, zero, suc, ◌+◌, ◌≤◌, Bool, false, List, [], ◌∷◌, ◌++◌, length, drop, Option, None, refl, ap, sym, ◌∙◌, arith}
use Rattle.std.specs.Prelude.{if◌then◌else◌, ◌==◌, ◌&&◌}
use Rattle.std.specs.List.{list_any}
use Rattle.std.proofs.lemmas.Bool.{le-ltb}
use Rattle.and_policy.specs.declared.entry.Entry.TheVariants.{AddNet, AddVm, RemoveVm, Place, AddRule, DelRule, AddRoute, DelRoute, Tick}
use Rattle.and_policy.specs.declared.entry.Op.{Op}
use Rattle.and_policy.specs.declared.entry.Op.TheVariants as ops
use Rattle.and_policy.specs.Fitting.{IsLog}
use Rattle.and_policy.specs.Logs.{now}
use Rattle.and_policy.specs.Programmes.{entries, is_entry_of, is_net, net_of_vm, orders_for}
use Rattle.and_tables.specs.Lasts.{IsLast}
use Rattle.and_tables.specs.Orders.{any_alive, hits}
use Rattle.and_tables.specs.Steps.{named, own, ticks_of}
use Rattle.and_tables.specs.Kept.{Keeps, Knows}
use Rattle.and_tables.proofs.Known.{entries_more, now_add}
use Rattle.and_tables.proofs.Knowing.{named_is, knows_more}
use Rattle.and_policy.proofs.Logging.{log-before}
use Rattle.and_tables.proofs.Alive.{touches_same}
use Rattle.and_tables.proofs.Applied.{keeps_more}

none_last : (test : Op → Bool) (place : ℕ) → place ≡ 0 → IsLast test [] place
none_last test place h = record { later = λ q. empty q ∙ sym (le-ltb q place (omega arith)) }
  where
    empty : (q : ℕ) → list_any test (drop q []) ≡ false
    empty zero = refl
    empty (suc q) = refl

pub keeps_start : (entered : ℕ → ℕ) (ordered : ℕ → ℕ → ℕ) → ((net : ℕ) → entered net ≡ 0) → ((net ip : ℕ) → ordered net ip ≡ 0) → Keeps [] 0 entered ordered
keeps_start entered ordered e o = record {
  ticks_are = refl;
  orders = λ net ip. none_last (orders_for net ip) (ordered net ip) (o net ip);
  networks = λ log net. none_last (is_entry_of [] net) (entered net) (e net);
}

pub knows_start : (t : ℕ → ℕ) → ((net : ℕ) → t net ≡ 0) → Knows [] t
knows_start t z log net = z net

ticks_now : (op : Op) → ticks_of op ≡ now (entries (op ∷ []))
ticks_now (ops.Offload order) = refl
ticks_now (ops.Entry (AddNet n)) = refl
ticks_now (ops.Entry (AddVm vm n mac ip host)) = refl
ticks_now (ops.Entry (RemoveVm vm)) = refl
ticks_now (ops.Entry (Place vm host)) = refl
ticks_now (ops.Entry (AddRule n rule)) = refl
ticks_now (ops.Entry (DelRule n number)) = refl
ticks_now (ops.Entry (AddRoute n route)) = refl
ticks_now (ops.Entry (DelRoute n number)) = refl
ticks_now (ops.Entry Tick) = omega arith

pub ticks_few : (op : Op) → ticks_of op ≤ 1
ticks_few (ops.Offload order) = omega arith
ticks_few (ops.Entry (AddNet n)) = omega arith
ticks_few (ops.Entry (AddVm vm n mac ip host)) = omega arith
ticks_few (ops.Entry (RemoveVm vm)) = omega arith
ticks_few (ops.Entry (Place vm host)) = omega arith
ticks_few (ops.Entry (AddRule n rule)) = omega arith
ticks_few (ops.Entry (DelRule n number)) = omega arith
ticks_few (ops.Entry (AddRoute n route)) = omega arith
ticks_few (ops.Entry (DelRoute n number)) = omega arith
ticks_few (ops.Entry Tick) = omega arith

-- the maps as they were, after room was made (M), and after the operation (2)
module _ (p : List Op) (op : Op) (ticks ticks2 here : ℕ) (name : Option ℕ) (entered enteredM entered2 : ℕ → ℕ) (ordered orderedM ordered2 : ℕ → ℕ → ℕ)
    (t tM t2 : ℕ → ℕ) where
  pub kept_keeps : Keeps p ticks entered ordered → ticks2 ≡ ticks + ticks_of op → here ≡ length p + 1
      → (IsLog None (entries p) → name ≡ named (net_of_vm (entries p)) op)
      → ((net : ℕ) → enteredM net ≡ entered net) → ((net ip : ℕ) → orderedM net ip ≡ ordered net ip)
      → ((net : ℕ) → entered2 net ≡ (if is_net name net then here else enteredM net))
      → ((net ip : ℕ) → ordered2 net ip ≡ (if orders_for net ip op then here else orderedM net ip))
      → Keeps (p ++ op ∷ []) ticks2 entered2 ordered2
  kept_keeps k ticks_are here_is name_is same_entered same_ordered e o =
      keeps_more p op ticks ticks2 entered entered2 ordered ordered2 k (ticks_are ∙ ap (λ x. ticks + x) (ticks_now op))
      (λ log net. e net ∙ rw (name_is (log-before p op log), here_is, same_entered net, named_is p (net_of_vm (entries p)) op net (λ vm. refl)) refl)
      (λ net ip. o net ip ∙ rw (here_is, same_ordered net ip) refl)

  pub kept_knows : Keeps p ticks entered ordered → Knows p t → ticks2 ≡ ticks + ticks_of op → here ≡ length p + 1
      → (IsLog None (entries p) → name ≡ named (net_of_vm (entries p)) op)
      → ((net : ℕ) → tM net ≡ t net)
      → ((net : ℕ) → t2 net ≡ (if any_alive p ticks entered ordered (λ o. hits name op ticks2 o && (o.net == net)) then here else (if is_net (own name op) net then here else tM net)))
      → Knows (p ++ op ∷ []) t2
  kept_knows k n ticks_are here_is name_is same_t x =
      let ticks_now_is : ticks2 ≡ now (entries (p ++ op ∷ [])) = ticks_are ∙ rw (entries_more p (op ∷ []), now_add (entries p) (entries (op ∷ [])), k.ticks_are, ticks_now op) refl in
      knows_more p op name t t2 ticks2 n ticks_now_is name_is
      (λ log net. x net ∙ rw (here_is, same_t net) (touches_same p op ticks ticks2 name (net_of_vm (entries p)) entered ordered (length p + 1) (t net) net k log ticks_are (name_is log)))

-- the same numbers
pub knows_as : (p : List Op) (t t2 : ℕ → ℕ) → ((net : ℕ) → t2 net ≡ t net) → Knows p t → Knows p t2
knows_as p t t2 same n log net = same net ∙ n log net
