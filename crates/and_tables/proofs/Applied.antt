-- The kept places after one operation more.
use Rattle.std.proofs.Common.{◌≡◌, ℕ, zero, suc, ◌+◌, Bool, List, [], ◌∷◌, ◌++◌, length, drop, None, refl, sym, ◌∙◌, subst, inl, inr}
use Rattle.std.specs.Prelude.{if◌then◌else◌}
use Rattle.std.specs.List.{list_any}
use Rattle.std.proofs.lemmas.Bool.{cases_Bool}
use Rattle.and_policy.specs.declared.entry.Entry.{Entry}
use Rattle.and_policy.specs.declared.entry.Op.{Op}
use Rattle.and_policy.specs.Fitting.{IsLog}
use Rattle.and_policy.specs.Logs.{now}
use Rattle.and_policy.specs.Programmes.{entries, is_entry_of, orders_for}
use Rattle.and_tables.specs.Lasts.{IsLast, Agree}
use Rattle.and_tables.specs.Kept.{Keeps}
use Rattle.and_tables.proofs.Lasts.{last_new, last_same}
use Rattle.and_tables.proofs.Known.{agree, entries_more, now_add}
use Rattle.and_policy.proofs.Logging.{log-before}

-- one operation more, by whether it meets the test
pub last_by : (test : Op → Bool) (p : List Op) (place new : ℕ) (op : Op) → IsLast test p place → new ≡ (if test op then length p + 1 else place) → IsLast test (p ++ op ∷ []) new
last_by test p place new op l h =
    elim (cases_Bool (test op)) as (λ _. IsLast test (p ++ op ∷ []) new) [
      | inl t ↦ subst (λ n. IsLast test (p ++ op ∷ []) n) (sym (h ∙ rw t refl)) (last_new test p place op l t)
      | inr t ↦ subst (λ n. IsLast test (p ++ op ∷ []) n) (sym (h ∙ rw t refl)) (last_same test p place op l t)
    ]

-- a test that answers alike at every operation
pub last_alike : (test test2 : Op → Bool) (p : List Op) (place : ℕ) → ((q : ℕ) → list_any test2 (drop q p) ≡ list_any test (drop q p)) → IsLast test p place → IsLast test2 p place
last_alike test test2 p place same l = record { later = λ q. same q ∙ l.later q }

alike : (k k2 : List Entry) (net : ℕ) (p : List Op) → Agree k k2 p → (q : ℕ) → list_any (is_entry_of k2 net) (drop q p) ≡ list_any (is_entry_of k net) (drop q p)
alike k k2 net [] a zero = refl
alike k k2 net [] a (suc q) = refl
alike k k2 net (op ∷ p) a zero = rw (a.0 net, alike k k2 net p a.1 zero) refl
alike k k2 net (op ∷ p) a (suc q) = alike k k2 net p a.1 q

-- the step of every index: each new number is the new place where the operation has the key, and else as it was
pub keeps_more : (p : List Op) (op : Op) (ticks ticks2 : ℕ) (entered entered2 : ℕ → ℕ) (ordered ordered2 : ℕ → ℕ → ℕ) → Keeps p ticks entered ordered
    → ticks2 ≡ ticks + now (entries (op ∷ []))
    → (IsLog None (entries (p ++ op ∷ [])) → (net : ℕ) → entered2 net ≡ (if is_entry_of (entries (p ++ op ∷ [])) net op then length p + 1 else entered net))
    → ((net ip : ℕ) → ordered2 net ip ≡ (if orders_for net ip op then length p + 1 else ordered net ip))
    → Keeps (p ++ op ∷ []) ticks2 entered2 ordered2
keeps_more p op ticks ticks2 entered entered2 ordered ordered2 k t e o =
    record {
      ticks_are = t ∙ rw (k.ticks_are, entries_more p (op ∷ [])) (sym (now_add (entries p) (entries (op ∷ []))));
      orders = λ net ip. last_by (orders_for net ip) p (ordered net ip) (ordered2 net ip) op (k.orders net ip) (o net ip);
      networks = λ log net.
          let before : IsLog None (entries p) = log-before p op log in
          let old : IsLast (is_entry_of (entries (p ++ op ∷ [])) net) p (entered net) =
          last_alike (is_entry_of (entries p) net) (is_entry_of (entries (p ++ op ∷ [])) net) p (entered net) (alike (entries p) (entries (p ++ op ∷ [])) net p (agree None p (op ∷ []) before)) (k.networks before net) in
          last_by (is_entry_of (entries (p ++ op ∷ [])) net) p (entered net) (entered2 net) op old (e log net);
    }

-- the same numbers
pub keeps_as : (p : List Op) (ticks : ℕ) (entered entered2 : ℕ → ℕ) (ordered ordered2 : ℕ → ℕ → ℕ) → ((net : ℕ) → entered2 net ≡ entered net) → ((net ip : ℕ) → ordered2 net ip ≡ ordered net ip)
    → Keeps p ticks entered ordered → Keeps p ticks entered2 ordered2
keeps_as p ticks entered entered2 ordered ordered2 e o k = record {
  ticks_are = k.ticks_are;
  orders = λ net ip. subst (IsLast (orders_for net ip) p) (sym (o net ip)) (k.orders net ip);
  networks = λ log net. subst (IsLast (is_entry_of (entries p) net) p) (sym (e net)) (k.networks log net);
}
