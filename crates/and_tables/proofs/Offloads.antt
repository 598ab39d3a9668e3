-- The live order by the kept places.
use Rattle.std.proofs.Common.{◌≡◌, ℕ, zero, suc, Bool, true, false, ◌&&◌, ◌||◌, not, List, length, drop, Option, Some, None, refl, ap, sym, ◌∙◌, inl, inr, subst}
use Rattle.std.specs.Prelude.{nat_lt, nat_le, ◌==◌, slice_get}
use Rattle.std.proofs.Math.Seq.{take-length}
use Rattle.std.proofs.lemmas.Bool.{lt-ltb, le-ltb, lt-leb, le-leb, cases_lt, and_parts, eqb-true}
use Rattle.and_policy.specs.declared.entry.Op.{Op}
use Rattle.and_policy.specs.declared.entry.Op.TheVariants as ops
use Rattle.and_policy.specs.declared.entry.Order.{Order}
use Rattle.and_policy.specs.Fitting.{IsLog}
use Rattle.and_policy.specs.Logs.{now}
use Rattle.and_policy.specs.Programmes.{entries, orders_for, lives, live}
use Rattle.and_tables.specs.Lasts.{IsLast, alive, order_by}
use Rattle.and_tables.specs.Kept.{Keeps}
use Rattle.and_tables.specs.Orders.{the_order, lives_at, live_by, live_at}
use Rattle.and_tables.proofs.Lasts as lasts
use Rattle.and_tables.proofs.Lasts.{lives_by, matches_at}

le_not_lt : (m n : ℕ) → nat_le m n ≡ not (nat_lt n m)
le_not_lt m n = elim (cases_lt n m) as (λ _. nat_le m n ≡ not (nat_lt n m)) [ inl h ↦ rw (lt-leb m n h, lt-ltb n m h) refl | inr h ↦ rw (le-leb m n h, le-ltb n m h) refl ]

not_or : (a b c : Bool) → (not (a || b) && c) ≡ (not a && not b && c)
not_or true b c = refl
not_or false true c = refl
not_or false false c = refl

-- the order at its last place lives where no entry of its networks stands after it and its time is not over
pub lives_is : (p : List Op) (ticks : ℕ) (entered : ℕ → ℕ) (ordered : ℕ → ℕ → ℕ) (order : Order) → Keeps p ticks entered ordered → IsLog None (entries p)
    → lives (entries p) order (drop (ordered order.net order.ip) p) ≡ lives_at ticks entered (ordered order.net order.ip) order
lives_is p ticks entered ordered order k log =
    let place = ordered order.net order.ip in
    lives_by (entries p) p order place (entered order.net) (entered order.to_net) (k.networks log order.net) (k.networks log order.to_net) (k.orders order.net order.ip)
    ∙ not_or (nat_lt place (entered order.net)) (nat_lt place (entered order.to_net)) (nat_lt (now (entries p)) order.until)
    ∙ rw (le_not_lt (entered order.net) place, le_not_lt (entered order.to_net) place, k.ticks_are) refl

by_order : (p : List Op) (ticks : ℕ) (entered : ℕ → ℕ) (ordered : ℕ → ℕ → ℕ) (net ip place : ℕ) → Keeps p ticks entered ordered → IsLog None (entries p) → ordered net ip ≡ place
    → order_by (entries p) p place ≡ live_at p ticks entered place
by_order p ticks entered ordered net ip zero k log is = refl
by_order p ticks entered ordered net ip (suc place) k log is = by_op (slice_get p place) refl
  where
    by_op : (o : Option Op) → slice_get p place ≡ o → alive (entries p) (drop (suc place) p) o ≡ live_by ticks entered (suc place) (the_order o)
    by_op None h = refl
    by_op (Some (ops.Entry e)) h = refl
    by_op (Some (ops.Offload order)) h =
        let last : IsLast (orders_for net ip) p (suc place) = subst (λ n. IsLast (orders_for net ip) p n) is (k.orders net ip) in
        let for = and_parts (order.net == net) (order.ip == ip) (matches_at (orders_for net ip) p place (ops.Offload order) last h) in
        let here : ordered order.net order.ip ≡ suc place = ap (λ n. ordered n order.ip) (eqb-true order.net net for.0) ∙ ap (ordered net) (eqb-true order.ip ip for.1) ∙ is in
        let same : lives (entries p) order (drop (suc place) p) ≡ lives_at ticks entered (suc place) order =
        subst (λ n. lives (entries p) order (drop n p) ≡ lives_at ticks entered n order) here (lives_is p ticks entered ordered order k log) in
        rw same refl

pub offload_is : (p : List Op) (ticks : ℕ) (entered : ℕ → ℕ) (ordered : ℕ → ℕ → ℕ) (net ip : ℕ) → Keeps p ticks entered ordered → IsLog None (entries p)
    → live_at p ticks entered (ordered net ip) ≡ live p (length p) net ip
offload_is p ticks entered ordered net ip k log =
    rw (take-length p) (sym (lasts.live_by (entries p) p net ip (ordered net ip) (k.orders net ip) ∙ by_order p ticks entered ordered net ip (ordered net ip) k log refl))
