-- One entry more: the log stays a log, and the indexes follow.
use Rattle.std.proofs.Common.{◌≡◌, ◌<◌, append-nil, ℕ, zero, suc, List, [], ◌∷◌, ◌++◌, length, take, arith, Option, Some, None, ◌⊎◌, inl, inr, ⊎_elim, refl, ap, sym, ◌∙◌, subst}
use Rattle.std.specs.Prelude.{slice_get}
use Rattle.std.proofs.lemmas.List.{take-append-le}
use Rattle.std.proofs.Math.Seq.{take-length}
use Rattle.std.proofs.lemmas.Option.{slice_get_within}
use Rattle.and_policy.specs.declared.entry.Entry.{Entry}
use Rattle.and_policy.specs.declared.entry.Op.{Op}
use Rattle.and_policy.specs.declared.entry.Op.TheVariants as ops
use Rattle.and_policy.specs.declared.entry.Order.{Order}
use Rattle.and_policy.specs.declared.index.Index.{Index}
use Rattle.and_policy.specs.Fitting.{fits, IsLog}
use Rattle.and_policy.specs.Indexes.{IsIndex}
use Rattle.and_policy.specs.Programmes.{entries}

-- an element of a list with one more: it is of the list, or the one more
pushed : {A : Type 0} (k : List A) (e x : A) (j : ℕ) → slice_get (k ++ e ∷ []) j ≡ Some x
    → ((slice_get k j ≡ Some x) × (take j (k ++ e ∷ []) ≡ take j k)) ⊎ ((e ≡ x) × (take j (k ++ e ∷ []) ≡ k))
pushed [] e x zero h = inr (cc, refl)
pushed [] e x (suc j) h = absurd (cc)
pushed (y ∷ k) e x zero h = inl (h, refl)
pushed (y ∷ k) e x (suc j) h =
    ⊎_elim (λ w. inl (w.0, ap (λ ys. y ∷ ys) w.1)) (λ w. inr (w.0, ap (λ ys. y ∷ ys) w.1)) (pushed k e x j h)

pub log-push : (hosts : Option ℕ) (k : List Entry) (e : Entry) → IsLog hosts k → fits hosts k e ≡ None → IsLog hosts (k ++ e ∷ [])
log-push hosts k e log fit = λ j x at.
    let P : List Entry → Type 0 = λ xs. fits hosts xs x ≡ None in
    let Q : Entry → Type 0 = λ y. fits hosts k y ≡ None in
    ⊎_elim (λ w. subst P (sym w.1) (log j x w.0)) (λ w. subst P (sym w.1) (subst Q w.0 fit)) (pushed k e x j at)

-- the invariant of a log after one entry more: k are the old entries, x, y and z the indexes before, with room, and after
pub closing : (hosts : ℕ) (k later : List Entry) (e : Entry) (x y z : Index)
    → IsLog (Some hosts) k × IsIndex x k → (IsIndex x k → IsIndex y k) → fits (Some hosts) k e ≡ None → later ≡ k ++ e ∷ []
    → (IsIndex y k → IsIndex z (k ++ e ∷ [])) → IsLog (Some hosts) later × IsIndex z later
closing hosts k later e x y z is same fit more step =
    let P : List Entry → Type 0 = λ xs. IsLog (Some hosts) xs × IsIndex z xs in
    subst P (sym more) (log-push (Some hosts) k e is.0 fit, step (same is.1))

-- the entry that is appended to a log fits the log
pub log-last : (hosts : Option ℕ) (k : List Entry) (e : Entry) → IsLog hosts (k ++ e ∷ []) → fits hosts k e ≡ None
log-last hosts k e log = subst (λ (xs : List Entry). fits hosts xs e ≡ None) (take-append-le (length k) k (e ∷ []) (omega arith) ∙ take-length k) (log (length k) e (there k))
  where
    there : (xs : List Entry) → slice_get (xs ++ e ∷ []) (length xs) ≡ Some e
    there [] = refl
    there (x ∷ xs) = there xs

-- ---- the entries among operations

pub entries-append : (p q : List Op) → entries (p ++ q) ≡ entries p ++ entries q
entries-append [] q = refl
entries-append (ops.Entry e ∷ p) q = ap (λ k. e ∷ k) (entries-append p q)
entries-append (ops.Offload order ∷ p) q = entries-append p q

get_front : (k more : List Entry) (j : ℕ) → j < length k → slice_get (k ++ more) j ≡ slice_get k j
get_front [] more j h = absurd (omega arith)
get_front (x ∷ k) more zero h = refl
get_front (x ∷ k) more (suc j) h = get_front k more j (omega arith)

pub log-front : (hosts : Option ℕ) (k more : List Entry) → IsLog hosts (k ++ more) → IsLog hosts k
log-front hosts k more l j entry there =
    let within = slice_get_within k j entry there in
    subst (λ (b : List Entry). fits hosts b entry ≡ None) (take-append-le j k more (omega arith)) (l j entry (get_front k more j within ∙ there))

-- where the entries with one operation more are a log, those before it are one
pub log-before : (p : List Op) (op : Op) → IsLog None (entries (p ++ op ∷ [])) → IsLog None (entries p)
log-before p op log = log-front None (entries p) (entries (op ∷ [])) (subst (IsLog None) (entries-append p (op ∷ [])) log)

-- what one entry makes of the entries it makes of the operations
pub entry-op : (P Q : List Entry → Type 0) (p : List Op) (e : Entry) → ((k : List Entry) → fits None k e ≡ None → P k → Q (k ++ e ∷ []))
    → IsLog None (entries (p ++ ops.Entry e ∷ [])) → P (entries p) → Q (entries (p ++ ops.Entry e ∷ []))
entry-op P Q p e step log is =
    subst Q (sym (entries-append p (ops.Entry e ∷ []))) (step (entries p) (log-last None (entries p) e (subst (IsLog None) (entries-append p (ops.Entry e ∷ [])) log)) is)

pub order-op : (P : List Entry → Type 0) (p : List Op) (order : Order) → P (entries p) → P (entries (p ++ ops.Offload order ∷ []))
order-op P p order is = subst P (sym (entries-append p (ops.Offload order ∷ []) ∙ append-nil (entries p))) is
