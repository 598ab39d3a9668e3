-- Entries that stand in a list.
use Rattle.std.proofs.Common.{◌≡◌, ℕ, ◌+◌, ◌<◌, Bool, ◌||◌, List, [], ◌∷◌, length, drop, get_or, Option, Some, None, refl, ap, sym, ◌∙◌}
use Rattle.std.specs.List.{list_any}
use Rattle.std.proofs.lemmas.List.{at_drop_more}
use Rattle.and_policy.specs.declared.entry.Entry.{Entry}
use Rattle.and_policy.specs.declared.entry.Op.{Op}
use Rattle.and_policy.specs.declared.entry.Op.TheVariants as ops
use Rattle.and_policy.specs.Logged.{entry_of_op, entries_in, before, is_entry}
use Rattle.and_policy.specs.Programmes.{entries}

any_before : (p : Entry → Bool) (o : Option Entry) (k : List Entry) → list_any p (before o k) ≡ (is_entry p o || list_any p k)
any_before p None k = refl
any_before p (Some e) k = refl

pub list_any_entries : {T : Type 0} (p : Entry → Bool) (f : T → Option Entry) (log : List T)
    → list_any p (entries_in f log) ≡ list_any (λ x. is_entry p (f x)) log
list_any_entries p f [] = refl
list_any_entries p f (x ∷ log) = any_before p (f x) (entries_in f log) ∙ ap (λ b. is_entry p (f x) || b) (list_any_entries p f log)

-- one place further to the front
pub entries_drop : {T X : Type 0} (F : List Entry → X) (f : T → Option Entry) (log : List T) (at : ℕ) (x : T)
    → at < length log → x ≡ get_or log at x → F (entries_in f (drop at log)) ≡ F (before (f x) (entries_in f (drop (at + 1) log)))
entries_drop F f log at x within is =
    at_drop_more (λ ys. F (entries_in f ys)) log at x within ∙ ap (λ y. F (before (f y) (entries_in f (drop (at + 1) log)))) (sym is)

-- the same list, in each of the two kinds
pub entries_of_entries : (k : List Entry) → entries_in (λ e. Some e) k ≡ k
entries_of_entries [] = refl
entries_of_entries (e ∷ k) = ap (λ es. e ∷ es) (entries_of_entries k)

pub entries_of_ops : (p : List Op) → entries_in entry_of_op p ≡ entries p
entries_of_ops [] = refl
entries_of_ops (ops.Entry e ∷ p) = ap (λ es. e ∷ es) (entries_of_ops p)
entries_of_ops (ops.Offload o ∷ p) = entries_of_ops p
