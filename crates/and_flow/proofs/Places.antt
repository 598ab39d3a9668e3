-- The place of a key's entry in a group, and the group without it.
use Rattle.std.proofs.Common.{◌≡◌, ◌<◌, ℕ, zero, suc, Bool, true, false, cond, List, [], ◌∷◌, length, get_or, drop, Some, None, refl, subst, ap, arith}
use Rattle.std.specs.Prelude.{not}
use Rattle.std.specs.List.{remove}
use Rattle.and_policy.specs.declared.cached.Cached.{Cached}
use Rattle.and_policy.specs.declared.entry.FlowKey.{FlowKey}
use Rattle.and_policy.specs.Caches.{same_key, without}
use Rattle.and_flow.specs.Groups.{tag_of, tags_of, NoKey, Once}
use Rattle.and_flow.specs.Newest.{newest}

-- an entry of another key is passed over
pub passed_over : (key : FlowKey) (xs : List Cached) (at : ℕ) → at < length xs → ((d : Cached) → same_key (get_or xs at d).key key ≡ false) → newest key (drop at xs) ≡ newest key (drop (suc at) xs)
passed_over key [] at lt other = absurd (omega arith)
passed_over key (x ∷ xs) zero lt other = rw (other x) refl
passed_over key (x ∷ xs) (suc at) lt other = passed_over key xs at (omega arith) other

not_at : (key : FlowKey) (xs : List Cached) (at : ℕ) (d : Cached) → NoKey key xs → at < length xs → same_key (get_or xs at d).key key ≡ false
not_at key [] at d n lt = absurd (omega arith)
not_at key (x ∷ xs) zero d n lt = n.0
not_at key (x ∷ xs) (suc at) d n lt = not_at key xs at d n.1 (omega arith)

out_of_none : (key : FlowKey) (xs : List Cached) → NoKey key xs → without key xs ≡ xs
out_of_none key [] n = refl
out_of_none key (x ∷ xs) n = rw n.0 (ap (λ ys. x ∷ ys) (out_of_none key xs n.1))

-- what is found is of the key
found_is : (key : FlowKey) (xs : List Cached) (x : Cached) → newest key xs ≡ Some x → same_key x.key key ≡ true
found_is key [] x e = absurd cc
found_is key (y ∷ ys) x e = by_first (same_key y.key key) refl e (found_is key ys x)
  where
    by_first : (b : Bool) → same_key y.key key ≡ b → cond b (Some y) (newest key ys) ≡ Some x → (newest key ys ≡ Some x → same_key x.key key ≡ true) → same_key x.key key ≡ true
    by_first true f g ih = let is : y ≡ x = cc in subst (λ (z : Cached). same_key z.key key ≡ true) is f
    by_first false f g ih = ih g

pub out_not_found : (key : FlowKey) (xs : List Cached) → newest key xs ≡ None → without key xs ≡ xs
out_not_found key [] e = refl
out_not_found key (x ∷ xs) e = by_first (same_key x.key key) e (out_not_found key xs)
  where
    by_first : (b : Bool) → cond b (Some x) (newest key xs) ≡ None → (newest key xs ≡ None → without key xs ≡ xs) → cond (not b) (x ∷ without key xs) (without key xs) ≡ x ∷ xs
    by_first true f ih = absurd cc
    by_first false f ih = ap (λ ys. x ∷ ys) (ih f)

out_same : (key : FlowKey) (xs : List Cached) (at : ℕ) (d : Cached) → Once key xs → at < length xs → same_key (get_or xs at d).key key ≡ true → without key xs ≡ remove xs at
out_same key [] at d once lt e = absurd (omega arith)
out_same key (x ∷ xs) zero d once lt e = rw e (out_of_none key xs (once.0 e))
out_same key (x ∷ xs) (suc at) d once lt e = by_first (same_key x.key key) refl (out_same key xs at d once.1 (omega arith) e)
  where
    differ : (b : Bool) → b ≡ false → b ≡ true → ⊥
    differ b f t = cc

    by_first : (b : Bool) → same_key x.key key ≡ b → without key xs ≡ remove xs at → cond (not b) (x ∷ without key xs) (without key xs) ≡ x ∷ remove xs at
    by_first true f ih = absurd (differ (same_key (get_or xs at d).key key) (not_at key xs at d (once.0 f) (omega arith)) e)
    by_first false f ih = ap (λ ys. x ∷ ys) ih

-- where the key stands once, it is taken out by its place
pub out_found : (key : FlowKey) (xs : List Cached) (at : ℕ) → Once key xs → at < length xs → ((d : Cached) → newest key xs ≡ Some (get_or xs at d)) → without key xs ≡ remove xs at
out_found key [] at once lt found = absurd (omega arith)
out_found key (x ∷ xs) at once lt found = out_same key (x ∷ xs) at x once lt (found_is key (x ∷ xs) (get_or (x ∷ xs) at x) (found x))

pub tags_out : (xs : List Cached) (at : ℕ) → remove (tags_of xs) at ≡ tags_of (remove xs at)
tags_out [] zero = refl
tags_out [] (suc at) = refl
tags_out (x ∷ xs) zero = refl
tags_out (x ∷ xs) (suc at) = ap (λ ts. tag_of x.key ∷ ts) (tags_out xs at)
