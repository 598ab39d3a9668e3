-- A key stands once in its group, by its newest put.
use Rattle.std.proofs.Common.{◌≡◌, ◌≤◌, ◌<◌, ℕ, Bool, true, false, cond, List, [], ◌∷◌, ◌++◌, length, drop, Option, Some, None, refl, sym, subst, ap, ◌∙◌, ◌⊎◌, inl, inr, arith, set, get_or, length-set, get_or-set_same, get_or-set_other}
use Rattle.std.specs.Prelude.{not, nat_lt, nat_le, if◌then◌else◌}
use Rattle.std.proofs.lemmas.Bool.{leb-true}
use Rattle.std.proofs.lemmas.Bool.Decides.{eqb_tells}
use Rattle.std.proofs.lemmas.List.{get_or-replicate}
use Rattle.and_policy.specs.declared.cached.Cached.{Cached}
use Rattle.and_policy.specs.declared.decision.Outcome.{Outcome}
use Rattle.and_policy.specs.declared.entry.FlowKey.{FlowKey}
use Rattle.and_policy.specs.Caches.{after_puts, answer, at_most_16, group, group_of, look, put, put_in, same_key, without}
use Rattle.and_flow.specs.Groups.{NoKey, Once, KeysOnce}
use Rattle.and_flow.specs.Newest.{newest, AnswersNewest}

once_of_none : (key : FlowKey) (xs : List Cached) → NoKey key xs → Once key xs
once_of_none key [] n = tt
once_of_none key (x ∷ xs) n = (λ e. n.1, once_of_none key xs n.1)

found_none : (key : FlowKey) (xs : List Cached) → NoKey key xs → newest key xs ≡ None
found_none key [] n = refl
found_none key (x ∷ xs) n = rw n.0 (found_none key xs n.1)

-- the last of a list without the key
none_more : (key : FlowKey) (xs : List Cached) (x : Cached) → NoKey key xs → newest key (xs ++ x ∷ []) ≡ newest key (x ∷ [])
none_more key [] x n = refl
none_more key (y ∷ ys) x n = rw n.0 (none_more key ys x n.1)

-- keys that are the same
pub same_is : (a b : FlowKey) → same_key a b ≡ true → a ≡ b
same_is a b e = grind arith

-- ---- taking a key out

out_none : (key : FlowKey) (xs : List Cached) → NoKey key (without key xs)
out_none key [] = tt
out_none key (x ∷ xs) = at_first (same_key x.key key) refl (out_none key xs)
  where
    at_first : (b : Bool) → same_key x.key key ≡ b → NoKey key (without key xs) → NoKey key (cond (not b) (x ∷ without key xs) (without key xs))
    at_first true e n = n
    at_first false e n = (e, n)

-- another key is not touched
out_other : (other key : FlowKey) (xs : List Cached) → same_key other key ≡ false → newest key (without other xs) ≡ newest key xs
out_other other key [] d = refl
out_other other key (x ∷ xs) d = at_first (same_key x.key other) refl (out_other other key xs d)
  where
    at_first : (b : Bool) → same_key x.key other ≡ b → newest key (without other xs) ≡ newest key xs
        → newest key (cond (not b) (x ∷ without other xs) (without other xs)) ≡ newest key (x ∷ xs)
    at_first true e ih = let not_it : same_key x.key key ≡ false = rw (same_is x.key other e) d in rw not_it ih
    at_first false e ih = ap (λ o. cond (same_key x.key key) (Some x) o) ih

none_out : (other key : FlowKey) (xs : List Cached) → NoKey key xs → NoKey key (without other xs)
none_out other key [] n = tt
none_out other key (x ∷ xs) n = at_first (same_key x.key other) (none_out other key xs n.1)
  where
    at_first : (b : Bool) → NoKey key (without other xs) → NoKey key (cond (not b) (x ∷ without other xs) (without other xs))
    at_first true ih = ih
    at_first false ih = (n.0, ih)

once_out : (other key : FlowKey) (xs : List Cached) → Once key xs → Once key (without other xs)
once_out other key [] n = tt
once_out other key (x ∷ xs) n = at_first (same_key x.key other) (once_out other key xs n.1)
  where
    at_first : (b : Bool) → Once key (without other xs) → Once key (cond (not b) (x ∷ without other xs) (without other xs))
    at_first true ih = ih
    at_first false ih = (λ e. none_out other key xs (n.0 e), ih)

-- ---- adding one at the end

once_more : (key : FlowKey) (xs : List Cached) (x : Cached) → NoKey key xs → Once key (xs ++ x ∷ [])
once_more key [] x n = (λ e. tt, tt)
once_more key (y ∷ ys) x n = (λ e. absurd (differ (same_key y.key key) n.0 e), once_more key ys x n.1)
  where
    differ : (b : Bool) → b ≡ false → b ≡ true → ⊥
    differ b f t = cc

none_other : (key : FlowKey) (xs : List Cached) (x : Cached) → same_key x.key key ≡ false → NoKey key xs → NoKey key (xs ++ x ∷ [])
none_other key [] x d n = (d, tt)
none_other key (y ∷ ys) x d n = (n.0, none_other key ys x d n.1)

once_other : (key : FlowKey) (xs : List Cached) (x : Cached) → same_key x.key key ≡ false → Once key xs → Once key (xs ++ x ∷ [])
once_other key [] x d n = (λ e. tt, tt)
once_other key (y ∷ ys) x d n = (λ e. none_other key ys x d (n.0 e), once_other key ys x d n.1)

newest_other : (key : FlowKey) (xs : List Cached) (x : Cached) → same_key x.key key ≡ false → newest key (xs ++ x ∷ []) ≡ newest key xs
newest_other key [] x d = rw d refl
newest_other key (y ∷ ys) x d = ap (λ o. cond (same_key y.key key) (Some y) o) (newest_other key ys x d)

-- ---- at most 16

-- the key stands once, by this entry or not at all
pub record IsBy (key : FlowKey) (xs : List Cached) (found : Option Cached) : Type 0 where
  pub once : Once key xs
  pub by : (newest key xs ≡ None) ⊎ (newest key xs ≡ found)

dropped : (key : FlowKey) (xs : List Cached) (found : Option Cached) → IsBy key xs found → IsBy key (drop 1 xs) found
dropped key [] found h = h
dropped key (x ∷ xs) found h = at_first (same_key x.key key) refl
  where
    at_first : (b : Bool) → same_key x.key key ≡ b → IsBy key xs found
    at_first true e = record { once = h.once.1; by = inl (found_none key xs (h.once.0 e)) }
    at_first false e =
        let P : Bool → Type 0 = λ b. (cond b (Some x) (newest key xs) ≡ None) ⊎ (cond b (Some x) (newest key xs) ≡ found) in
        record { once = h.once.1; by = subst P e h.by }

trimmed : (key : FlowKey) (xs : List Cached) (found : Option Cached) → IsBy key xs found → IsBy key (at_most_16 xs) found
trimmed key xs found h = at_most (nat_lt 16 (length xs))
  where
    at_most : (b : Bool) → IsBy key (if b then drop 1 xs else xs) found
    at_most true = dropped key xs found h
    at_most false = h

-- ---- one put

put_same : (key : FlowKey) (xs : List Cached) (x : Cached) → same_key x.key key ≡ true → IsBy key (put_in xs x) (Some x)
put_same key xs x e =
    let is = same_is x.key key e in
    let n : NoKey key (without x.key xs) = subst (λ k. NoKey k (without x.key xs)) is (out_none x.key xs) in
    trimmed key (without x.key xs ++ x ∷ []) (Some x) (record { once = once_more key (without x.key xs) x n; by = inr (none_more key (without x.key xs) x n ∙ rw e refl) })

put_other : (key : FlowKey) (xs : List Cached) (x : Cached) (found : Option Cached) → same_key x.key key ≡ false → IsBy key xs found → IsBy key (put_in xs x) found
put_other key xs x found d h =
    let same = newest_other key (without x.key xs) x d ∙ out_other x.key key xs d in
    let P : Option Cached → Type 0 = λ o. (o ≡ None) ⊎ (o ≡ found) in
    trimmed key (without x.key xs ++ x ∷ []) found (record { once = once_other key (without x.key xs) x d (once_out x.key key xs h.once); by = subst P (sym same) h.by })

-- a put leaves each key at most once
pub once_put : (xs : List Cached) (x : Cached) → KeysOnce xs → KeysOnce (put_in xs x)
once_put xs x once key = at_key (same_key x.key key) refl
  where
    at_key : (b : Bool) → same_key x.key key ≡ b → Once key (put_in xs x)
    at_key true e = (put_same key xs x e).once
    at_key false e = (put_other key xs x (newest key xs) e (record { once = once key; by = inr refl })).once

-- ---- all puts

group_lt : (key : FlowKey) → group_of key < 64
group_lt key = omega arith

long : (puts : List Cached) → length (after_puts puts) ≡ 64
unfolding put
long [] = refl
long (x ∷ puts) = length-set (after_puts puts) (group_of x.key) _ ∙ long puts

by_puts : (puts : List Cached) (key : FlowKey) → IsBy key (group (after_puts puts) key) (newest key puts)
unfolding put
by_puts [] key = let e = get_or-replicate 64 (group_of key) [] [] (group_lt key) in subst (λ g. IsBy key g None) (sym e) (record { once = tt; by = inl refl })
by_puts (x ∷ puts) key =
    let c = after_puts puts in
    let new = put_in (group c x.key) x in
    elim (eqb_tells (group_of x.key) (group_of key)) as (λ _. IsBy key (group (put c x) key) (newest key (x ∷ puts))) [
      | inl e ↦
          let lt : group_of x.key < length c = subst (λ n. group_of x.key < n) (sym (long puts)) (group_lt x.key) in
          let here : group (put c x) key ≡ put_in (group c key) x =
          subst (λ g. get_or (set c (group_of x.key) new) g [] ≡ put_in (get_or c g []) x) e.1 (get_or-set_same c (group_of x.key) new [] lt) in
          subst (λ g. IsBy key g (newest key (x ∷ puts))) (sym here) (at_key (same_key x.key key) refl (by_puts puts key))
      | inr e ↦
          let there : group (put c x) key ≡ group c key = get_or-set_other c (group_of x.key) (group_of key) new [] (λ f. e.1 (sym f)) in
          subst (λ g. IsBy key g (newest key (x ∷ puts))) (sym there) (elsewhere (same_key x.key key) refl e.1 (by_puts puts key))
    ]
  where
    at_key : (b : Bool) → same_key x.key key ≡ b → IsBy key (group (after_puts puts) key) (newest key puts) → IsBy key (put_in (group (after_puts puts) key) x) (cond b (Some x) (newest key puts))
    at_key true e h = put_same key (group (after_puts puts) key) x e
    at_key false e h = put_other key (group (after_puts puts) key) x (newest key puts) e h

    elsewhere : (b : Bool) → same_key x.key key ≡ b → (group_of x.key ≡ group_of key → ⊥) → IsBy key (group (after_puts puts) key) (newest key puts) → IsBy key (group (after_puts puts) key) (cond b (Some x) (newest key puts))
    elsewhere true e ne h = absurd (ne (ap group_of (same_is x.key key e)))
    elsewhere false e ne h = h

-- ---- what is answered

told : (floor : ℕ) (found : Option Cached) (o : Outcome) → answer floor found ≡ Some o → (x : Cached) × (found ≡ Some x) × (x.outcome ≡ o) × (floor ≤ x.stamp)
told floor None o e = absurd cc
told floor (Some x) o e = by_stamp (nat_le floor x.stamp) refl e
  where
    by_stamp : (b : Bool) → nat_le floor x.stamp ≡ b → (if b then Some x.outcome else None) ≡ Some o → (y : Cached) × (Some x ≡ Some y) × (y.outcome ≡ o) × (floor ≤ y.stamp)
    by_stamp true l f = (x, refl, grind arith, leb-true floor x.stamp l)
    by_stamp false l f = absurd cc

pub answers_newest : AnswersNewest
unfolding look
answers_newest puts key floor o e =
    let h = by_puts puts key in
    let (x, found, out, stamp) = told floor (newest key (group (after_puts puts) key)) o e in
    elim h.by as (λ _. (y : Cached) × (newest key puts ≡ Some y) × (y.outcome ≡ o) × (floor ≤ y.stamp)) [
      | inl none ↦ absurd (nothing x (sym none ∙ found))
      | inr by ↦ (x, sym by ∙ found, out, stamp)
    ]
  where
    nothing : (x : Cached) → ◌≡◌ {A = Option Cached} None (Some x) → ⊥
    nothing x e = cc
