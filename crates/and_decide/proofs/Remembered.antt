-- What a cache answers whose entries are what the tables' operations say.
use Rattle.std.proofs.Common.{◌≡◌, ℕ, zero, suc, Bool, true, false, cond, List, [], ◌∷◌, ◌++◌, length, drop, Some, None, refl, ap, sym, subst, ◌∙◌, arith}
use Rattle.std.specs.Prelude.{if◌then◌else◌, nat_le, nat_lt, slice_index_or, slice_set, replicate, IfSome}
use Rattle.std.specs.List.{find, filter}
use Rattle.std.proofs.lemmas.Bool.{leb-true}
use Rattle.and_policy.specs.declared.cached.Cached.{Cached}
use Rattle.and_policy.specs.declared.entry.FlowKey.{FlowKey}
use Rattle.and_policy.specs.Caches.{Cache, answer, at_most_16, empty, group, group_of, look, put, put_in, said, same_key, without}
use Rattle.and_tables.specs.HostViews.{HostView}
use Rattle.and_decide.specs.Deciding.{AreRight, Each, IsRight}

same_is : (a b : FlowKey) → same_key a b ≡ true → a ≡ b
same_is a b e = grind arith

group_right : (t : HostView) (c : Cache) (i : ℕ) → AreRight t c → Each (IsRight t) (slice_index_or c i [])
group_right t [] zero h = tt
group_right t [] (suc i) h = tt
group_right t (xs ∷ c) zero h = h.0
group_right t (xs ∷ c) (suc i) h = group_right t c i h.1

-- an entry that answers at the tables' number stands on all operations
answered : (t : HostView) (x : Cached) (key : FlowKey) → IsRight t x → same_key x.key key ≡ true
    → IfSome (answer (length t.ops) (Some x)) (λ o. o ≡ said t.gateways t.ops (length t.ops) key)
answered t x key r e = by_stamp (nat_le (length t.ops) x.stamp) refl
  where
    by_stamp : (b : Bool) → nat_le (length t.ops) x.stamp ≡ b → IfSome (if b then Some x.outcome else None) (λ o. o ≡ said t.gateways t.ops (length t.ops) key)
    by_stamp false l = tt
    by_stamp true l =
        let high = leb-true (length t.ops) x.stamp l in
        let is : x.stamp ≡ length t.ops = omega (arith, high, r.0) in
        r.1 ∙ ap (λ n. said t.gateways t.ops n x.key) is ∙ ap (said t.gateways t.ops (length t.ops)) (same_is x.key key e)

in_group : (t : HostView) (xs : List Cached) (key : FlowKey) → Each (IsRight t) xs
    → IfSome (answer (length t.ops) (find (λ x. same_key x.key key) xs)) (λ o. o ≡ said t.gateways t.ops (length t.ops) key)
in_group t [] key h = tt
in_group t (x ∷ xs) key h = at_first (same_key x.key key) refl (in_group t xs key h.1)
  where
    at_first : (b : Bool) → same_key x.key key ≡ b → IfSome (answer (length t.ops) (find (λ x. same_key x.key key) xs)) (λ o. o ≡ said t.gateways t.ops (length t.ops) key)
        → IfSome (answer (length t.ops) (cond b (Some x) (find (λ x. same_key x.key key) xs))) (λ o. o ≡ said t.gateways t.ops (length t.ops) key)
    at_first true e ih = answered t x key h.0 e
    at_first false e ih = ih

-- what the cache answers is what the tables' operations say
pub right_answer : (t : HostView) (c : Cache) (key : FlowKey) → AreRight t c
    → IfSome (look c key (length t.ops)) (λ o. o ≡ said t.gateways t.ops (length t.ops) key)
unfolding look
right_answer t c key h = in_group t (group c key) key (group_right t c (group_of key) h)

-- ---- a cache stays right

module _ {A : Type 0} (P : A → Type 0) where
  each_replicate : (n : ℕ) (x : A) → P x → Each P (replicate n x)
  each_replicate zero x h = tt
  each_replicate (suc n) x h = (h, each_replicate n x h)

  each_filter : (f : A → Bool) (xs : List A) → Each P xs → Each P (filter f xs)
  each_filter f [] h = tt
  each_filter f (x ∷ xs) h = at_first (f x) (each_filter f xs h.1)
    where
      at_first : (b : Bool) → Each P (filter f xs) → Each P (cond b (x ∷ filter f xs) (filter f xs))
      at_first true ih = (h.0, ih)
      at_first false ih = ih

  each_last : (xs : List A) (y : A) → Each P xs → P y → Each P (xs ++ y ∷ [])
  each_last [] y h p = (p, tt)
  each_last (x ∷ xs) y h p = (h.0, each_last xs y h.1 p)

  each_rest : (xs : List A) → Each P xs → Each P (drop 1 xs)
  each_rest [] h = tt
  each_rest (x ∷ xs) h = h.1

  each_set : (xs : List A) (i : ℕ) (y : A) → Each P xs → P y → Each P (slice_set xs i y)
  each_set [] i y h p = tt
  each_set (x ∷ xs) zero y h p = (p, h.1)
  each_set (x ∷ xs) (suc i) y h p = (h.0, each_set xs i y h.1 p)

few : (t : HostView) (xs : List Cached) → Each (IsRight t) xs → Each (IsRight t) (at_most_16 xs)
few t xs h = by_count (nat_lt 16 (length xs))
  where
    by_count : (b : Bool) → Each (IsRight t) (if b then drop 1 xs else xs)
    by_count true = each_rest (IsRight t) xs h
    by_count false = h

pub right_empty : (t : HostView) (c : Cache) → c ≡ empty → AreRight t c
right_empty t c e = subst (AreRight t) (sym e) (each_replicate (Each (IsRight t)) 64 [] tt)

-- by a put of what the tables' first operations say, as many as its stamp
pub right_put : (t : HostView) (c : Cache) (x : Cached) → AreRight t c → IsRight t x → AreRight t (put c x)
unfolding put
right_put t c x h r =
    each_set (Each (IsRight t)) c (group_of x.key) (put_in (group c x.key) x) h
    (few t _ (each_last (IsRight t) (without x.key (group c x.key)) x (each_filter (IsRight t) _ (group c x.key) (group_right t c (group_of x.key) h)) r))
