-- Usage in the order of its keys.
use Rattle.std.proofs.Common.{◌≡◌, ℕ, zero, suc, ◌+◌, ◌<◌, ◌≤◌, Bool, true, false, List, [], ◌∷◌, length, get_or, set, refl, ap, sym, ◌∙◌, subst, inl, inr, arith}
use Rattle.std.specs.Prelude.{if◌then◌else◌, ◌==◌, ◌&&◌, ◌||◌, nat_lt}
use Rattle.std.proofs.lemmas.Bool.{cases_order, eq-eqb, false≢true, le-ltb, lt-ltb, ltb-true, ne_eqb}
use Rattle.std.specs.List.{insert}
use Rattle.std.specs.List.Sorted.{IsPartitionedBy}
use Rattle.and_policy.specs.declared.port.UsageKey.{UsageKey}
use Rattle.and_policy.specs.Sorting.{AllAfter, Ascends}
use Rattle.and_events.specs.Usage.{Used, key_before, same_key, with_use}
use Rattle.and_usage.specs.Counting.{IsPlace, bytes_of, used_before}

-- ---- the order of keys

apart : (a b : UsageKey) → key_before a b ≡ true → same_key b a ≡ false
apart a b h = grind arith

one_way : (a b : UsageKey) → key_before a b ≡ true → key_before b a ≡ false
one_way a b h = grind arith

-- by one number, then by what is left
abbrev lex : ℕ → ℕ → Bool → Bool
lex p q rest = nat_lt p q || ((p == q) && rest)

same_lex : (p q : ℕ) (rest : Bool) → p ≡ q → lex p q rest ≡ rest
same_lex p q rest e = rw (le-ltb p q (omega arith), eq-eqb p q e) refl

less_lex : (p q : ℕ) (rest : Bool) → p < q → lex p q rest ≡ true
less_lex p q rest h = rw (lt-ltb p q h) refl

more_lex : (p q : ℕ) (rest : Bool) → q < p → lex p q rest ≡ false
more_lex p q rest h = rw (le-ltb p q (omega arith), ne_eqb p q (λ e. omega arith)) refl

lex_through : (p q r : ℕ) (a b c : Bool) → (a ≡ true → b ≡ true → c ≡ true) → lex p q a ≡ true → lex q r b ≡ true → lex p r c ≡ true
lex_through p q r a b c f h g = elim (cases_order p q) as (λ _. lex p r c ≡ true) [
  | inl e ↦ elim (cases_order q r) as (λ _. lex p r c ≡ true) [
    | inl k ↦ same_lex p r c (e ∙ k) ∙ f (sym (same_lex p q a e) ∙ h) (sym (same_lex q r b k) ∙ g)
    | inr o ↦ elim o as (λ _. lex p r c ≡ true) [
      | inl l ↦ less_lex p r c (omega (arith, e, l))
      | inr l ↦ absurd (false≢true (sym (more_lex q r b l) ∙ g))
    ]
  ]
  | inr o ↦ elim o as (λ _. lex p r c ≡ true) [
    | inl l ↦ elim (cases_order q r) as (λ _. lex p r c ≡ true) [
      | inl k ↦ less_lex p r c (omega (arith, k, l))
      | inr i ↦ elim i as (λ _. lex p r c ≡ true) [
        | inl m ↦ less_lex p r c (omega (arith, l, m))
        | inr m ↦ absurd (false≢true (sym (more_lex q r b m) ∙ g))
      ]
    ]
    | inr l ↦ absurd (false≢true (sym (more_lex p q a l) ∙ h))
  ]
]

less_through : (p q r : ℕ) → nat_lt p q ≡ true → nat_lt q r ≡ true → nat_lt p r ≡ true
less_through p q r h g = lt-ltb p r (omega (arith, ltb-true p q h, ltb-true q r g))

through : (a b c : UsageKey) → key_before a b ≡ true → key_before b c ≡ true → key_before a c ≡ true
through a b c h g =
    lex_through a.host b.host c.host _ _ _ (λ i j. lex_through a.net b.net c.net _ _ _ (λ m n. less_through a.ip b.ip c.ip m n) i j) h g

other : (a b : UsageKey) → same_key a b ≡ false → key_before b a ≡ false → key_before a b ≡ true
other a b h g = grind arith

same_is : (a b : UsageKey) → same_key a b ≡ true → a ≡ b
same_is a b e = grind arith

alike : (a b c : UsageKey) → same_key a b ≡ true → key_before b c ≡ true → key_before a c ≡ true
alike a b c h g = subst (λ (k : UsageKey). key_before k c ≡ true) (sym (same_is a b h)) g

-- ---- the usage stays in order

after_more : (a b : Used) (us : List Used) → used_before a b ≡ true → AllAfter used_before b us → AllAfter used_before a us
after_more a b [] h s = tt
after_more a b (u ∷ us) h s = (through a.key b.key u.key h s.0, after_more a b us h s.1)

after_same : (key : UsageKey) (bytes : ℕ) (u : Used) (us : List Used) → same_key key u.key ≡ true → AllAfter used_before u us → AllAfter used_before (record { key = key; bytes = bytes }) us
after_same key bytes u [] e s = tt
after_same key bytes u (v ∷ us) e s = (alike key u.key v.key e s.0, after_same key bytes u us e s.1)

after_use : (w : Used) (key : UsageKey) (bytes : ℕ) (us : List Used) → key_before w.key key ≡ true → AllAfter used_before w us → AllAfter used_before w (with_use key bytes us)
after_use w key bytes [] h s = (h, tt)
after_use w key bytes (u ∷ us) h s = at_first (same_key key u.key) (key_before key u.key) (after_use w key bytes us h s.1)
  where
    at_first : (a b : Bool) → AllAfter used_before w (with_use key bytes us)
        → AllAfter used_before w (if a then record { key = key; bytes = u.bytes + bytes } ∷ us else (if b then record { key = key; bytes = bytes } ∷ u ∷ us else u ∷ with_use key bytes us))
    at_first true b ih = (h, s.1)
    at_first false true ih = (h, s)
    at_first false false ih = (s.0, ih)

pub ascends_use : (key : UsageKey) (bytes : ℕ) (us : List Used) → Ascends used_before us → Ascends used_before (with_use key bytes us)
ascends_use key bytes [] s = (tt, tt)
ascends_use key bytes (u ∷ us) s = at_first (same_key key u.key) refl (key_before key u.key) refl (ascends_use key bytes us s.1)
  where
    at_first : (a : Bool) → same_key key u.key ≡ a → (b : Bool) → key_before key u.key ≡ b → Ascends used_before (with_use key bytes us)
        → Ascends used_before (if a then record { key = key; bytes = u.bytes + bytes } ∷ us else (if b then record { key = key; bytes = bytes } ∷ u ∷ us else u ∷ with_use key bytes us))
    at_first true e b f ih = (after_same key (u.bytes + bytes) u us e s.0, s.1)
    at_first false e true f ih = ((f, after_more (record { key = key; bytes = bytes }) u us f s.0), s)
    at_first false e false f ih = (after_use u key bytes us (behind u.key key e f) s.0, ih)
      where
        behind : (a k : UsageKey) → same_key k a ≡ false → key_before k a ≡ false → key_before a k ≡ true
        behind a k h g = grind arith

-- ---- the place of a key

after_at : (u : Used) (us : List Used) (j : ℕ) (d : Used) → AllAfter used_before u us → j < length us → key_before u.key (get_or us j d).key ≡ true
after_at u [] j d s l = absurd (omega (arith, l))
after_at u (v ∷ us) zero d s l = s.0
after_at u (v ∷ us) (suc j) d s l = after_at u us j d s.1 (omega (arith, l))

-- the keys before another stand in front
pub parted : (key : UsageKey) (us : List Used) → Ascends used_before us → IsPartitionedBy (λ u. key_before u.key key) us
parted key [] s = λ i j d h l e. absurd (omega (arith, l))
parted key (u ∷ us) s = by_place (parted key us s.1)
  where
    by_place : IsPartitionedBy (λ v. key_before v.key key) us → (i j : ℕ) (d : Used) → i ≤ j → j < length (u ∷ us) → key_before (get_or (u ∷ us) j d).key key ≡ true → key_before (get_or (u ∷ us) i d).key key ≡ true
    by_place ih zero zero d h l e = e
    by_place ih zero (suc j) d h l e = through u.key (get_or us j d).key key (after_at u us j d s.0 (omega (arith, l))) e
    by_place ih (suc i) zero d h l e = absurd (omega (arith, h))
    by_place ih (suc i) (suc j) d h l e = ih i j d (omega (arith, h)) (omega (arith, l)) e

tail_place : (key : UsageKey) (u : Used) (us : List Used) (at : ℕ) → IsPlace key (u ∷ us) (suc at) → IsPlace key us at
tail_place key u us at p = record {
  within = omega (arith, p.within);
  before = λ j d h. p.before (suc j) d (omega (arith, h));
  not_before = λ d h. p.not_before d (omega (arith, h));
}

passed : (key : UsageKey) (bytes : ℕ) (u : Used) (us : List Used) → key_before u.key key ≡ true → with_use key bytes (u ∷ us) ≡ u ∷ with_use key bytes us
passed key bytes u us h = rw (apart u.key key h, one_way u.key key h) refl

-- the key stands there
pub use_there : (key : UsageKey) (bytes : ℕ) (us : List Used) (at : ℕ) (d : Used) → IsPlace key us at → at < length us → same_key key (get_or us at d).key ≡ true
    → with_use key bytes us ≡ set us at (record { key = key; bytes = (get_or us at d).bytes + bytes })
use_there key bytes [] at d p l e = absurd (omega (arith, l))
use_there key bytes (u ∷ us) zero d p l e = rw e refl
use_there key bytes (u ∷ us) (suc at) d p l e =
    passed key bytes u us (p.before 0 d (omega arith)) ∙ ap (λ xs. u ∷ xs) (use_there key bytes us at d (tail_place key u us at p) (omega (arith, l)) e)

pub bytes_there : (key : UsageKey) (us : List Used) (at : ℕ) (d : Used) → IsPlace key us at → at < length us → same_key key (get_or us at d).key ≡ true
    → (get_or us at d).bytes ≡ bytes_of key us
bytes_there key [] at d p l e = absurd (omega (arith, l))
bytes_there key (u ∷ us) zero d p l e = rw e refl
bytes_there key (u ∷ us) (suc at) d p l e = rw (apart u.key key (p.before 0 d (omega arith))) (bytes_there key us at d (tail_place key u us at p) (omega (arith, l)) e)

-- the key is new
pub use_new : (key : UsageKey) (bytes : ℕ) (us : List Used) (at : ℕ) → IsPlace key us at → ((d : Used) → at < length us → same_key key (get_or us at d).key ≡ false)
    → with_use key bytes us ≡ insert us at (record { key = key; bytes = bytes })
use_new key bytes [] zero p e = refl
use_new key bytes [] (suc at) p e = absurd (omega (arith, p.within))
use_new key bytes (u ∷ us) zero p e = rw (e u (omega arith), other key u.key (e u (omega arith)) (p.not_before u (omega arith))) refl
use_new key bytes (u ∷ us) (suc at) p e =
    passed key bytes u us (p.before 0 u (omega arith)) ∙ ap (λ xs. u ∷ xs) (use_new key bytes us at (tail_place key u us at p) (λ d l. e d (omega (arith, l))))
