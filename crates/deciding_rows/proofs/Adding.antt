-- How many bytes a key has after an addition.
use Rattle.std.proofs.Common.{◌≡◌, ◌≤◌, ◌+◌, ◌||◌, ◌&&◌, ℕ, Bool, true, false, List, [], ◌∷◌, refl, ap, sym, subst, arith}
use Rattle.std.specs.Prelude.{if◌then◌else◌, ◌==◌}
use Rattle.and_policy.specs.declared.port.UsageKey.{UsageKey}
use Rattle.and_events.specs.Usage.{Used, key_before, same_key, with_use}
use Rattle.and_usage.specs.Counting.{bytes_of}

same_is : (a b : UsageKey) → same_key a b ≡ true → a ≡ b
same_is a b e = grind arith

-- an addition gives no key more than was added
pub use_bytes : (other key : UsageKey) (bytes : ℕ) (us : List Used) → bytes_of other (with_use key bytes us) ≤ bytes_of other us + bytes
use_bytes other key bytes [] = by_same (same_key other key)
  where
    by_same : (b : Bool) → (if b then bytes else 0) ≤ 0 + bytes
    by_same true = omega arith
    by_same false = omega arith
use_bytes other key bytes (u ∷ us) = by_place (same_key key u.key) (key_before key u.key) refl (use_bytes other key bytes us)
  where
    new : Used
    new = record { key = key; bytes = bytes }

    more : Used
    more = record { key = key; bytes = u.bytes + bytes }

    after : (b c : Bool) → List Used
    after b c = if b then more ∷ us else (if c then new ∷ u ∷ us else u ∷ with_use key bytes us)

    rest : (b : Bool) → bytes_of other (with_use key bytes us) ≤ bytes_of other us + bytes
        → (if b then u.bytes else bytes_of other (with_use key bytes us)) ≤ (if b then u.bytes else bytes_of other us) + bytes
    rest true ih = omega arith
    rest false ih = ih

    there : (b : Bool) → (if b then u.bytes + bytes else bytes_of other us) ≤ (if b then u.bytes else bytes_of other us) + bytes
    there true = omega arith
    there false = omega arith

    before : (b : Bool) (n : ℕ) → (if b then bytes else n) ≤ n + bytes
    before true n = omega arith
    before false n = omega arith

    by_place : (b c : Bool) → same_key key u.key ≡ b → bytes_of other (with_use key bytes us) ≤ bytes_of other us + bytes
        → bytes_of other (after b c) ≤ bytes_of other (u ∷ us) + bytes
    by_place true c e ih =
        subst (λ (k : UsageKey). (if same_key other k then u.bytes + bytes else bytes_of other us) ≤ bytes_of other (u ∷ us) + bytes) (sym (same_is key u.key e)) (there (same_key other u.key))
    by_place false true e ih = before (same_key other key) (bytes_of other (u ∷ us))
    by_place false false e ih = rest (same_key other u.key) ih
