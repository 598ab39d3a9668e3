-- Usage with room for more keys, and the keys that have reached a threshold.
use Rattle.std.specs.Prelude.{◌≡◌, ◌<◌, ◌≤◌, ℕ, Bool, true, false, nat_le, if◌then◌else◌, List, [], ◌∷◌, length, map, slice_index_or}
use Rattle.std.specs.List.{filter}
use Rattle.and_policy.specs.declared.port.UsageKey.{UsageKey}
use Rattle.and_events.specs.Usage.{Used, key_before, same_key}

-- the usage in the order of its keys, and for how many keys more there is room
pub record UsageView : Type 0 where
  pub used : List Used
  pub spare : ℕ

-- by key
abbrev pub used_before : Used → Used → Bool
used_before a b = key_before a.key b.key

-- the bytes of the key, 0 where it has none
abbrev pub bytes_of : UsageKey → List Used → ℕ
bytes_of key [] = 0
bytes_of key (u ∷ us) = if same_key key u.key then u.bytes else bytes_of key us

-- the keys whose bytes are at least the threshold, in their order
abbrev pub keys_over : ℕ → List Used → List UsageKey
keys_over threshold us = map (λ u. u.key) (filter (λ u. nat_le threshold u.bytes) us)

-- the place up to which all keys come before this one
pub record IsPlace (key : UsageKey) (us : List Used) (at : ℕ) : Type 0 where
  pub within : at ≤ length us
  pub before : (j : ℕ) (d : Used) → j < at → key_before (slice_index_or us j d).key key ≡ true
  pub not_before : (d : Used) → at < length us → key_before (slice_index_or us at d).key key ≡ false
