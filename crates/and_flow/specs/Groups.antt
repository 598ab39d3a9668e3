-- What holds of the entries of a group, and the tags that stand beside them.
use Rattle.std.specs.Prelude.{◌≡◌, ℕ, ◌%◌, ◌/◌, true, false, List, [], ◌∷◌, map}
use Rattle.and_policy.specs.declared.cached.Cached.{Cached}
use Rattle.and_policy.specs.declared.entry.FlowKey.{FlowKey}
use Rattle.and_policy.specs.FlowHash.{flow_hash}
use Rattle.and_policy.specs.Caches.{same_key}

-- the 8 bits of the flow hash above those that choose the group
unfoldable pub tag_of : FlowKey → ℕ
tag_of key = flow_hash key.tuple / 64 % 256

abbrev pub tags_of : List Cached → List ℕ
tags_of xs = map (λ x. tag_of x.key) xs

-- no entry of the key
abbrev pub NoKey : FlowKey → List Cached → Type 0
NoKey key [] = Unit {0}
NoKey key (x ∷ xs) = (same_key x.key key ≡ false) × NoKey key xs

-- the key stands at most once
abbrev pub Once : FlowKey → List Cached → Type 0
Once key [] = Unit {0}
Once key (x ∷ xs) = (same_key x.key key ≡ true → NoKey key xs) × Once key xs

-- each key does
abbrev pub KeysOnce : List Cached → Type 0
KeysOnce xs = (key : FlowKey) → Once key xs
