-- When a prefix holds an address, and when a rule matches a tuple; and the best of a list.
use Rattle.std.specs.Prelude.{ℕ, ◌-◌, ◌/◌, ◌^◌, ◌==◌, ◌&&◌, Bool, true, false, nat_le, if◌then◌else◌, List, [], ◌∷◌, Option, Some, None}
use Rattle.and_policy.specs.declared.packet.Tuple.{Tuple}
use Rattle.and_policy.specs.declared.entry.Prefix.{Prefix}
use Rattle.and_policy.specs.declared.entry.Side.{Side}
use Rattle.and_policy.specs.declared.entry.Side.TheVariants.{Egress, Ingress}
use Rattle.and_policy.specs.declared.entry.Rule.{Rule}

-- the highest bits of both agree, as many as the prefix is long
abbrev pub holds : Prefix → ℕ → Bool
holds p address = nat_le p.length 32 && (address / 2 ^ (32 - p.length) == p.address / 2 ^ (32 - p.length))

abbrev pub is_protocol : Option ℕ → ℕ → Bool
is_protocol None protocol = true
is_protocol (Some wanted) protocol = protocol == wanted

-- both ends of the range count
abbrev pub is_within : ℕ → ℕ → ℕ → Bool
is_within low high port = nat_le low port && nat_le port high

-- ports are compared whatever the protocol is
abbrev pub matches : Tuple → Rule → Bool
matches x rule =
    is_protocol rule.protocol x.protocol
    && holds rule.source x.source
    && holds rule.destination x.destination
    && is_within rule.source_low rule.source_high x.source_port
    && is_within rule.destination_low rule.destination_high x.destination_port

abbrev pub is_side : Side → Side → Bool
is_side Egress Egress = true
is_side Ingress Ingress = true
is_side _ _ = false

-- the element that no other comes before; of two that are alike, the first
abbrev pub better : {A : Type 0} → (A → A → Bool) → A → Option A → A
better before x None = x
better before x (Some y) = if before y x then y else x

abbrev pub least : {A : Type 0} → (A → A → Bool) → List A → Option A
least before [] = None
least before (x ∷ xs) = Some (better before x (least before xs))
