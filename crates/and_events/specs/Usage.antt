-- How much was sent since the last review, and what a review orders.
use Rattle.std.specs.Prelude.{◌≡◌, ℕ, ◌+◌, ◌==◌, ◌&&◌, ◌||◌, Bool, nat_lt, nat_le, if◌then◌else◌, List, [], ◌∷◌, Option, Some, None}
use Rattle.std.specs.List.{filter, filter_map}
use Rattle.and_policy.specs.declared.port.UsageKey.{UsageKey}
use Rattle.and_policy.specs.declared.entry.Entry.{Entry}
use Rattle.and_policy.specs.declared.entry.Order.{Order}
use Rattle.and_policy.specs.declared.decision.Routed.{Routed}
use Rattle.and_policy.specs.declared.decision.Routed.TheVariants as routeds
use Rattle.and_policy.specs.Logs.{now}
use Rattle.and_policy.specs.Owners.{routed}
use Rattle.and_events.specs.declared.plan.Settings.{Settings}
use Rattle.and_events.specs.declared.event.Given.{Given}

-- the bytes of a key
pub record Used : Type 0 where
  pub key : UsageKey
  pub bytes : ℕ

-- what an event does to the usage
pub data UsageMove : Type 0 where
  Unused : UsageMove
  Uses : (key : UsageKey) (bytes : ℕ) → UsageMove
  Cleared : UsageMove

abbrev pub same_key : UsageKey → UsageKey → Bool
same_key a b = (a.host == b.host) && (a.net == b.net) && (a.ip == b.ip)

-- keys are ordered by host, then network, then address
abbrev pub key_before : UsageKey → UsageKey → Bool
key_before a b = nat_lt a.host b.host || ((a.host == b.host) && (nat_lt a.net b.net || ((a.net == b.net) && nat_lt a.ip b.ip)))

-- the usage in the order of its keys, with so many bytes more for this key
abbrev pub with_use : UsageKey → ℕ → List Used → List Used
with_use key bytes [] = record { key = key; bytes = bytes } ∷ []
with_use key bytes (u ∷ us) =
    if same_key key u.key then record { key = key; bytes = u.bytes + bytes } ∷ us
    else (if key_before key u.key then record { key = key; bytes = bytes } ∷ u ∷ us else u ∷ with_use key bytes us)

unfoldable pub usage_after : List Used → UsageMove → List Used
usage_after usage Unused = usage
usage_after usage (Uses key bytes) = with_use key bytes usage
usage_after usage Cleared = []

abbrev pub order_to : Settings → List Entry → UsageKey → Routed → Option Given
order_to s log key (routeds.To by net host) =
    Some (record { host = key.host; order = record { net = key.net; ip = key.ip; to_net = net; to_host = host; until = now log + s.life } })
order_to s log key _ = None

-- the order for a key, where the route of the whole log gives a network with an owner of the address
abbrev pub order_for : Settings → List Entry → Used → Option Given
order_for s log u = order_to s log u.key (routed log u.key.net u.key.ip)

-- in key order, an order for each key at or over the threshold
abbrev pub orders_of : Settings → List Entry → List Used → List Given
orders_of s log usage = filter_map (order_for s log) (filter (λ u. nat_le s.threshold u.bytes) usage)
