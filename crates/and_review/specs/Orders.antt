-- The orders of a review, by key.
use Rattle.std.specs.Prelude.{List, Option}
use Rattle.std.specs.List.{filter_map}
use Rattle.and_policy.specs.declared.port.UsageKey.{UsageKey}
use Rattle.and_policy.specs.declared.entry.Entry.{Entry}
use Rattle.and_policy.specs.Owners.{routed}
use Rattle.and_events.specs.declared.plan.Settings.{Settings}
use Rattle.and_events.specs.declared.event.Given.{Given}
use Rattle.and_events.specs.Usage.{order_to}

-- the order for a key, where the route of the whole log gives a network with an owner of the address
abbrev pub order_for_key : Settings → List Entry → UsageKey → Option Given
order_for_key s log key = order_to s log key (routed log key.net key.ip)

-- the orders for these keys, in their order
abbrev pub orders_for : Settings → List Entry → List UsageKey → List Given
orders_for s log keys = filter_map (order_for_key s log) keys
