-- Routes: the longest prefix that holds the destination wins, then the smaller number.
use Rattle.std.specs.Prelude.{ℕ, ◌==◌, ◌&&◌, ◌||◌, Bool, nat_lt, List, Option, Some, None}
use Rattle.std.specs.List.{filter}
use Rattle.and_policy.specs.declared.entry.Entry.{Entry}
use Rattle.and_policy.specs.declared.entry.Route.{Route}
use Rattle.and_policy.specs.declared.entry.Target.{Target}
use Rattle.and_policy.specs.declared.entry.Target.TheVariants as targets
use Rattle.and_policy.specs.declared.decision.Name.TheVariants as names
use Rattle.and_policy.specs.declared.decision.Routing.{Routing}
use Rattle.and_policy.specs.declared.decision.Routing.TheVariants.{Dropped, Into}
use Rattle.and_policy.specs.Matching.{holds, least}
use Rattle.and_policy.specs.Logs.{routes}

abbrev pub route_before : Route → Route → Bool
route_before a b = nat_lt b.prefix.length a.prefix.length || ((a.prefix.length == b.prefix.length) && nat_lt a.number b.number)

-- the route that decides: of those whose prefix holds the address, the first
abbrev pub deciding_route : ℕ → List Route → Option Route
deciding_route address list = least route_before (filter (λ route. holds route.prefix address) list)

-- by its target; without a route the packet stays in its network. A peer's own routes are not consulted
abbrev pub routing_to : ℕ → ℕ → Target → Routing
routing_to net number targets.Local = Into (names.Rule number) net
routing_to net number (targets.Peer peer) = Into (names.Rule number) peer
routing_to net number targets.Drop = Dropped (names.Rule number)

abbrev pub routing_by : ℕ → Option Route → Routing
routing_by net None = Into names.Implied net
routing_by net (Some route) = routing_to net route.number route.target

-- what the entries k say of a destination in the network
abbrev pub route : List Entry → ℕ → ℕ → Routing
route k net address = routing_by net (deciding_route address (routes k net))
