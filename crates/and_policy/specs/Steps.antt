-- What the plain program has found of the later part of a list, as it goes to the front.
use Rattle.std.specs.Prelude.{ℕ, ◌==◌, ◌&&◌, not, Bool, if◌then◌else◌, List, Option, Some}
use Rattle.std.specs.List.{find, list_any}
use Rattle.and_policy.specs.declared.packet.Tuple.{Tuple}
use Rattle.and_policy.specs.declared.entry.Entry.{Entry}
use Rattle.and_policy.specs.declared.entry.Op.{Op}
use Rattle.and_policy.specs.declared.entry.Order.{Order}
use Rattle.and_policy.specs.declared.entry.Route.{Route}
use Rattle.and_policy.specs.declared.entry.Rule.{Rule}
use Rattle.and_policy.specs.declared.entry.Side.{Side}
use Rattle.and_policy.specs.Egress.{rule_before}
use Rattle.and_policy.specs.Logged.{entries_in, entry_of_op}
use Rattle.and_policy.specs.Matching.{better, holds, is_side, matches}
use Rattle.and_policy.specs.Programmes.{living, same_order}
use Rattle.and_policy.specs.Routes.{route_before}

-- the rule that decides, with one more before those of which `best` decides
abbrev pub with_rule : Side → Tuple → Rule → Option Rule → Option Rule
with_rule side x rule best = if is_side rule.side side && matches x rule then Some (better rule_before rule best) else best

-- the same of routes
abbrev pub with_route : ℕ → Route → Option Route → Option Route
with_route address route best = if holds route.prefix address then Some (better route_before route best) else best

-- the log entries among operations
abbrev pub log_of : List Op → List Entry
log_of ops = entries_in entry_of_op ops

-- the orders of the later part that live among the operations
abbrev pub living_in : List Op → List Op → List Order
living_in ops later = living (log_of ops) later

-- the first order for this network and address
abbrev pub order_for : ℕ → ℕ → List Order → Option Order
order_for net ip orders = find (λ order. (order.net == net) && (order.ip == ip)) orders

-- some order of the network is among the first and not among the others
abbrev pub is_one_gone : ℕ → List Order → List Order → Bool
is_one_gone net orders others = list_any (λ order. (order.net == net) && not (list_any (same_order order) others)) orders
