use Rattle.std.proofs.Common.{◌≡◌, false, rules, sym, ap, ◌∙◌, length}
use Rattle.std.specs.List.{list_any}
use Rattle.and_events.specs.Run.{past}
use Rattle.and_events.specs.State.{State}
use Rattle.and_report.specs.Orders.{gives_orders}
use Rattle.and_report.proofs.OrderLemmas.{no_orders, programmes_len}
use Rattle.and_report.proofs.orders.orders.Goals as goal

pub returns-then-not-any_gives_orders : goal.returns-then-not-any_gives_orders
returns-then-not-any_gives_orders c =
    let none : list_any (gives_orders c.args.plan.now) (past c.args.lines.now) ≡ false = search rules in
    sym (no_orders c.args.plan.now (past c.args.lines.now) none)

pub orders_in-requires : goal.orders_in-requires
orders_in-requires c = ap (λ (s : State). length s.programmes.ops) c.in_ok-s.ensures ∙ programmes_len c.args.plan.now (past c.args.lines.now)
