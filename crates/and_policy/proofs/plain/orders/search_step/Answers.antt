use Rattle.std.proofs.Common.{◌≡◌, true, sym, ◌∙◌}
use Rattle.std.specs.List.{list_any}
use Rattle.and_policy.specs.Logged.{entries_in, entry_of_op}
use Rattle.and_policy.specs.Programmes.{orders_for}
use Rattle.and_policy.proofs.Ended.{later_order}
use Rattle.and_policy.proofs.plain.orders.search_step.Goals as goal

pub returns-then-search-clause-live : goal.returns-then-search-clause-live
returns-then-search-clause-live c =
    let same : list_any (orders_for c.in-Offload.order.net c.in-Offload.order.ip) c.args.later.now ≡ true =
    rw (c.if-order-net.true, c.if-order-ip.true) (sym c.requires.seen ∙ c.if-search.true) in
    rw (c.in-Offload.is, later_order (entries_in entry_of_op c.args.ops.now) c.in-Offload.order c.args.later.now same) c.requires.live
