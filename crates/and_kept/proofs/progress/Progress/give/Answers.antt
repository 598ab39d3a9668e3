use Rattle.std.proofs.Common.{◌∙◌, sym}
use Rattle.and_kept.specs.Nodes.{nodes_in}
use Rattle.and_kept.proofs.OrdersLemmas.{can_give_more, orders_more, orders_over}
use Rattle.and_kept.proofs.progress.Progress.give.Goals as goal

pub loop-given-preserved : goal.loop-given-preserved
loop-given-preserved c =
    let at = c.loop-given.given-index in
    let orders = c.args.orders.now in
    record {
      programmes = orders_more c.loop-given.self.programmes c.give_one.new.self.programmes orders at _ c.loop-given-test.true c.give_one.ensures.programmes ∙ c.loop-given.invariant.programmes;
      limit = c.give_one.ensures.limit ∙ c.loop-given.invariant.limit;
      held = c.give_one.ensures.held ∙ c.loop-given.invariant.held;
      least = c.give_one.ensures.least ∙ c.loop-given.invariant.least;
      can = can_give_more (nodes_in c.loop-given.self) (nodes_in c.give_one.new.self) orders at _ c.loop-given-test.true c.loop-given.invariant.can c.give_one.ensures.programmes c.give_one.ensures.limit c.give_one.ensures.rooms;
    }

pub returns-clause-programmes : goal.returns-clause-programmes
returns-clause-programmes c =
    sym (orders_over c.loop-given.self.programmes c.args.orders.now c.loop-given.given-index c.loop-given-test.false) ∙ c.loop-given.invariant.programmes
