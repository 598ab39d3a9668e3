use Rattle.std.proofs.Common.{◌≡◌, ◌∙◌, ap, List, IfOk, subst}
use Rattle.and_policy.specs.declared.entry.Entry.{Entry}
use Rattle.and_events.specs.declared.event.Given.{Given}
use Rattle.and_events.specs.Usage.{orders_of}
use Rattle.and_review.specs.Orders.{orders_for}
use Rattle.and_review.specs.Views.{ReviewsView}
use Rattle.and_review.proofs.Keyed.{orders_for-keys_over}
use Rattle.and_review.proofs.reviews.Reviews.orders.Goals as goal

pub returns-clause-orders : goal.returns-clause-orders
returns-clause-orders c =
    let s = c.args.settings in
    let log : List Entry = c.args.log.now in
    let same : orders_for s c.follow.new.self c.deref.result.now ≡ orders_of s log c.args.self.now.used =
    ap (λ (k : List Entry). orders_for s k c.deref.result.now) c.in_ok-follow.ensures.ok
    ∙ ap (orders_for s log) (c.deref.ensures.value ∙ c.in_ok-keys.ensures)
    ∙ orders_for-keys_over s log c.self.inside.usage.used
    ∙ ap (λ (r : ReviewsView). orders_of s log r.used) c.self.view_is in
    subst (λ (os : List Given). IfOk c.orders_for.result (λ orders. orders.items ≡ os)) same c.orders_for.ensures
