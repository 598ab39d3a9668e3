use Rattle.std.proofs.Common.{◌∙◌, List, ap}
use Rattle.and_policy.specs.declared.entry.Entry.{Entry}
use Rattle.and_events.specs.Usage.{orders_of}
use Rattle.and_book.specs.Inside.{kept_of}
use Rattle.and_book.proofs.Reviewing.{log_is_log, log_is_small, hosts_are_there, rooms_are_small}
use Rattle.and_book.proofs.book.Book.prepare.Goals as goal

pub orders-requires-clause-log : goal.orders-requires-clause-log
orders-requires-clause-log c =
    let x = c.self.inside in
    log_is_log x.plan x.threads x.lines.items (kept_of x) _ c.self.invariant.keeps c.log.result.now c.log.ensures

pub orders-requires-clause-small : goal.orders-requires-clause-small
orders-requires-clause-small c =
    let x = c.self.inside in
    log_is_small x.plan x.threads x.lines.items (kept_of x) _ c.self.invariant.keeps c.log.result.now c.log.ensures

pub room_for-requires-clause-hosts : goal.room_for-requires-clause-hosts
room_for-requires-clause-hosts c =
    let x = c.self.inside in
    hosts_are_there x.plan x.threads x.lines.items (kept_of x) _ c.self.invariant.keeps c.deref.result.now
    (c.deref.ensures.value ∙ (c.in_ok-orders.ensures.orders ∙ ap (λ (log : List Entry). orders_of x.plan.settings log x.reviews.used) c.log.ensures))

pub room_for-requires-clause-small : goal.room_for-requires-clause-small
room_for-requires-clause-small c =
    let x = c.self.inside in
    rooms_are_small x.plan x.threads x.lines.items (kept_of x) _ c.self.invariant.keeps c.deref.result.now
    (c.deref.ensures.value ∙ (c.in_ok-orders.ensures.orders ∙ ap (λ (log : List Entry). orders_of x.plan.settings log x.reviews.used) c.log.ensures))
