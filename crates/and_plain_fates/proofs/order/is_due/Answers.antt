use Rattle.and_events.specs.declared.event.Actor.{Actor}
use Rattle.and_events.specs.Legal.{Enabled}
use Rattle.and_events.specs.Ordered.{IsFirst}
use Rattle.and_events.specs.Places.{actor_of}
use Rattle.and_plain_fates.proofs.FirstLemmas.{along}
use Rattle.and_plain_fates.proofs.OrderLemmas.{three_are}
use Rattle.and_plain_fates.proofs.order.is_due.Goals as goal

pub returns : goal.returns
returns c =
    three_are c.all_three.result c.is_enabled-enabled.result c.is_first-first.result c.is_at_installed-installed.result c.all_three.ensures
    (along (λ (a : Actor). Enabled c.args.plan.now c.args.s.now a) c.actor_of-actor.result (actor_of c.args.event.now) c.is_enabled-enabled.result
    c.actor_of-actor.ensures c.is_enabled-enabled.ensures)
    (along (λ (a : Actor). IsFirst c.args.plan.now c.args.s.now a) c.actor_of-actor.result (actor_of c.args.event.now) c.is_first-first.result
    c.actor_of-actor.ensures c.is_first-first.ensures)
    c.is_at_installed-installed.ensures
