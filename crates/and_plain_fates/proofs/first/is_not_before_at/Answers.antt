use Rattle.and_events.specs.declared.event.Actor.{Actor}
use Rattle.and_plain_fates.specs.First.{IsNotBefore, actor_at}
use Rattle.and_plain_fates.proofs.FirstLemmas.{along}
use Rattle.and_plain_fates.proofs.first.is_not_before_at.Goals as goal

pub returns : goal.returns
returns c =
    along (λ (b : Actor). IsNotBefore c.args.plan.now c.args.s.now c.args.actor b) c.actor_at.result (actor_at c.args.post c.args.number)
    c.is_not_before.result c.actor_at.ensures c.is_not_before.ensures
