use Rattle.and_plain.proofs.Some.{ripe_anywhere}
use Rattle.and_plain.proofs.enabled.can_unpin_some.Goals as goal

pub returns : goal.returns
returns c = ripe_anywhere c.args.plan.now c.args.s.now c.some_before.result c.some_before.ensures
