use Rattle.and_plain.proofs.Some.{ripe_at}
use Rattle.and_plain.proofs.enabled.some_at.Goals as goal

pub returns : goal.returns
returns c = ripe_at c.args.plan.now c.args.s.now c.args.host c.vm_count.result c.some_below.result c.vm_count.ensures c.some_below.ensures
