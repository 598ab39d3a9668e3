use Rattle.and_plain.proofs.Ripe.{none_ripe}
use Rattle.and_plain.proofs.rest.none_at.Goals as goal

pub returns : goal.returns
returns c = none_ripe c.args.plan.now c.args.s.now c.args.host c.vm_count.result c.none_below.result c.vm_count.ensures c.none_below.ensures
