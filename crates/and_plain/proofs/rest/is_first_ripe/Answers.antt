use Rattle.and_plain.proofs.Ripe.{first_ripe}
use Rattle.and_plain.proofs.rest.is_first_ripe.Goals as goal

pub returns : goal.returns
returns c =
    first_ripe c.args.plan.now c.args.s.now c.args.host c.args.vm c.both.result c.none_before-before.result c.none_below-below.result
    c.both.ensures c.none_before-before.ensures c.none_below-below.ensures
