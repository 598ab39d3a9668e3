use Rattle.and_plain.proofs.Over.{over}
use Rattle.and_plain.proofs.rest.is_over.Goals as goal

pub returns : goal.returns
returns c =
    over c.args.plan.now c.args.s.now c.both-2.result c.is_drained-drained.result c.both.result c.nodes_pass-installed.result c.is_unpinned-clear.result
    c.both-2.ensures c.both.ensures c.is_drained-drained.ensures c.nodes_pass-installed.ensures c.is_unpinned-clear.ensures
