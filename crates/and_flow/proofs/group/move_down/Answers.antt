use Rattle.std.proofs.Common.{sym, arith}
use Rattle.and_flow.proofs.Moved.{moved_none, moved_on}
use Rattle.and_flow.proofs.group.move_down.Goals as goal

pub loop-to-init : goal.loop-to-init
loop-to-init g c = sym (moved_none c.args.list.now c.args.at)

pub loop-to-preserved : goal.loop-to-preserved
loop-to-preserved g c =
    moved_on c.args.list.now c.loop-to.list c.args.at c.loop-to.to c.index-list-to.result c.loop-to.invariant c.index-list-to.is (omega arith) (omega arith)
