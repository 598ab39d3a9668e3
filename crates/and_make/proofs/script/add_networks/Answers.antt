use Rattle.std.proofs.Common.{refl}
use Rattle.and_make.specs.Script.{network}
use Rattle.and_make.proofs.Growing.{grown_none, grown_more}
use Rattle.and_make.proofs.script.add_networks.Goals as goal

pub loop-k-init : goal.loop-k-init
loop-k-init c = grown_none network c.args.items.now

pub loop-k-preserved : goal.loop-k-preserved
loop-k-preserved c = grown_more network c.args.items.now c.loop-k.items _ c.loop-k.k _ c.loop-k.invariant refl c.in_ok-push.ensures.ok
