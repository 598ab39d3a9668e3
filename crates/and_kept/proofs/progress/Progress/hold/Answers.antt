use Rattle.std.proofs.Common.{refl}
use Rattle.and_kept.proofs.ReadyLemmas.{readied_hold}
use Rattle.and_kept.proofs.progress.Progress.hold.Goals as goal

pub invariant_of-self : goal.invariant_of-self
invariant_of-self c =
    let x = c.self.inside in
    readied_hold x.nodes.programmes x.held.items x.ready c.refresh.new.ready c.self.invariant _ c.args.node c.args.on refl c.refresh.ensures.size c.refresh.ensures.told
