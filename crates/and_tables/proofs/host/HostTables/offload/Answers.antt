use Rattle.std.proofs.Common.{None, sym, subst}
use Rattle.and_policy.specs.Fitting.{IsLog}
use Rattle.and_policy.specs.Programmes.{entries}
use Rattle.and_tables.specs.HostViews.{HostView}
use Rattle.and_tables.specs.Numbers.{at, at_pair}
use Rattle.and_tables.proofs.Offloads.{offload_is}
use Rattle.and_tables.proofs.host.HostTables.offload.Goals as goal

pub returns : goal.returns
returns c = λ log.
    let known = offload_is c.self.inside.ops.items c.self.inside.ticks (at c.self.inside.index.entered) (at_pair c.self.inside.index.ordered) c.args.net c.args.ip c.self.invariant.keeps
    (subst (λ (v : HostView). IsLog None (entries v.ops)) (sym c.self.view_is) log) in
    rw (c.live_at.ensures, c.deref.ensures.value, c.last_of-place.ensures, ← c.self.view_is) known
