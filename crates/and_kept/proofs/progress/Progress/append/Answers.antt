use Rattle.std.proofs.Common.{arith}
use Rattle.and_kept.proofs.ReadyLemmas.{readied_anew, logged_size}
use Rattle.and_kept.proofs.progress.Progress.append.Goals as goal

pub invariant_of-self : goal.invariant_of-self
invariant_of-self c =
    let x = c.self.inside in
    let inv = c.self.invariant in
    let same = logged_size x.nodes.programmes c.append.new.self.programmes c.args.entry c.append.ensures.programmes in
    readied_anew c.append.new.self.programmes x.held.items x.ready c.refresh.new.ready c.len-count.result
    (omega (arith, inv.few, same)) (omega (arith, c.len-count.ensures, inv.held, same)) (omega (arith, inv.held, same)) (omega (arith, c.refresh.ensures.size, inv.size, same)) c.refresh.ensures.told

pub refresh-requires-clause-held : goal.refresh-requires-clause-held
refresh-requires-clause-held c =
    let x = c.self.inside in
    let same = logged_size x.nodes.programmes c.append.new.self.programmes c.args.entry c.append.ensures.programmes in
    omega (arith, c.self.invariant.held, same)

pub refresh-requires-clause-size : goal.refresh-requires-clause-size
refresh-requires-clause-size c =
    let x = c.self.inside in
    let same = logged_size x.nodes.programmes c.append.new.self.programmes c.args.entry c.append.ensures.programmes in
    omega (arith, c.self.invariant.size, same)

pub refresh-requires-clause-high : goal.refresh-requires-clause-high
refresh-requires-clause-high c =
    let x = c.self.inside in
    let same = logged_size x.nodes.programmes c.append.new.self.programmes c.args.entry c.append.ensures.programmes in
    omega (arith, c.self.invariant.held, same, c.len-count.ensures)
