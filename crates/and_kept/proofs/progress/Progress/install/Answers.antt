use Rattle.std.proofs.Common.{◌<◌, sym, subst, length, arith}
use Rattle.and_kept.specs.Nodes.{Progressed}
use Rattle.and_kept.proofs.ReadyLemmas.{readied_install, installed_size}
use Rattle.and_kept.proofs.progress.Progress.install.Goals as goal

pub invariant_of-self : goal.invariant_of-self
invariant_of-self c =
    let x = c.self.inside in
    readied_install x.nodes.programmes x.held.items x.ready c.refresh.new.ready c.self.invariant c.install-upto.new.self.programmes c.args.node c.install-upto.result
    c.install-upto.ensures.programmes c.refresh.ensures.size c.refresh.ensures.told

pub refresh-requires-clause-held : goal.refresh-requires-clause-held
refresh-requires-clause-held c =
    let x = c.self.inside in
    let same = installed_size x.nodes.programmes c.install-upto.new.self.programmes c.args.node c.install-upto.result c.install-upto.ensures.programmes in
    omega (arith, c.self.invariant.held, same)

pub refresh-requires-clause-size : goal.refresh-requires-clause-size
refresh-requires-clause-size c =
    let x = c.self.inside in
    let same = installed_size x.nodes.programmes c.install-upto.new.self.programmes c.args.node c.install-upto.result c.install-upto.ensures.programmes in
    omega (arith, c.self.invariant.size, same)

pub refresh-requires-clause-high : goal.refresh-requires-clause-high
refresh-requires-clause-high c =
    let x = c.self.inside in
    let same = installed_size x.nodes.programmes c.install-upto.new.self.programmes c.args.node c.install-upto.result c.install-upto.ensures.programmes in
    let there = subst (λ (p : Progressed). c.args.node < length p.programmes.ops) (sym c.self.view_is) c.requires in
    omega (arith, there, same)
