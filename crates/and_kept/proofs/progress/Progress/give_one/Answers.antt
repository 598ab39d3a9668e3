use Rattle.std.proofs.Common.{◌<◌, ◌∙◌, sym, ap, subst, length, arith}
use Rattle.and_events.specs.Programming.{Programmes}
use Rattle.and_kept.specs.Nodes.{Progressed}
use Rattle.and_kept.proofs.OrdersLemmas.{given_size}
use Rattle.and_kept.proofs.ReadyLemmas.{readied_given}
use Rattle.and_kept.proofs.progress.Progress.give_one.Goals as goal

pub invariant_of-self : goal.invariant_of-self
invariant_of-self c =
    let x = c.self.inside in
    readied_given x.nodes.programmes x.held.items x.ready c.refresh.new.ready c.self.invariant c.give.new.self.programmes c.args.given
    c.give.ensures.programmes c.refresh.ensures.size c.refresh.ensures.told

pub refresh-requires-clause-held : goal.refresh-requires-clause-held
refresh-requires-clause-held c =
    let same = ap (λ (p : Programmes). length p.ops) c.give.ensures.programmes ∙ given_size c.self.inside.nodes.programmes c.args.given in
    omega (arith, c.self.invariant.held, same)

pub refresh-requires-clause-size : goal.refresh-requires-clause-size
refresh-requires-clause-size c =
    let same = ap (λ (p : Programmes). length p.ops) c.give.ensures.programmes ∙ given_size c.self.inside.nodes.programmes c.args.given in
    omega (arith, c.self.invariant.size, same)

pub refresh-requires-clause-high : goal.refresh-requires-clause-high
refresh-requires-clause-high c =
    let same = ap (λ (p : Programmes). length p.ops) c.give.ensures.programmes ∙ given_size c.self.inside.nodes.programmes c.args.given in
    let there = subst (λ (p : Progressed). c.args.given.host < length p.programmes.ops) (sym c.self.view_is) c.requires.host in
    omega (arith, there, same)
