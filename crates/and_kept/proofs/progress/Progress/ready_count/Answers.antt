use Rattle.std.proofs.Common.{◌≡◌, ◌∙◌, ap, subst, length, arith}
use Rattle.and_kept.specs.Nodes.{Progressed, is_ready}
use Rattle.and_kept.specs.Numbers.{count_below}
use Rattle.and_kept.proofs.NumbersLemmas.{rank_told}
use Rattle.and_kept.proofs.progress.Progress.ready_count.Goals as goal

pub returns-clause-is : goal.returns-clause-is
returns-clause-is c =
    let x = c.self.inside in
    let p = is_ready x.nodes.programmes x.held.items in
    let all = rank_told x.ready p (length x.nodes.programmes.ops) x.ready.size c.self.invariant.told (omega (arith, c.self.invariant.size)) in
    subst (λ (v : Progressed). c.count.result ≡ count_below (is_ready v.programmes v.held) (length v.programmes.ops)) c.self.view_is
    (c.count.ensures.is ∙ (all ∙ ap (count_below p) c.self.invariant.size))
