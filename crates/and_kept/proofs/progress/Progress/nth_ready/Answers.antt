use Rattle.std.proofs.Common.{◌≡◌, ◌<◌, ◌∙◌, sym, ap, subst, length, arith}
use Rattle.and_kept.specs.Nodes.{Progressed, is_ready}
use Rattle.and_kept.specs.Numbers.{count_below}
use Rattle.and_kept.proofs.NumbersLemmas.{rank_told}
use Rattle.and_kept.proofs.progress.Progress.nth_ready.Goals as goal

pub nth-requires : goal.nth-requires
nth-requires c =
    let x = c.self.inside in
    let p = is_ready x.nodes.programmes x.held.items in
    let all = rank_told x.ready p (length x.nodes.programmes.ops) x.ready.size c.self.invariant.told (omega (arith, c.self.invariant.size)) in
    subst (λ n. c.args.k < n) (sym (all ∙ ap (count_below p) c.self.invariant.size))
    (subst (λ (v : Progressed). c.args.k < count_below (is_ready v.programmes v.held) (length v.programmes.ops)) (sym c.self.view_is) c.requires)

pub returns-clause-rank : goal.returns-clause-rank
returns-clause-rank c =
    let x = c.self.inside in
    let p = is_ready x.nodes.programmes x.held.items in
    let n = c.nth.result in
    let below = rank_told x.ready p (length x.nodes.programmes.ops) n c.self.invariant.told (omega (arith, c.nth.ensures.within, c.self.invariant.size)) in
    subst (λ (v : Progressed). count_below (is_ready v.programmes v.held) n ≡ c.args.k) c.self.view_is (sym below ∙ c.nth.ensures.rank)
