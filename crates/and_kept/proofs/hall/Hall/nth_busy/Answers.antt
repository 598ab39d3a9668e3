use Rattle.std.proofs.Common.{◌≡◌, ◌<◌, ◌∙◌, sym, ap, subst, arith}
use Rattle.and_events.specs.Places.{hand_count}
use Rattle.and_kept.specs.Busy.{HallView, is_busy}
use Rattle.and_kept.specs.Numbers.{count_below}
use Rattle.and_kept.proofs.NumbersLemmas.{rank_told}
use Rattle.and_kept.proofs.hall.Hall.nth_busy.Goals as goal

pub nth-requires : goal.nth-requires
nth-requires c =
    let x = c.self.inside in
    let p = is_busy x.settings x.queues.numbers x.hands x.held.items in
    let all = rank_told x.busy p (hand_count x.settings) x.busy.size c.self.invariant.told (omega (arith, c.self.invariant.size)) in
    subst (λ n. c.args.k < n) (sym (all ∙ ap (count_below p) c.self.invariant.size))
    (subst (λ (v : HallView). c.args.k < count_below (is_busy v.settings v.queues v.hands v.held) (hand_count v.settings)) (sym c.self.view_is) c.requires)

pub returns-clause-rank : goal.returns-clause-rank
returns-clause-rank c =
    let x = c.self.inside in
    let p = is_busy x.settings x.queues.numbers x.hands x.held.items in
    let n = c.nth.result in
    let below = rank_told x.busy p (hand_count x.settings) n c.self.invariant.told (omega (arith, c.nth.ensures.within, c.self.invariant.size)) in
    subst (λ (v : HallView). count_below (is_busy v.settings v.queues v.hands v.held) n ≡ c.args.k) c.self.view_is (sym below ∙ c.nth.ensures.rank)
