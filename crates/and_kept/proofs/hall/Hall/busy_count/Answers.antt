use Rattle.std.proofs.Common.{◌≡◌, ◌∙◌, ap, subst, arith}
use Rattle.and_events.specs.Places.{hand_count}
use Rattle.and_kept.specs.Busy.{HallView, is_busy}
use Rattle.and_kept.specs.Numbers.{count_below}
use Rattle.and_kept.proofs.NumbersLemmas.{rank_told}
use Rattle.and_kept.proofs.hall.Hall.busy_count.Goals as goal

pub returns-clause-is : goal.returns-clause-is
returns-clause-is c =
    let x = c.self.inside in
    let p = is_busy x.settings x.queues.numbers x.hands x.held.items in
    let all = rank_told x.busy p (hand_count x.settings) x.busy.size c.self.invariant.told (omega (arith, c.self.invariant.size)) in
    subst (λ (v : HallView). c.count.result ≡ count_below (is_busy v.settings v.queues v.hands v.held) (hand_count v.settings)) c.self.view_is
    (c.count.ensures.is ∙ (all ∙ ap (count_below p) c.self.invariant.size))
