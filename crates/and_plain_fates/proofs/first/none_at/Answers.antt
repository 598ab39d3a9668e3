use Rattle.std.proofs.Common.{◌≡◌, true, false, refl, arith, below_more}
use Rattle.and_plain.proofs.Deciding.{all_stops, all_end}
use Rattle.and_plain_fates.specs.First.{IsNotBefore, actor_at}
use Rattle.and_plain_fates.proofs.first.none_at.Goals as goal

pub returns-then-not-is_not_before_at : goal.returns-then-not-is_not_before_at
returns-then-not-is_not_before_at c =
    all_stops (λ n. IsNotBefore c.args.plan.now c.args.s.now c.args.actor (actor_at c.args.post n)) c.args.count c.loop-number.number (omega arith)
    (λ holds. let is : false ≡ true = c.if-not-is_not_before_at.ensures.1 holds in let never : ⊥ = cc in never)

pub loop-number-preserved : goal.loop-number-preserved
loop-number-preserved c =
    below_more (λ n. IsNotBefore c.args.plan.now c.args.s.now c.args.actor (actor_at c.args.post n)) c.loop-number.number c.loop-number.invariant
    (c.if-not-is_not_before_at.ensures.0 refl)

pub returns : goal.returns
returns c =
    all_end (λ n. IsNotBefore c.args.plan.now c.args.s.now c.args.actor (actor_at c.args.post n)) c.args.count c.loop-number.number (omega arith)
    c.loop-number.invariant
