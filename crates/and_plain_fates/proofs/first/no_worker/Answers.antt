use Rattle.std.proofs.Common.{◌≡◌, ℕ, ◌<◌, true, false, refl, arith, below_more}
use Rattle.and_events.specs.declared.event.Actor.TheVariants as actors
use Rattle.and_plain.proofs.Deciding.{all_stops, all_end}
use Rattle.and_plain_fates.specs.First.{IsNotBefore}
use Rattle.and_plain_fates.proofs.first.no_worker.Goals as goal

pub returns-then-not-none_at : goal.returns-then-not-none_at
returns-then-not-none_at c =
    all_stops (λ i. (h : ℕ) → h < c.args.plan.now.settings.hosts → IsNotBefore c.args.plan.now c.args.s.now c.args.actor (actors.Worker h i))
    c.args.plan.now.settings.workers c.loop-index.index (omega arith)
    (λ holds. let is : false ≡ true = c.if-not-none_at.ensures.1 holds in let never : ⊥ = cc in never)

pub loop-index-preserved : goal.loop-index-preserved
loop-index-preserved c =
    below_more (λ i. (h : ℕ) → h < c.args.plan.now.settings.hosts → IsNotBefore c.args.plan.now c.args.s.now c.args.actor (actors.Worker h i))
    c.loop-index.index c.loop-index.invariant (c.if-not-none_at.ensures.0 refl)

pub returns : goal.returns
returns c =
    all_end (λ i. (h : ℕ) → h < c.args.plan.now.settings.hosts → IsNotBefore c.args.plan.now c.args.s.now c.args.actor (actors.Worker h i))
    c.args.plan.now.settings.workers c.loop-index.index (omega arith) c.loop-index.invariant
