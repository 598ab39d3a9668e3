use Rattle.std.proofs.Common.{◌≡◌, ℕ, true, false, refl, arith, below_more}
use Rattle.and_events.specs.Legal.{IsRipe}
use Rattle.and_plain.proofs.Deciding.{all_stops, all_end}
use Rattle.and_plain.proofs.rest.none_before.Goals as goal

pub returns-then-not-none_at : goal.returns-then-not-none_at
returns-then-not-none_at c =
    all_stops (λ host. (vm : ℕ) → IsRipe c.args.plan.now c.args.s.now host vm → ⊥) c.args.hosts c.loop-host.host (omega arith)
    (λ none. let is : false ≡ true = c.if-not-none_at.ensures.1 none in let never : ⊥ = cc in never)

pub loop-host-preserved : goal.loop-host-preserved
loop-host-preserved c =
    below_more (λ host. (vm : ℕ) → IsRipe c.args.plan.now c.args.s.now host vm → ⊥) c.loop-host.host c.loop-host.invariant
    (c.if-not-none_at.ensures.0 refl)

pub returns : goal.returns
returns c = all_end (λ host. (vm : ℕ) → IsRipe c.args.plan.now c.args.s.now host vm → ⊥) c.args.hosts c.loop-host.host (omega arith) c.loop-host.invariant
