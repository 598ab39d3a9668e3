use Rattle.std.proofs.Common.{◌≡◌, ℕ, true, false, refl, arith, below_more}
use Rattle.and_events.specs.Legal.{IsRipe}
use Rattle.and_plain.proofs.Some.{some_found, some_none}
use Rattle.and_plain.proofs.enabled.some_before.Goals as goal

pub returns-then-some_at : goal.returns-then-some_at
returns-then-some_at c =
    some_found (λ host. (vm : ℕ) × IsRipe c.args.plan.now c.args.s.now host vm) c.args.hosts c.loop-host.host (omega arith) (c.if-some_at.ensures.0 refl)

pub loop-host-preserved : goal.loop-host-preserved
loop-host-preserved c =
    below_more (λ host. ((vm : ℕ) × IsRipe c.args.plan.now c.args.s.now host vm) → ⊥) c.loop-host.host c.loop-host.invariant
    (λ ripe. let is : false ≡ true = c.if-some_at.ensures.1 ripe in let never : ⊥ = cc in never)

pub returns : goal.returns
returns c = some_none (λ host. (vm : ℕ) × IsRipe c.args.plan.now c.args.s.now host vm) c.args.hosts c.loop-host.host (omega arith) c.loop-host.invariant
