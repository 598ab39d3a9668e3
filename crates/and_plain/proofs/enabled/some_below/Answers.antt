use Rattle.std.proofs.Common.{◌≡◌, true, false, refl, arith, below_more}
use Rattle.and_events.specs.Legal.{IsRipe}
use Rattle.and_plain.proofs.Some.{some_found, some_none}
use Rattle.and_plain.proofs.enabled.some_below.Goals as goal

pub returns-then-is_ripe : goal.returns-then-is_ripe
returns-then-is_ripe c =
    some_found (IsRipe c.args.plan.now c.args.s.now c.args.host) c.args.count c.loop-vm.vm (omega arith) (c.if-is_ripe.ensures.0 refl)

pub loop-vm-preserved : goal.loop-vm-preserved
loop-vm-preserved c =
    below_more (λ vm. IsRipe c.args.plan.now c.args.s.now c.args.host vm → ⊥) c.loop-vm.vm c.loop-vm.invariant
    (λ ripe. let is : false ≡ true = c.if-is_ripe.ensures.1 ripe in let never : ⊥ = cc in never)

pub returns : goal.returns
returns c = some_none (IsRipe c.args.plan.now c.args.s.now c.args.host) c.args.count c.loop-vm.vm (omega arith) c.loop-vm.invariant
