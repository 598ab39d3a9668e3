use Rattle.std.proofs.Common.{◌+◌, ◌<◌, ◌^◌, ◌∙◌, map, w32, arith}
use Rattle.std.proofs.lemmas.Simd.{sum_fits, fold-sum}
use Rattle.std.specs.Simd.Lanes.{sum_l}
use Rattle.and_lanes.proofs.Pairing.{sum-widened, total_fits}
use Rattle.and_lanes.proofs.blocks.total.Goals as goal

pub overflow_add-result : goal.overflow_add-result
overflow_add-result c =
    let few : 0 + sum_l (map (λ x. x) c.args.lanes) < 2 ^ 32 = omega (arith, total_fits c.args.lanes c.fits-lanes.0 c.fits-lanes.1, sum-widened c.args.lanes) in
    sum_fits w32 0 (map (λ x. x) c.args.lanes) few

pub returns-clause-sum : goal.returns-clause-sum
returns-clause-sum c = fold-sum 0 (map (λ x. x) c.args.lanes) ∙ omega (arith, sum-widened c.args.lanes)

pub returns-clause-bound : goal.returns-clause-bound
returns-clause-bound c = omega (arith, fold-sum 0 (map (λ x. x) c.args.lanes), sum-widened c.args.lanes, total_fits c.args.lanes c.fits-lanes.0 c.fits-lanes.1)
