use Rattle.std.proofs.Common.{◌/◌, ◌^◌}
use Rattle.std.proofs.lemmas.Simd.{zip2_splat}
use Rattle.and_lanes.proofs.blocks.seconds.Goals as goal

pub returns : goal.returns
returns c = zip2_splat (λ x y. x / 2 ^ y) c.args.pairs 8 8 c.fits-pairs.0
