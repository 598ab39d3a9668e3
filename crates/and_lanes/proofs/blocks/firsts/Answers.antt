use Rattle.std.proofs.Common.{◌%◌, ◌∙◌}
use Rattle.std.specs.Int.Bits.{bit_and}
use Rattle.std.proofs.lemmas.Nat.{and_mask}
use Rattle.std.proofs.lemmas.Simd.{zip2_splat}
use Rattle.and_lanes.proofs.Pairing.{map_same}
use Rattle.and_lanes.proofs.blocks.firsts.Goals as goal

pub returns : goal.returns
returns c =
    zip2_splat bit_and c.args.pairs 8 255 c.fits-pairs.0
    ∙ map_same (λ x. bit_and x 255) (λ x. x % 256) (λ x. and_mask x 8) c.args.pairs
