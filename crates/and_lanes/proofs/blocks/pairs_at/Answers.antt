use Rattle.std.proofs.Common.{◌∙◌, take, drop, arith}
use Rattle.std.proofs.lemmas.Simd.{chunk-fits, below_from_Fits, length-chunk}
use Rattle.std.proofs.Common.{w8}
use Rattle.and_lanes.proofs.Pairing.{digits_are_pairs}
use Rattle.and_lanes.proofs.blocks.pairs_at.Goals as goal

pub returns : goal.returns
returns c =
    let bytes = take 16 (drop c.args.at c.args.bytes.now) in
    digits_are_pairs 8 bytes (length-chunk c.args.at 16 c.args.bytes.now c.requires) (below_from_Fits w8 bytes (chunk-fits w8 c.args.at 16 c.args.bytes.now c.type_inv.bytes)) ∙ grind arith
