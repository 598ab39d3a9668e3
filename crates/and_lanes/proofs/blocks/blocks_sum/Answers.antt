use Rattle.std.proofs.Common.{◌+◌, ◌*◌, arith}
use Rattle.and_lanes.proofs.Pairing.{each_added, each_most, firsts_small, seconds_are_bytes, bytes_in, one_more}
use Rattle.and_lanes.proofs.blocks.blocks_sum.Goals as goal

pub added-high-requires : goal.added-high-requires
added-high-requires c =
    rw c.firsts.ensures (each_added (255 * c.loop-block.block) c.loop-block.high _ (omega arith) c.loop-block.invariant.0 (firsts_small c.pairs_at-pairs.result))

pub added-low-requires : goal.added-low-requires
added-low-requires c =
    rw (c.seconds.ensures, c.pairs_at-pairs.ensures)
    (each_added (255 * c.loop-block.block) c.loop-block.low _ (omega arith) c.loop-block.invariant.1
    (seconds_are_bytes _ (bytes_in c.args.bytes.now (c.args.from + 16 * c.loop-block.block) _ c.type_inv.bytes)))

pub loop-block-preserved : goal.loop-block-preserved
loop-block-preserved c = (
  rw (c.added-high.ensures, c.firsts.ensures)
      (each_most (255 * c.loop-block.block) _ c.loop-block.high _ (omega arith) c.loop-block.invariant.0 (firsts_small c.pairs_at-pairs.result)),
  rw (c.added-low.ensures, c.seconds.ensures, c.pairs_at-pairs.ensures)
      (each_most (255 * c.loop-block.block) _ c.loop-block.low _ (omega arith) c.loop-block.invariant.1
      (seconds_are_bytes _ (bytes_in c.args.bytes.now (c.args.from + 16 * c.loop-block.block) _ c.type_inv.bytes))),
  rw (c.added-high.ensures, c.added-low.ensures, c.firsts.ensures, c.seconds.ensures, c.pairs_at-pairs.ensures)
      (one_more c.args.bytes.now c.args.from c.loop-block.block c.loop-block.high c.loop-block.low c.type_inv.bytes (omega arith) c.loop-block.invariant.3 c.loop-block.invariant.4 c.loop-block.invariant.2),
  c.type_inv.high.0,
  c.type_inv.low.0,
)
