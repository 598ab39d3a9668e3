use Rattle.std.proofs.Common.{rules, arith}
use Rattle.std.proofs.lemmas.List.Sorted.{IsPartitionPoint-from_clause}
use Rattle.and_pins.specs.Pinned.{place_before}
use Rattle.and_pins.proofs.Ordering.{parted}
use Rattle.and_pins.proofs.place.place_of.Goals as goal

pub returns : goal.returns
returns c =
    let point =
    IsPartitionPoint-from_clause (λ p. place_before p.host p.vm c.args.host c.args.vm) c.args.pins.now c.partition_point.result c.partition_point.ensures.partitioned (parted c.args.host c.args.vm c.args.pins.now c.requires) (λ a r q k. search rules) in
    record {
      within = c.partition_point.ensures.bound;
      before = λ j d h. point.0 j d (omega arith) h;
      not_before = λ d h. point.1 c.partition_point.result d (omega arith) h;
    }
