use Rattle.std.proofs.Common.{rules, arith}
use Rattle.std.proofs.lemmas.List.Sorted.{IsPartitionPoint-from_clause}
use Rattle.and_events.specs.Usage.{key_before}
use Rattle.and_usage.proofs.Uses.{parted}
use Rattle.and_usage.proofs.place.place_of.Goals as goal

pub returns : goal.returns
returns c =
    let point =
    IsPartitionPoint-from_clause (λ u. key_before u.key c.args.key.now) c.args.used.now c.partition_point.result c.partition_point.ensures.partitioned (parted c.args.key.now c.args.used.now c.requires) (λ a r q k. search rules) in
    record {
      within = c.partition_point.ensures.bound;
      before = λ j d h. point.0 j d (omega arith) h;
      not_before = λ d h. point.1 c.partition_point.result d (omega arith) h;
    }
