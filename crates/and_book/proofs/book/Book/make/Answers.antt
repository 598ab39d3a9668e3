use Rattle.std.proofs.Common.{◌∙◌, refl, sym, ap, arith, false, List, [], ◌++◌}
use Rattle.and_policy.specs.declared.entry.Entry.{Entry}
use Rattle.and_events.specs.declared.plan.Plan.{Plan}
use Rattle.and_events.specs.Places.{queue_count}
use Rattle.and_kept.specs.Lanes.{Roads}
use Rattle.and_book.specs.Inside.{Kept}
use Rattle.and_book.proofs.More.{keeps_start, unprepared}
use Rattle.and_book.proofs.Outgoing.{none_yet}
use Rattle.and_book.proofs.Pinning.{pins_start}
use Rattle.and_book.proofs.Plans.{log_short}
use Rattle.and_book.proofs.book.Book.make.Goals as goal

pub overflow_cast-len : goal.overflow_cast-len
overflow_cast-len c = let short = log_short c.args.plan c.requires.sound in omega (arith, short, c.len-2.ensures)

pub invariant_of-result : goal.invariant_of-result
invariant_of-result c =
    let plan : Plan = c.args.plan in
    let k : Kept = record { next = 0; progress = c.in_ok-progress.progress; ports = c.in_ok-ports.ports; pins = c.in_ok-pins.pins; roads = c.in_ok-traffic.traffic; reviews = c.in_ok-reviews.reviews } in
    record {
      keeps = keeps_start plan c.args.threads c.new.result.items k _ c.len-3.result c.count_nodes-nodes.result c.len.result c.requires.sound c.new.ensures.items refl c.count_nodes-nodes.ensures
          c.len-3.ensures c.len.ensures c.in_ok-progress.ensures.programmes c.in_ok-ports.ensures (ap (λ (r : Roads). r.flow) c.in_ok-traffic.ensures) c.in_ok-progress.ensures.held (ap (λ (r : Roads). r.held) c.in_ok-traffic.ensures)
          c.in_ok-reviews.ensures.used
          (record {
            settings = ap (λ (r : Roads). r.settings) c.in_ok-traffic.ensures;
            limit = c.in_ok-progress.ensures.limit ∙ c.len-2.ensures;
          })
          (none_yet plan k.roads (queue_count plan.settings) (ap (λ (r : Roads). r.parcels) c.in_ok-traffic.ensures) (ap (λ (r : Roads). r.flow.queues) c.in_ok-traffic.ensures))
          (record {
            room = omega (arith, c.in_ok-reviews.ensures.room, c.len-5.ensures);
            known = ([], ap (λ p. p.log) c.in_ok-progress.ensures.programmes ∙ sym (ap (λ (xs : List Entry). xs ++ []) c.in_ok-reviews.ensures.known));
          })
          (pins_start plan k c.len-3.result plan.settings.hosts c.in_ok-ports.ensures c.in_ok-pins.ensures.pins c.in_ok-pins.ensures.least c.in_ok-progress.ensures.least (omega (arith, c.in_ok-pins.ensures.room, c.len-4.ensures)));
      due = unprepared false refl;
    }
