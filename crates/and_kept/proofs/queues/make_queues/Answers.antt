use Rattle.std.proofs.Common.{◌≡◌, ◌∙◌, ap, not, cond, List, [], ◌∷◌, ◌++◌}
use Rattle.and_parcel.specs.Parcels.{QueueView}
use Rattle.and_kept.specs.Lanes.{no_queue}
use Rattle.and_kept.proofs.LanesLemmas.{new_more}
use Rattle.and_kept.proofs.queues.make_queues.Goals as goal

pub loop-place-preserved : goal.loop-place-preserved
loop-place-preserved c =
    let qs : List QueueView = c.loop-place.queues.items in
    let q : QueueView = c.in_ok-queue.queue in
    let items : c.push.new.self.items ≡ qs ++ q ∷ [] =
    c.push.ensures.items ∙ ap (λ b. cond b (qs ++ q ∷ []) qs) (c.is_err.ensures.negation ∙ ap not c.if-is_err.false) in
    record {
      made = new_more c.args.settings c.loop-place.place qs c.push.new.self.items q c.loop-place.invariant.made
          (c.in_ok-queue.ensures ∙ ap (λ n. record no_queue { capacity = n }) c.capacity_of-capacity.ensures) items;
      end = c.loop-place.invariant.end;
    }
