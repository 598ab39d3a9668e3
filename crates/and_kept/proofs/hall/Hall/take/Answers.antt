use Rattle.std.proofs.Common.{◌∙◌, ap, length, drop}
use Rattle.std.specs.Prelude.{slice_index}
use Rattle.std.proofs.Math.ListN.{length-set}
use Rattle.and_events.specs.Flow.{queue_at}
use Rattle.and_kept.proofs.BusyLemmas.{told_hand, told_queue}
use Rattle.and_kept.proofs.hall.Hall.take.Goals as goal

pub invariant_of-self : goal.invariant_of-self
invariant_of-self c =
    let x = c.self.inside in
    let inv = c.self.invariant in
    record {
      small = inv.small;
      queues = ap length c.pop-parcel.ensures.numbers ∙ (length-set x.queues.numbers c.args.from _ ∙ inv.queues);
      capacities = λ q there. ap (λ cs. slice_index cs q) c.pop-parcel.ensures.capacities ∙ inv.capacities q there;
      hands = ap length c.fill.ensures ∙ (length-set x.hands c.args.hand _ ∙ inv.hands);
      held = inv.held;
      size = c.refresh-2.ensures.size ∙ (c.refresh.ensures.size ∙ inv.size);
      told = told_hand x.settings c.pop-parcel.new.self.numbers x.hands x.held.items c.refresh.new.busy c.refresh-2.new.busy
          (told_queue x.settings x.queues.numbers x.hands x.held.items x.busy c.refresh.new.busy inv.told c.args.from c.takers-range.result.0 c.takers-range.result.1
          (drop 1 (queue_at x.queues.numbers c.args.from)) c.pop-parcel.new.self.numbers c.pop-parcel.ensures.numbers c.takers-range.ensures.first c.takers-range.ensures.other c.refresh.ensures.told)
          c.args.hand _ c.fill.new.self c.fill.ensures c.refresh-2.ensures.told;
    }
