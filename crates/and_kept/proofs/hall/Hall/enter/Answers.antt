use Rattle.std.proofs.Common.{◌≡◌, ◌∙◌, ap, length, [], ◌∷◌, ◌++◌}
use Rattle.std.specs.Prelude.{slice_index}
use Rattle.std.proofs.Math.ListN.{length-set}
use Rattle.and_events.specs.Flow.{pushed, queue_at}
use Rattle.and_kept.proofs.BusyLemmas.{told_queue}
use Rattle.and_kept.proofs.hall.Hall.enter.Goals as goal

pub invariant_of-self-2 : goal.invariant_of-self-2
invariant_of-self-2 c =
    let x = c.self.inside in
    let inv = c.self.invariant in
    let is : c.push.new.self.numbers ≡ pushed x.queues.numbers c.args.queue c.args.parcel.packet = c.if-push.ensures.numbers in
    record {
      small = inv.small;
      queues = ap length is ∙ (length-set x.queues.numbers c.args.queue _ ∙ inv.queues);
      capacities = λ q there. ap (λ cs. slice_index cs q) c.push.ensures.capacities ∙ inv.capacities q there;
      hands = inv.hands;
      held = inv.held;
      size = c.refresh.ensures.size ∙ inv.size;
      told = told_queue x.settings x.queues.numbers x.hands x.held.items x.busy c.refresh.new.busy inv.told c.args.queue c.takers-range.result.0 c.takers-range.result.1
          (queue_at x.queues.numbers c.args.queue ++ c.args.parcel.packet ∷ []) c.push.new.self.numbers is c.takers-range.ensures.first c.takers-range.ensures.other c.refresh.ensures.told;
    }
