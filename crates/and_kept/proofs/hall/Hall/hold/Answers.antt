use Rattle.std.proofs.Common.{◌∙◌}
use Rattle.std.proofs.Math.ListN.{length-set}
use Rattle.and_kept.proofs.BusyLemmas.{told_mark}
use Rattle.and_kept.proofs.hall.Hall.hold.Goals as goal

pub invariant_of-self : goal.invariant_of-self
invariant_of-self c =
    let x = c.self.inside in
    let inv = c.self.invariant in
    record {
      small = inv.small;
      queues = inv.queues;
      capacities = inv.capacities;
      hands = inv.hands;
      held = length-set x.held.items c.args.node c.args.on ∙ inv.held;
      size = c.refresh-2.ensures.size ∙ (c.refresh.ensures.size ∙ inv.size);
      told = told_mark x.settings x.queues.numbers x.hands x.held.items x.busy c.refresh.new.busy c.refresh-2.new.busy inv.told c.args.node c.args.on
          c.hands_at.result.0.0 c.hands_at.result.0.1 c.hands_at.result.1.0 c.hands_at.result.1.1 c.hands_at.ensures.all c.refresh.ensures.told c.refresh-2.ensures.told;
    }
