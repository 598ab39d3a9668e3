use Rattle.std.proofs.Common.{◌∙◌, ap, None, length}
use Rattle.std.proofs.Math.ListN.{length-set}
use Rattle.and_kept.proofs.BusyLemmas.{told_hand}
use Rattle.and_kept.proofs.hall.Hall.clear.Goals as goal

pub invariant_of-self : goal.invariant_of-self
invariant_of-self c =
    let x = c.self.inside in
    let inv = c.self.invariant in
    record {
      small = inv.small;
      queues = inv.queues;
      capacities = inv.capacities;
      hands = ap length c.clear.ensures ∙ (length-set x.hands c.args.hand None ∙ inv.hands);
      held = inv.held;
      size = c.refresh.ensures.size ∙ inv.size;
      told = told_hand x.settings x.queues.numbers x.hands x.held.items x.busy c.refresh.new.busy inv.told c.args.hand None c.clear.new.self c.clear.ensures c.refresh.ensures.told;
    }
