use Rattle.std.proofs.Common.{◌∙◌, ℕ, ap, length, None, [], List, Option, false}
use Rattle.std.proofs.lemmas.List.{length-replicate}
use Rattle.and_events.specs.declared.event.Held.{Held}
use Rattle.and_kept.proofs.BusyLemmas.{told_anew}
use Rattle.and_kept.proofs.hall.Hall.make.Goals as goal

pub invariant_of-result : goal.invariant_of-result
invariant_of-result c =
    let empty : List ℕ = [] in
    let nothing : Option Held = None in
    record {
      small = c.requires;
      queues = ap length c.in_ok-queues.ensures.numbers ∙ length-replicate _ empty;
      capacities = c.in_ok-queues.ensures.capacities;
      hands = ap length c.in_ok-hands.ensures ∙ (length-replicate _ nothing ∙ c.count_hands-count.ensures);
      held = ap length c.in_ok-held.ensures ∙ (length-replicate _ false ∙ c.count_nodes-nodes.ensures);
      size = c.refresh.ensures.size ∙ (c.in_ok-busy.ensures.size ∙ c.count_hands-count.ensures);
      told = told_anew c.args.settings c.in_ok-queues.queues.numbers c.in_ok-hands.hands c.in_ok-held.held.items c.in_ok-busy.busy c.refresh.new.busy c.count_hands-count.result c.count_hands-count.ensures c.refresh.ensures.told;
    }
