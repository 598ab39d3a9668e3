use Rattle.and_events.specs.Places.{queue_count}
use Rattle.and_kept.proofs.LanesLemmas.{new_numbers, new_parcels, new_counted}
use Rattle.and_kept.proofs.queues.Queues.make.Goals as goal

pub invariant_of-result : goal.invariant_of-result
invariant_of-result c = new_counted c.args.settings (queue_count c.args.settings) c.in_ok-items.items.items c.in_ok-items.ensures

pub returns-clause-numbers : goal.returns-clause-numbers
returns-clause-numbers c = new_numbers c.args.settings (queue_count c.args.settings) c.in_ok-items.items.items c.in_ok-items.ensures

pub returns-clause-parcels : goal.returns-clause-parcels
returns-clause-parcels c = new_parcels c.args.settings (queue_count c.args.settings) c.in_ok-items.items.items c.in_ok-items.ensures
