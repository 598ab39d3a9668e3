use Rattle.and_kept.proofs.LanesLemmas.{in_lanes, some_parcels, number_first, numbers_popped, parcels_popped, capacities_popped, counted_popped}
use Rattle.and_kept.proofs.queues.Queues.pop.Goals as goal

pub invariant_of-self : goal.invariant_of-self
invariant_of-self c =
    let there = in_lanes c.self.inside.items.items c.args.queue c.args.self.now c.self.view_is c.requires.queue in
    counted_popped c.self.inside.items.items c.pop_at-parcel.new.queues.items c.deref.result.now c.args.queue c.self.inside.occupied c.one_if.result c.is_empty_at-now_empty.result
    there c.self.invariant (some_parcels c.self.inside.items.items c.args.queue c.args.self.now c.self.view_is there c.requires.some)
    c.deref.ensures.value c.is_empty_at-now_empty.ensures c.pop_at-parcel.ensures.queue c.one_if.ensures

pub returns-clause-number : goal.returns-clause-number
returns-clause-number c =
    let there = in_lanes c.self.inside.items.items c.args.queue c.args.self.now c.self.view_is c.requires.queue in
    number_first c.self.inside.items.items c.args.queue c.pop_at-parcel.result c.args.self.now c.self.view_is there c.pop_at-parcel.ensures.parcel

pub returns-clause-numbers : goal.returns-clause-numbers
returns-clause-numbers c =
    let there = in_lanes c.self.inside.items.items c.args.queue c.args.self.now c.self.view_is c.requires.queue in
    numbers_popped c.self.inside.items.items c.pop_at-parcel.new.queues.items c.args.queue c.args.self.now c.self.view_is there c.pop_at-parcel.ensures.queue

pub returns-clause-parcels : goal.returns-clause-parcels
returns-clause-parcels c =
    let there = in_lanes c.self.inside.items.items c.args.queue c.args.self.now c.self.view_is c.requires.queue in
    parcels_popped c.self.inside.items.items c.pop_at-parcel.new.queues.items c.args.queue c.args.self.now c.self.view_is there c.pop_at-parcel.ensures.queue

pub returns-clause-capacities : goal.returns-clause-capacities
returns-clause-capacities c =
    let there = in_lanes c.self.inside.items.items c.args.queue c.args.self.now c.self.view_is c.requires.queue in
    capacities_popped c.self.inside.items.items c.pop_at-parcel.new.queues.items c.args.queue c.args.self.now c.self.view_is there c.pop_at-parcel.ensures.queue
