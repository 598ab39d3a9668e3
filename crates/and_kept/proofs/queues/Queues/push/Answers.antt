use Rattle.std.proofs.Common.{◌≡◌, ap, ◌∙◌, set, cond}
use Rattle.and_kept.specs.Lanes.{queue_of, grown}
use Rattle.and_kept.proofs.LanesLemmas.{in_lanes, numbers_pushed, parcels_pushed, capacities_pushed}
use Rattle.and_kept.proofs.queues.Queues.push.Goals as goal

pub returns-clause-numbers : goal.returns-clause-numbers
returns-clause-numbers c =
    let qs = c.self.inside.items.items in
    let q = queue_of qs c.args.queue in
    let is : c.push_at-full.new.queues.items ≡ set qs c.args.queue (grown q c.args.parcel) =
    c.push_at-full.ensures.queues ∙ ap (λ b. cond b qs (set qs c.args.queue (grown q c.args.parcel))) c.if-full.false in
    numbers_pushed qs c.push_at-full.new.queues.items c.args.queue c.args.parcel c.args.self.now c.self.view_is (in_lanes qs c.args.queue c.args.self.now c.self.view_is c.requires) is

pub returns-clause-parcels : goal.returns-clause-parcels
returns-clause-parcels c =
    let qs = c.self.inside.items.items in
    let q = queue_of qs c.args.queue in
    let is : c.push_at-full.new.queues.items ≡ set qs c.args.queue (grown q c.args.parcel) =
    c.push_at-full.ensures.queues ∙ ap (λ b. cond b qs (set qs c.args.queue (grown q c.args.parcel))) c.if-full.false in
    parcels_pushed qs c.push_at-full.new.queues.items c.args.queue c.args.parcel c.args.self.now c.self.view_is (in_lanes qs c.args.queue c.args.self.now c.self.view_is c.requires) is

pub returns-clause-capacities : goal.returns-clause-capacities
returns-clause-capacities c =
    let qs = c.self.inside.items.items in
    let q = queue_of qs c.args.queue in
    let is : c.push_at-full.new.queues.items ≡ set qs c.args.queue (grown q c.args.parcel) =
    c.push_at-full.ensures.queues ∙ ap (λ b. cond b qs (set qs c.args.queue (grown q c.args.parcel))) c.if-full.false in
    capacities_pushed qs c.push_at-full.new.queues.items c.args.queue c.args.parcel c.args.self.now c.self.view_is (in_lanes qs c.args.queue c.args.self.now c.self.view_is c.requires) is
