use Rattle.std.specs.Prelude.{◌↔◌, IsTrue}
use Rattle.std.proofs.Common.{Bool}
use Rattle.and_policy.specs.declared.decision.Way.{Way}
use Rattle.and_events.specs.declared.event.Event.TheVariants.{Egress, Ingress}
use Rattle.and_events.specs.Just.{JustBy}
use Rattle.and_plain.specs.History.{history}
use Rattle.and_plain_fates.proofs.JustLemmas.{for_way}
use Rattle.and_plain_fates.proofs.just.is_just_by.Goals as goal

pub returns-in-Inject : goal.returns-in-Inject
returns-in-Inject c = record { ok = rw c.in-Inject.is (c.is_injection_just.ensures c.in-Inject._step c.in-Inject._full) }

pub returns-in-Egress : goal.returns-in-Egress
returns-in-Egress c = record {
  ok = rw c.in-Egress.is (for_way
      (λ (yes : Bool) (way : Way). IsTrue yes ↔ JustBy c.args.plan.now (history c.args.earlier.now) (Egress c.in-Egress.actor c.in-Egress.packet c.in-Egress.at way c.in-Egress.departure))
      c.is_departure_just.result c.in-Egress._way c.is_departure_just.ensures.ok);
}

pub returns-in-Redirect : goal.returns-in-Redirect
returns-in-Redirect c = record { ok = rw c.in-Redirect.is c.is_return_just.ensures.ok }

pub returns-in-Ingress : goal.returns-in-Ingress
returns-in-Ingress c = record {
  ok = rw c.in-Ingress.is (for_way
      (λ (yes : Bool) (way : Way). IsTrue yes ↔ JustBy c.args.plan.now (history c.args.earlier.now) (Ingress c.in-Ingress.actor c.in-Ingress.packet c.in-Ingress.at way c.in-Ingress.arrival))
      c.is_arrival_just.result c.in-Ingress._way c.is_arrival_just.ensures.ok);
}
