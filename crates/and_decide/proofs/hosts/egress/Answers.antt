use Rattle.std.proofs.Common.{◌∙◌, ap}
use Rattle.std.specs.Prelude.{Ok}
use Rattle.and_policy.specs.declared.decision.Decision.{Decision}
use Rattle.and_decide.proofs.Leavings.{departs}
use Rattle.and_decide.proofs.hosts.egress.Goals as goal

pub returns-clause-decision : goal.returns-clause-decision
returns-clause-decision g c = λ enough log.
    let at = c.decide.ensures.at ∙ c.in_ok-at.ensures.number ∙ c.at.ensures in
    ap (λ (d : Decision). Ok d)
    (departs c.args.tables.now c.args.cache.now c.args.parcel.now c.decide.result c.vm.result c.tuple_of.result c.vm.ensures c.tuple_of.ensures at (c.decide.ensures.way log) (c.decide.ensures.outcome log))
