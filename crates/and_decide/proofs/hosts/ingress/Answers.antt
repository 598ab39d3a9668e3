use Rattle.std.proofs.Common.{◌∙◌, ap}
use Rattle.std.specs.Prelude.{Ok}
use Rattle.and_policy.specs.declared.decision.Decision.{Decision}
use Rattle.and_decide.proofs.Leavings.{arrives}
use Rattle.and_decide.proofs.hosts.ingress.Goals as goal

pub returns-clause-decision : goal.returns-clause-decision
returns-clause-decision g c = λ enough log.
    let at = c.decide.ensures.at ∙ c.in_ok-at.ensures.number ∙ c.at.ensures in
    ap (λ (d : Decision). Ok d)
    (arrives c.args.tables.now c.args.cache.now c.args.vni c.args.parcel.now c.decide.result c.tuple_of.result c.tuple_of.ensures at (c.decide.ensures.way log) (c.decide.ensures.outcome log))
