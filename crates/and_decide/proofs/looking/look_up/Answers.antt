use Rattle.and_decide.proofs.Leavings.{says_landing, says_leaving}
use Rattle.and_decide.proofs.looking.look_up.Goals as goal

pub returns-in-Egress-clause-said : goal.returns-in-Egress-clause-said
returns-in-Egress-clause-said g c = λ log. says_leaving c.args.tables.now.gateways c.args.tables.now.ops c.args.key.now c.leave.result c.in-Egress.is (c.leave.ensures.leaving log)

pub returns-in-Ingress-clause-said : goal.returns-in-Ingress-clause-said
returns-in-Ingress-clause-said g c = λ log. says_landing c.args.tables.now.gateways c.args.tables.now.ops c.args.key.now c.land.result c.in-Ingress.is (c.land.ensures.landing log)
