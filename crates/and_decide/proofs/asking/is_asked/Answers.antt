use Rattle.std.proofs.Common.{◌∙◌, ap, sym}
use Rattle.std.specs.Prelude.{is_some}
use Rattle.and_decide.proofs.Leavings.{kept_landing, kept_leaving}
use Rattle.and_decide.proofs.asking.is_asked.Goals as goal

pub returns-in-Egress : goal.returns-in-Egress
returns-in-Egress c = λ log. c.is_some.ensures ∙ ap is_some (c.net_of.ensures log) ∙ sym (kept_leaving c.args.tables.now.gateways c.args.tables.now.ops c.args.key.now c.in-Egress.is)

pub returns-in-Ingress : goal.returns-in-Ingress
returns-in-Ingress c = λ log. sym (kept_landing c.args.tables.now.gateways c.args.tables.now.ops c.args.key.now c.in-Ingress.is)
