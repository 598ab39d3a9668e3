use Rattle.std.proofs.Common.{◌∙◌, None, ap, sym, subst}
use Rattle.and_policy.specs.Egress.{verdict}
use Rattle.and_policy.specs.Fitting.{IsLog}
use Rattle.and_policy.specs.Logs as logs
use Rattle.and_policy.specs.Programmes.{entries}
use Rattle.and_tables.specs.HostViews.{HostView}
use Rattle.and_tables.proofs.Ruling.{rulebook-verdict}
use Rattle.and_tables.proofs.host.HostTables.rules.Goals as goal

pub returns-clause-verdict : goal.returns-clause-verdict
returns-clause-verdict c = λ log side x.
    let is = c.self.invariant.rules (subst (λ (v : HostView). IsLog None (entries v.ops)) (sym c.self.view_is) log) in
    ap (verdict side x) (c.of.ensures.rules (entries c.self.inside.ops.items) is)
    ∙ rulebook-verdict c.self.inside.rules (entries c.self.inside.ops.items) c.args.net side x is
    ∙ ap (λ (v : HostView). verdict side x (logs.rules (entries v.ops) c.args.net)) c.self.view_is
