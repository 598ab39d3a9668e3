use Rattle.std.proofs.Common.{◌≤◌, ◌+◌, ◌∙◌, ap, length, subst}
use Rattle.and_policy.specs.Logs as logs
use Rattle.and_policy.specs.Programmes.{entries}
use Rattle.and_decide.proofs.Rules.{as_many}
use Rattle.and_decide.proofs.looking.verdict.Goals as goal

pub returns-clause-cost : goal.returns-clause-cost
returns-clause-cost g c = λ log.
    let many = ap length (c.rules.ensures.rules log) ∙ as_many (logs.rules (entries c.args.tables.now.ops) c.args.net) in
    subst (λ n. c.first_match.new.steps ≤ c.args.steps.now + n) many c.first_match.ensures.cost
