use Rattle.std.proofs.Common.{◌∙◌, ap}
use Rattle.and_policy.specs.LogView.{LogView}
use Rattle.and_policy.specs.Logs as logs
use Rattle.and_policy.specs.Numbered.{rule_numbers}
use Rattle.and_policy.proofs.Numbering.{has-rule}
use Rattle.and_policy.proofs.log.Log.has_rule.Goals as goal

pub returns : goal.returns
returns c =
    c.has.ensures (rule_numbers c.self.inside.entries.items) c.self.invariant.1.rules ∙ has-rule c.self.inside.entries.items c.args.net c.args.number
    ∙ ap (λ (v : LogView). logs.has_rule v.entries c.args.net c.args.number) c.self.view_is
