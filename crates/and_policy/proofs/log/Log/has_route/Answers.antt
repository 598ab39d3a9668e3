use Rattle.std.proofs.Common.{◌∙◌, ap}
use Rattle.and_policy.specs.LogView.{LogView}
use Rattle.and_policy.specs.Logs as logs
use Rattle.and_policy.specs.Numbered.{route_numbers}
use Rattle.and_policy.proofs.Numbering.{has-route}
use Rattle.and_policy.proofs.log.Log.has_route.Goals as goal

pub returns : goal.returns
returns c =
    c.has.ensures (route_numbers c.self.inside.entries.items) c.self.invariant.1.routes ∙ has-route c.self.inside.entries.items c.args.net c.args.number
    ∙ ap (λ (v : LogView). logs.has_route v.entries c.args.net c.args.number) c.self.view_is
