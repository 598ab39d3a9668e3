use Rattle.std.proofs.Common.{length, subst, ◌<◌}
use Rattle.and_kept.specs.Nodes.{Progressed}
use Rattle.and_pins.specs.Pinned.{IsLeast}
use Rattle.and_kept.proofs.progress.Progress.least.Goals as goal

pub returns-clause-least : goal.returns-clause-least
returns-clause-least c =
    subst (λ (v : Progressed). 0 < length v.programmes.ops → IsLeast v.programmes c.least.result) c.self.view_is c.least.ensures.least
