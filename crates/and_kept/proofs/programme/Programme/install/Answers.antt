use Rattle.std.proofs.Common.{◌≤◌, subst}
use Rattle.and_kept.specs.Nodes.{Programmed, height}
use Rattle.and_kept.proofs.FloorLemmas.{prefix_longer}
use Rattle.and_kept.proofs.programme.Programme.install.Goals as goal

pub returns-clause-higher : goal.returns-clause-higher
returns-clause-higher c =
    let i = c.self.inside in
    let new : Programmed = record { ops = i.ops.items; announced = i.announced; installed = i.announced; limit = i.limit } in
    subst (λ (n : Programmed). height n ≤ height new) c.self.view_is (prefix_longer i.ops.items i.installed i.announced c.self.invariant.0.installed)
