use Rattle.std.proofs.Common.{Some, subst}
use Rattle.and_policy.specs.Fitting.{IsLog}
use Rattle.and_policy.specs.LogView.{LogView}
use Rattle.and_policy.proofs.log.Log.entries.Goals as goal

pub returns-clause-log : goal.returns-clause-log
returns-clause-log c =
    let P : LogView → Type 0 = λ v. IsLog (Some v.hosts) v.entries in
    subst P c.self.view_is c.self.invariant.0
