use Rattle.std.proofs.Common.{List, ◌∙◌, ap}
use Rattle.and_policy.specs.declared.entry.Entry.{Entry}
use Rattle.and_policy.specs.Owners as spec
use Rattle.and_policy.proofs.LoggedLemmas.{entries_of_entries}
use Rattle.and_policy.proofs.plain.owner.Goals as goal

pub returns : goal.returns
returns c = c.owner.ensures ∙ ap (λ (k : List Entry). spec.owner k c.args.net c.args.address) (entries_of_entries c.args.log.now)
