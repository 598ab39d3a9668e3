use Rattle.std.proofs.Common.{List, ◌∙◌, ap}
use Rattle.and_policy.specs.declared.entry.Entry.{Entry}
use Rattle.and_policy.specs.Ingress as spec
use Rattle.and_policy.proofs.LoggedLemmas.{entries_of_entries}
use Rattle.and_policy.proofs.plain.landing.Goals as goal

pub returns : goal.returns
returns c = c.landing_in.ensures ∙ ap (λ (k : List Entry). spec.landing k c.args.net c.args.tuple.now) (entries_of_entries c.args.log.now)
