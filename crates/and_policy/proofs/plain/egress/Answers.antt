use Rattle.std.proofs.Common.{List, ◌∙◌, ap}
use Rattle.and_policy.specs.declared.entry.Entry.{Entry}
use Rattle.and_policy.specs.Egress as spec
use Rattle.and_policy.proofs.LoggedLemmas.{entries_of_entries}
use Rattle.and_policy.proofs.plain.egress.Goals as goal

pub returns : goal.returns
returns c = c.egress_in.ensures ∙ ap (λ (k : List Entry). spec.egress k c.args.vm c.args.tuple.now) (entries_of_entries c.args.log.now)
