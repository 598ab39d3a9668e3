use Rattle.std.proofs.Common.{◌==◌, not, subst, sym}
use Rattle.std.specs.List.Sorted.{IsSortedBy}
use Rattle.std.proofs.lemmas.List.Kept.{IsSortedBy-filter}
use Rattle.and_policy.specs.declared.entry.Rule.{Rule}
use Rattle.and_policy.specs.Egress.{rule_before}
use Rattle.and_tables.proofs.Ordering.{ranks}
use Rattle.and_tables.proofs.rules.Rules.delete.Goals as goal

pub invariant_of-self : goal.invariant_of-self
invariant_of-self c =
    subst (IsSortedBy rule_before) (sym c.delete_from.ensures) (IsSortedBy-filter rule_before ranks (λ (r : Rule). not (r.number == c.args.number)) c.self.inside.rules.items c.self.invariant)
