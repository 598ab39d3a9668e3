use Rattle.std.proofs.Common.{rules, ◌≡◌, subst, sym}
use Rattle.std.specs.List.Sorted.{IsSortedBy}
use Rattle.and_policy.specs.Egress.{rule_before}
use Rattle.and_policy.specs.Sorting.{place}
use Rattle.and_tables.proofs.Ordering.{in_order_place}
use Rattle.and_tables.proofs.rules.Rules.add.Goals as goal

pub invariant_of-self-2 : goal.invariant_of-self-2
invariant_of-self-2 c =
    let is : c.insert.new.self.items ≡ place rule_before c.args.rule c.self.inside.rules.items = search rules in
    subst (IsSortedBy rule_before) (sym is) (in_order_place c.args.rule c.self.inside.rules.items c.self.invariant)
