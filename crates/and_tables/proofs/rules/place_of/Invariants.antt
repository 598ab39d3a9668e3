use Rattle.std.proofs.Common.{◌≡◌, ◌≤◌, ◌-◌, ◌++◌, length, take, drop}
use Rattle.and_policy.specs.Egress.{rule_before}
use Rattle.and_policy.specs.Sorting.{place}
use Rattle.and_tables.proofs.rules.place_of.Given as goal

abbrev pub invariant-loop-at : goal.invariant-loop-at
invariant-loop-at l = record {
  within : l.at ≤ length l.rules;
  placed : place rule_before l.rule l.rules ≡ take l.at l.rules ++ place rule_before l.rule (drop l.at l.rules);
}

abbrev pub decreases-loop-at : goal.decreases-loop-at
decreases-loop-at l = length l.rules - l.at
