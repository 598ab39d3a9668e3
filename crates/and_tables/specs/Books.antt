-- The rules of networks, in the order in which they are tried.
use Rattle.std.specs.Prelude.{◌≡◌, ℕ, ◌==◌, nat_eq, List, [], unwrap_or}
use Rattle.std.specs.HashMap as hash
use Rattle.std.specs.HashMap.{HashMap}
use Rattle.std.specs.declared.hash.FoldHasher.{FoldHasher}
use Rattle.std.specs.declared.hash.BuildHasherDefault.{BuildHasherDefault}
use Rattle.and_policy.specs.declared.entry.Entry.{Entry}
use Rattle.and_policy.specs.declared.entry.Rule.{Rule}
use Rattle.and_policy.specs.Egress.{rule_before}
use Rattle.and_policy.specs.Logs.{rules}
use Rattle.and_policy.specs.Once.{Once}
use Rattle.and_policy.specs.Sorting.{sorted}
use Rattle.and_tables.specs.declared.rulebook.Rulebook.{Rulebook}

abbrev pub rules_at : HashMap ℕ (List Rule) (BuildHasherDefault FoldHasher) → ℕ → List Rule
rules_at m net = unwrap_or (hash.get nat_eq m net) []

-- each network's live rules, by priority and number, no two of which have the same number
pub record IsRulebook (x : Rulebook) (k : List Entry) : Type 0 where
  pub lists : (net : ℕ) → rules_at x.nets net ≡ sorted rule_before (rules k net)
  pub once : (net number : ℕ) → Once (λ rule. rule.number == number) (rules k net)
