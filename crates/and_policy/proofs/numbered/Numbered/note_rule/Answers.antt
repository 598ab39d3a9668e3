use Rattle.std.proofs.Common.{◌≡◌, ℕ, ◌∷◌, [], ◌++◌, List, Option, None, sym, subst}
use Rattle.and_policy.specs.declared.entry.Entry.{Entry}
use Rattle.and_policy.specs.Fitting.{fits}
use Rattle.and_policy.specs.Numbered.{IsNumbered, rule_numbers}
use Rattle.and_policy.proofs.Numbering.{rule-added, rule-deleted, rules-other}
use Rattle.and_policy.proofs.numbered.Numbered.note_rule.Goals as goal

pub returns-in-AddRule : goal.returns-in-AddRule
returns-in-AddRule c =
    subst (λ (e : Entry). (hosts : Option ℕ) (k : List Entry) → fits hosts k e ≡ None → IsNumbered c.args.self.now (rule_numbers k) → IsNumbered c.add.new.self (rule_numbers (k ++ e ∷ [])))
    (sym c.in-AddRule.is) (λ hosts k fit is. rule-added c.args.self.now c.add.new.self hosts k c.in-AddRule.net c.in-AddRule.rule fit c.add.ensures is)

pub returns-in-DelRule : goal.returns-in-DelRule
returns-in-DelRule c =
    subst (λ (e : Entry). (hosts : Option ℕ) (k : List Entry) → fits hosts k e ≡ None → IsNumbered c.args.self.now (rule_numbers k) → IsNumbered c.remove.new.self (rule_numbers (k ++ e ∷ [])))
    (sym c.in-DelRule.is) (λ hosts k fit is. rule-deleted c.args.self.now c.remove.new.self hosts k c.in-DelRule.net c.in-DelRule.number fit c.remove.ensures is)

pub returns-in_default : goal.returns-in_default
returns-in_default c = λ hosts k fit is. rules-other c.args.self.now k c.args.entry.now c.in_default.not-AddRule c.in_default.not-DelRule is
