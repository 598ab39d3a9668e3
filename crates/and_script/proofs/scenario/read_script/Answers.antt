use Rattle.std.proofs.Common.{◌≡◌, rules, true, false, nat_lt, length, codes, ap, ap₂, sym, ◌∙◌, subst, Result, Ok, []}
use Rattle.and_events.specs.declared.plan.Scenario.{Scenario}
use Rattle.and_script.specs.Answers.{Tells}
use Rattle.serde_json.specs.View.{items_view}
use Rattle.and_script.specs.declared.tables.Cause.TheVariants.{Limit}
use Rattle.and_script.specs.Grammar as grammar
use Rattle.and_script.proofs.Whole.{told, told_item, scripted-long, scripted-short, with_settings}
use Rattle.and_script.proofs.scenario.read_script.Goals as goal

pub returns-then-script-gt-MAX_ITEMS-clause-refused : goal.returns-then-script-gt-MAX_ITEMS-clause-refused
returns-then-script-gt-MAX_ITEMS-clause-refused c =
    let long : nat_lt 65536 (length c.args.script.now) ≡ true = search rules in
    told c.at_top.result Limit (grammar.Top (grammar.Of (codes "script"))) (grammar.scripted c.args.settings (items_view c.args.script.now))
    c.at_top.ensures (scripted-long c.args.settings c.args.script.now long)

pub returns-in-Err-clause-refused : goal.returns-in-Err-clause-refused
returns-in-Err-clause-refused c =
    let short : nat_lt 65536 (length c.args.script.now) ≡ false = search rules in
    let P : Result Scenario grammar.Fault → Type 0 = λ r. Tells c.item_fault.result r in
    subst P (sym (scripted-short c.args.settings c.args.script.now short))
    (told_item c.args.settings c.item_fault.result c.in-Err.refused.item c.in-Err.refused.refusal (grammar.items_of 0 (items_view c.args.script.now))
    c.item_fault.ensures c.in-Err.ensures.refused)

pub returns-in-Ok-clause-found : goal.returns-in-Ok-clause-found
returns-in-Ok-clause-found c =
    let short : nat_lt 65536 (length c.args.script.now) ≡ false = search rules in
    let found = c.in_default.ensures.found in
    let named : c.in-Ok.names ≡ grammar.names_from [] found.0 = search rules in
    let made : c.from_vec.result ≡ grammar.items_from [] found.0 = search rules in
    scripted-short c.args.settings c.args.script.now short ∙ ap (with_settings c.args.settings) found.1
    ∙ sym (ap₂ (λ n i. Ok (record { settings = c.args.settings; names = n; items = i })) named made)
