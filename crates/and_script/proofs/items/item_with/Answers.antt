use Rattle.std.proofs.Common.{rules}
use Rattle.and_script.proofs.items.item_with.Goals as goal

-- what is said for every VM is said for this one
pub returns-in-AddRule-default : goal.returns-in-AddRule-default
returns-in-AddRule-default c = let said = c.rule_item.ensures c.args.vm in search (rules, said)

pub returns-in-AddRoute-default : goal.returns-in-AddRoute-default
returns-in-AddRoute-default c = let said = c.route_item.ensures c.args.vm in search (rules, said)
