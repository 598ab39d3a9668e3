use Rattle.std.proofs.Common.{◌==◌, ◌∙◌, rules, tests, sym, ap}
use Rattle.std.specs.Prelude.{option_map}
use Rattle.std.proofs.lemmas.Iterator.{YieldsList-from_slice}
use Rattle.std.proofs.lemmas.Iterator.Search.{find_from_yields_List}
use Rattle.and_planner.proofs.Applying.{target_some, target_none}
use Rattle.and_planner.proofs.moves.target_among.Goals as goal

pub returns-in-Some : goal.returns-in-Some
returns-in-Some c =
    let found = find_from_yields_List (λ m. m.vm == c.args.vm) _ _ c.find.result c.find.ensures.ran (YieldsList-from_slice c.args.moves.now cc) (λ x b q k. search (rules, tests)) in
    target_some c.args.vm c.args.moves.now c.in-Some.found.now (sym found ∙ ap (option_map (λ m. m.now)) c.in-Some.is)

pub returns-in-None : goal.returns-in-None
returns-in-None c =
    let found = find_from_yields_List (λ m. m.vm == c.args.vm) _ _ c.find.result c.find.ensures.ran (YieldsList-from_slice c.args.moves.now cc) (λ x b q k. search (rules, tests)) in
    target_none c.args.vm c.args.moves.now (sym found ∙ ap (option_map (λ m. m.now)) c.in-None.is)
