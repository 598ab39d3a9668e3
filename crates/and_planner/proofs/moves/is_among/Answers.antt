use Rattle.std.proofs.Common.{◌==◌, ◌∙◌, rules, tests, sym}
use Rattle.std.proofs.lemmas.Iterator.{YieldsList-from_slice}
use Rattle.std.proofs.lemmas.Iterator.Search.{any_from_yields_List}
use Rattle.and_planner.specs.Standing.{moving_of}
use Rattle.and_planner.proofs.Mapped.{list_any-map}
use Rattle.and_planner.proofs.moves.is_among.Goals as goal

pub returns : goal.returns
returns c =
    any_from_yields_List (λ m. m.vm == c.args.vm) _ _ _ c.any.ensures.ran (YieldsList-from_slice c.args.moves.now cc) (λ x b q k. search (rules, tests))
    ∙ sym (list_any-map moving_of (λ m. m.vm == c.args.vm) c.args.moves.now)
