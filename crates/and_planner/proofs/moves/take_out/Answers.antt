use Rattle.std.proofs.Common.{◌==◌, ◌∙◌, rules, sym, ap, map}
use Rattle.std.specs.Prelude.{not}
use Rattle.std.proofs.lemmas.Fn.{filter_same}
use Rattle.and_planner.specs.Standing.{moving_of}
use Rattle.and_planner.proofs.Mapped.{filter-map}
use Rattle.and_planner.proofs.moves.take_out.Goals as goal

pub returns : goal.returns
returns c =
    ap (map moving_of) (filter_same _ (λ m. not (m.vm == c.args.vm)) _ (λ x b f' k. search rules) _ _ c.retain.ensures.filtered)
    ∙ sym (filter-map moving_of (λ m. not (m.vm == c.args.vm)) _)
