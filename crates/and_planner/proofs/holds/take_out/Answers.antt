use Rattle.std.proofs.Common.{◌∙◌, rules, sym, ap, map}
use Rattle.std.specs.Prelude.{not}
use Rattle.std.proofs.lemmas.Fn.{filter_same}
use Rattle.and_events.specs.Script.{is_hold}
use Rattle.and_planner.specs.Standing.{held_at}
use Rattle.and_planner.proofs.Mapped.{filter-map}
use Rattle.and_planner.proofs.holds.take_out.Goals as goal

pub returns : goal.returns
returns c =
    ap (map held_at) (filter_same _ (λ h. not (is_hold c.args.node c.args.what (held_at h))) _ (λ x b f' k. search rules) _ _ c.retain.ensures.filtered)
    ∙ sym (filter-map held_at (λ h. not (is_hold c.args.node c.args.what h)) _)
