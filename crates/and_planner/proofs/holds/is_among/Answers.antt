use Rattle.std.proofs.Common.{◌∙◌, rules, tests, sym}
use Rattle.std.proofs.lemmas.Iterator.{YieldsList-from_slice}
use Rattle.std.proofs.lemmas.Iterator.Search.{any_from_yields_List}
use Rattle.and_events.specs.Script.{is_hold}
use Rattle.and_planner.specs.Standing.{held_at}
use Rattle.and_planner.proofs.Mapped.{list_any-map}
use Rattle.and_planner.proofs.holds.is_among.Goals as goal

pub returns : goal.returns
returns c =
    any_from_yields_List (λ h. is_hold c.args.node c.args.what (held_at h)) _ _ _ c.any.ensures.ran (YieldsList-from_slice c.args.holds.now cc) (λ x b q k. search (rules, tests))
    ∙ sym (list_any-map held_at (is_hold c.args.node c.args.what) c.args.holds.now)
