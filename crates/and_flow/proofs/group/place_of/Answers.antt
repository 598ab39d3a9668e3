use Rattle.std.proofs.Common.{◌∙◌, sym, arith, add-one}
use Rattle.and_flow.proofs.Places.{passed_over}
use Rattle.and_flow.proofs.group.place_of.Goals as goal

pub loop-at-preserved : goal.loop-at-preserved
loop-at-preserved c = c.loop-at.invariant ∙ rw add-one (passed_over c.args.key.now c.args.items.now c.loop-at.at (omega arith) (λ d. sym (c.is_at.ensures d) ∙ c.if-is_at.false))
