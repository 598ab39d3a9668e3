use Rattle.std.proofs.Common.{Option, ap, sym, ◌∙◌}
use Rattle.and_policy.specs.declared.entry.Rule.{Rule}
use Rattle.and_policy.specs.Egress as policy
use Rattle.and_slow.proofs.Sorted.{decides_at}
use Rattle.and_slow.proofs.first.first_match.Goals as goal

pub returns-then-matches-clause-verdict : goal.returns-then-matches-clause-verdict
returns-then-matches-clause-verdict g c =
    let decided = decides_at c.args.side c.args.tuple.now c.args.rules.now c.loop-rule.rule-index _ c.requires c.loop-rule-test.true (sym c.is_side.ensures ∙ c.if-is_side.true) (sym c.matches.ensures ∙ c.if-matches.true) in
    c.verdict_by.ensures ∙ ap (λ (o : Option Rule). policy.verdict_by c.args.side o) (sym (c.loop-rule.invariant.0 ∙ decided))
