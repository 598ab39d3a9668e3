use Rattle.std.proofs.Common.{sym, ap, ◌∙◌}
use Rattle.and_policy.specs.Outer.{folded}
use Rattle.and_lanes.proofs.Sums.{folded-zero}
use Rattle.and_lanes.proofs.Pairing.{no_words}
use Rattle.and_lanes.proofs.sum.ones_sum.Goals as goal

pub returns-clause-zero : goal.returns-clause-zero
returns-clause-zero c = λ e. no_words c.args.bytes.now (folded-zero _ (sym (c.folded.ensures ∙ ap (λ n. folded n n) c.words_sum.ensures.value) ∙ e))
