use Rattle.std.proofs.Common.{ap, ◌%◌, ◌∙◌}
use Rattle.std.specs.Prelude.{◌==◌}
use Rattle.std.specs.Int.{bit_at}
use Rattle.std.proofs.lemmas.Nat.Bits.{shr_and_one}
use Rattle.and_kept.specs.Numbers.{has_in}
use Rattle.and_kept.proofs.numbers.is_in.Goals as goal

pub returns : goal.returns
unfolding has_in
returns c = ap (λ b. b == 1) (shr_and_one c.word_of.result (c.args.n % 64) ∙ ap (λ w. bit_at w (c.args.n % 64)) c.word_of.ensures)
