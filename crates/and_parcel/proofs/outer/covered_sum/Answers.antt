use Rattle.std.proofs.Common.{◌≡◌, ◌+◌, ℕ, length, drop, ap, ◌∙◌, arith}
use Rattle.std.proofs.lemmas.Slice.{between_to_end}
use Rattle.and_policy.specs.Outer.{words_sum, folded}
use Rattle.and_parcel.specs.Reading.{covered}
use Rattle.and_parcel.proofs.Covered.{covered-sum}
use Rattle.and_parcel.proofs.outer.covered_sum.Goals as goal

pub returns : goal.returns
returns c =
    let rest : c.words_sum.result ≡ words_sum (drop 20 c.args.bytes.now) =
    c.words_sum.ensures.value ∙ ap words_sum (between_to_end c.args.bytes.now 20 (length c.args.bytes.now) (omega arith)) in
    let total : c.words_sum-addresses.result + (c.from.result + (c.from-len.result + c.words_sum.result)) ≡ words_sum (covered c.args.bytes.now) =
    omega (arith, c.words_sum-addresses.ensures.value, c.from.ensures, c.from-len.ensures, c.number16.ensures, rest, covered-sum c.args.bytes.now c.requires.whole) in
    c.folded.ensures ∙ ap (λ (n : ℕ). folded n n) total
