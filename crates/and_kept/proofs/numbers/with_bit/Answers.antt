use Rattle.and_kept.proofs.NumbersLemmas.{bit_in, bit_out}
use Rattle.and_kept.proofs.numbers.with_bit.Goals as goal

pub returns-then-on : goal.returns-then-on
returns-then-on c = rw c.if-on.true (bit_in c.args.word c.args.n)

pub returns-else-on : goal.returns-else-on
returns-else-on c = rw c.if-on.false (bit_out c.args.word c.args.n)
