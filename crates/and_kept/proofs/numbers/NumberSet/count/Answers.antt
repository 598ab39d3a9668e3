use Rattle.std.proofs.Common.{arith}
use Rattle.and_kept.specs.Numbers.{has_in}
use Rattle.and_kept.proofs.NumbersLemmas.{count_within}
use Rattle.and_kept.proofs.numbers.NumberSet.count.Goals as goal

pub returns-clause-small : goal.returns-clause-small
returns-clause-small c =
    let x = c.self.inside in
    omega (arith, c.self.invariant.counted, c.self.invariant.small, count_within (has_in x.words.items) x.size)
