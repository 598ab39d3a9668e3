use Rattle.std.proofs.Common.{arith}
use Rattle.and_kept.proofs.NumbersLemmas.{rank_flat, rank_there, rank_zero}
use Rattle.and_kept.proofs.numbers.NumberSet.nth.Goals as goal

pub skip-init : goal.skip-init
skip-init c = record { within = omega arith; passed = rank_zero c.args.self.now.words }

pub overflow_add-from : goal.overflow_add-from
overflow_add-from c = omega (arith, c.in-Some.ensures.within, c.next.ensures.small)

pub unreachable-requires : goal.unreachable-requires
unreachable-requires c =
    omega (arith, rank_flat c.args.self.now.words c.skip.from c.args.self.now.size c.skip.invariant.within c.in-None.ensures.none, c.skip.invariant.passed)

pub skip-preserved : goal.skip-preserved
skip-preserved c =
    let words = c.args.self.now.words in
    record {
      within = omega (arith, c.in-Some.ensures.within);
      passed = rank_there words c.in-Some.found c.in-Some.ensures.there c.skip.from c.skip.i c.in-Some.ensures.past c.in-Some.ensures.least c.skip.invariant.passed;
    }

pub unreachable-requires-in-None-next : goal.unreachable-requires-in-None-next
unreachable-requires-in-None-next c =
    omega (arith, rank_flat c.args.self.now.words c.skip.from c.args.self.now.size c.skip.invariant.within c.in-None-next.ensures.none, c.skip.invariant.passed)

pub returns-clause-rank : goal.returns-clause-rank
returns-clause-rank c =
    omega (arith, rank_flat c.args.self.now.words c.skip.from c.in-Some-next.found c.in-Some-next.ensures.past c.in-Some-next.ensures.least, c.skip.invariant.passed)
