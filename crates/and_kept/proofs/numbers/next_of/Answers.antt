use Rattle.std.proofs.Common.{arith}
use Rattle.and_kept.proofs.NumbersLemmas.{none_from, there}
use Rattle.and_kept.proofs.numbers.next_of.Goals as goal

pub returns-then-number-size-clause-there : goal.returns-then-number-size-clause-there
returns-then-number-size-clause-there c =
    there c.args.words.now c.loop-at.at c.next_in-found.result c.if-found-lt64.true (rw c.word_of.ensures at (c.next_in-found.ensures.set c.if-found-lt64.true))

pub returns-then-number-size-clause-least : goal.returns-then-number-size-clause-least
returns-then-number-size-clause-least c =
    none_from c.args.words.now c.args.from c.loop-at.at c.next_in-found.result c.next_in-found.ensures.within
    (λ i low high. rw c.word_of.ensures at (c.next_in-found.ensures.none i low high)) c.loop-at.invariant.none

pub returns-else-number-size-clause-none : goal.returns-else-number-size-clause-none
returns-else-number-size-clause-none c j low high =
    none_from c.args.words.now c.args.from c.loop-at.at c.next_in-found.result c.next_in-found.ensures.within
    (λ i low high. rw c.word_of.ensures at (c.next_in-found.ensures.none i low high)) c.loop-at.invariant.none j low (omega (arith, high))

pub loop-at-preserved : goal.loop-at-preserved
loop-at-preserved c = record {
  past = omega arith;
  within = omega arith;
  none = λ j low high.
      none_from c.args.words.now c.args.from c.loop-at.at c.next_in-found.result c.next_in-found.ensures.within
      (λ i low high. rw c.word_of.ensures at (c.next_in-found.ensures.none i low high)) c.loop-at.invariant.none j low (omega (arith, high));
}
