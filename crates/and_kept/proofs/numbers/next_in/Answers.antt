use Rattle.std.proofs.Common.{arith}
use Rattle.and_kept.proofs.numbers.next_in.Goals as goal
use Rattle.and_kept.proofs.NumbersLemmas.{no_rest, lowest}

pub returns-then-rest-eq0-clause-none : goal.returns-then-rest-eq0-clause-none
returns-then-rest-eq0-clause-none c i high top = no_rest c.args.word c.args.from c.ranges.word.fits c.requires c.if-rest-eq0.true i high top

pub returns-else-rest-eq0-clause-past : goal.returns-else-rest-eq0-clause-past
returns-else-rest-eq0-clause-past c = (lowest c.args.word c.args.from c.ranges.word.fits c.requires (omega arith)).past

pub returns-else-rest-eq0-clause-set : goal.returns-else-rest-eq0-clause-set
returns-else-rest-eq0-clause-set c within = (lowest c.args.word c.args.from c.ranges.word.fits c.requires (omega arith)).one

pub returns-else-rest-eq0-clause-none : goal.returns-else-rest-eq0-clause-none
returns-else-rest-eq0-clause-none c = (lowest c.args.word c.args.from c.ranges.word.fits c.requires (omega arith)).none
