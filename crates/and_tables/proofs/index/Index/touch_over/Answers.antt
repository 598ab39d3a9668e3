use Rattle.std.proofs.Common.{arith}
use Rattle.and_policy.specs.declared.entry.Order.{Order}
use Rattle.and_tables.proofs.index.Index.touch_over.Goals as goal

pub returns-clause-touched : goal.returns-clause-touched
returns-clause-touched c = c.touch_ended.ensures (λ (o : Order). o.until) c.args.now c.last.ensures c.requires.chained.until (λ place order below is same. omega (arith, below))
