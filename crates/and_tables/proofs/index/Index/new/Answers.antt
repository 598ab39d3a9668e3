use Rattle.and_policy.specs.declared.entry.Order.{Order}
use Rattle.and_tables.specs.Numbers.{at}
use Rattle.and_tables.proofs.Chaining.{touched_start}
use Rattle.and_tables.proofs.index.Index.new.Goals as goal

pub returns-clause-chained : goal.returns-clause-chained
returns-clause-chained c = record {
  into = c.new-4.ensures (λ (o : Order). o.to_net);
  until = c.new-5.ensures (λ (o : Order). o.until);
  touched = touched_start (at c.new-3.result);
}
