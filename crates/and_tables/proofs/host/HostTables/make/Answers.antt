use Rattle.std.proofs.Common.{arith}
use Rattle.and_tables.specs.Numbers.{at, at_pair}
use Rattle.and_tables.proofs.Stepping.{keeps_start, knows_start}
use Rattle.and_tables.proofs.host.HostTables.make.Goals as goal

pub invariant_of-result : goal.invariant_of-result
invariant_of-result c = record {
  gated = c.requires;
  short = rw c.new.ensures.items (omega arith);
  few = rw c.new.ensures.items (omega arith);
  keeps = rw c.new.ensures.items (keeps_start (at c.new-2.result.entered) (at_pair c.new-2.result.ordered) c.new-2.ensures.entered c.new-2.ensures.ordered);
  chained = rw c.new.ensures.items c.new-2.ensures.chained;
  knows = rw c.new.ensures.items (knows_start (at c.new-2.result.touched) c.new-2.ensures.touched);
  register = rw c.new.ensures.items (λ log. c.new-3.ensures);
  rules = rw c.new.ensures.items (λ log. c.new-4.ensures);
}
