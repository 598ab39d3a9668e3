use Rattle.std.proofs.Common.{◌≡◌}
use Rattle.actor_rows.proofs.tables_of.Given as goal

abbrev pub invariant-loop-op : goal.invariant-loop-op
invariant-loop-op l = record {
  host : l.tables.host ≡ 0;
  gateways : l.tables.gateways ≡ l.book.plan.settings.gateways;
}
