use Rattle.std.proofs.Common.{◌≡◌, ◌++◌, take}
use Rattle.and_install.proofs.install.apply.Given as goal

abbrev pub invariant-loop-op : goal.invariant-loop-op
invariant-loop-op g l = record {
  ops : g.T.Tables.ops l.tables ≡ g.T.Tables.ops l.fn.tables ++ take l.op-index l.batch;
  origin : g.T.Tables.origin l.tables ≡ g.T.Tables.origin l.fn.tables;
}
