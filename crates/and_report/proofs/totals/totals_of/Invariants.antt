use Rattle.std.proofs.Common.{◌≡◌, take}
use Rattle.and_events.specs.Run.{past}
use Rattle.and_report.specs.Nets.{nets_in}
use Rattle.and_report.specs.Totals.{AreTotals}
use Rattle.and_report.proofs.totals.totals_of.Given as goal

abbrev pub invariant-loop-line : goal.invariant-loop-line
invariant-loop-line l = record {
  nets : l.nets.items ≡ nets_in l.plan (past (take l.line-index l.lines));
  totals : AreTotals l.plan (past (take l.line-index l.lines)) l.totals;
}
