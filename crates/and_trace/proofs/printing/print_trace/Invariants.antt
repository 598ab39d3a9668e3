use Rattle.std.proofs.Common.{◌≡◌, drop}
use Rattle.and_events.specs.Run.{past}
use Rattle.and_trace.specs.Spelling.{trace}
use Rattle.and_trace.proofs.Printed.{printed, AreFit}
use Rattle.and_trace.proofs.printing.print_trace.Given as goal

abbrev pub invariant-loop-line : goal.invariant-loop-line
invariant-loop-line l =
    (printed l.text.items (drop l.line-index l.lines) ≡ trace (past l.lines)) × (AreFit (drop l.line-index l.lines) → AreFit l.lines)
