use Rattle.std.proofs.Common.{length}
use Rattle.and_trace.proofs.Texts.{Reading}
use Rattle.and_trace.proofs.reader.read_trace.Given as goal

abbrev pub invariant-loop-rest : goal.invariant-loop-rest
invariant-loop-rest l = Reading l.fn.bytes l.rest l.events.items l.line

abbrev pub decreases-loop-rest : goal.decreases-loop-rest
decreases-loop-rest l = length l.rest
