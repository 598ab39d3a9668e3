use Rattle.std.proofs.Common.{length}
use Rattle.and_capture.proofs.Loop.{Keeps}
use Rattle.and_capture.proofs.reading.frames_of.Given as goal

abbrev pub invariant-loop-rest : goal.invariant-loop-rest
invariant-loop-rest g l = Keeps g.O.ByteOrder.number_of l.bytes l.rest l.frames.items

abbrev pub decreases-loop-rest : goal.decreases-loop-rest
decreases-loop-rest g l = length l.rest
