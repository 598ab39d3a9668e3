use Rattle.std.proofs.Common.{◌≡◌, ◌-◌, ◌++◌}
use Rattle.and_make.specs.Frames.{words, frames_from}
use Rattle.and_make.proofs.Drawing.{left}
use Rattle.and_make.proofs.frames.frames.Given as goal

abbrev pub invariant-loop-i : goal.invariant-loop-i
invariant-loop-i l = l.frames ++ left l.i (l.n - l.i) l.rng ≡ frames_from 0 (words l.n)
