use Rattle.std.proofs.Common.{◌≡◌, ◌++◌, take}
use Rattle.std.specs.List.{flat_map}
use Rattle.and_capture.specs.Spelling.{little, record_of, written_header}
use Rattle.and_capture.proofs.writing.write_capture.Given as goal

abbrev pub invariant-loop-taken : goal.invariant-loop-taken
invariant-loop-taken l = l.out.items ≡ written_header l.capture.nanos l.link ++ flat_map (record_of little) (take l.taken-index l.frames)
