use Rattle.std.proofs.Common.{◌≡◌, ◌+◌, length, take}
use Rattle.std.specs.List.{sum_by}
use Rattle.and_capture.specs.Spelling.{header_len, record_len}
use Rattle.and_capture.proofs.writing.file_len.Given as goal

abbrev pub invariant-loop-taken : goal.invariant-loop-taken
invariant-loop-taken l = l.len ≡ header_len + sum_by (λ t. record_len + length t.frame) (take l.taken-index l.frames)
