use Rattle.std.proofs.Common.{◌≡◌, ◌++◌, drop}
use Rattle.std.specs.List.{flat_map}
use Rattle.and_trace.specs.Spelling.{spaced}
use Rattle.and_trace.proofs.put.put_words.Given as goal

abbrev pub invariant-loop-word : goal.invariant-loop-word
invariant-loop-word l = l.fn.text.items ++ flat_map spaced l.words ≡ l.text.items ++ flat_map spaced (drop l.word-index l.words)
