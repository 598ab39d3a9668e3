-- The text of a line.
use Rattle.std.specs.Prelude.{ℕ, List, ◌++◌}
use Rattle.and_top.specs.declared.line.Line.{Line}

abbrev pub text_of : Line → List ℕ
text_of line = line.head.now ++ (line.name.now ++ line.tail.now)
