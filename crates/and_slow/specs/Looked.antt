-- How many rules the slow path looks at.
use Rattle.std.specs.Prelude.{ℕ, ◌+◌, ◌&&◌, if◌then◌else◌, List, [], ◌∷◌}
use Rattle.and_policy.specs.declared.packet.Tuple.{Tuple}
use Rattle.and_policy.specs.declared.entry.Rule.{Rule}
use Rattle.and_policy.specs.declared.entry.Side.{Side}
use Rattle.and_policy.specs.Matching.{is_side, matches}

-- those up to the first of the side that matches, and that one; all where there is none
abbrev pub looked : Side → Tuple → List Rule → ℕ
looked side x [] = 0
looked side x (rule ∷ rules) = if is_side rule.side side && matches x rule then 1 else 1 + looked side x rules
