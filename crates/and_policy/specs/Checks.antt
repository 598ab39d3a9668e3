-- Checks in order: the first that fails decides.
use Rattle.std.specs.Prelude.{Bool, List, [], ◌∷◌, Option, Some, None, Result, Ok, Err, if◌then◌else◌}

-- the fault of the first check that fails. A check is whether it fails, and its fault
abbrev pub first_failing : {F : Type 0} → List (Bool × F) → Option F
first_failing [] = None
first_failing (check ∷ checks) = if check.0 then Some check.1 else first_failing checks

-- the fault, or the value where there is none
abbrev pub unless : {A F : Type 0} → Option F → A → Result A F
unless None value = Ok value
unless (Some fault) value = Err fault
