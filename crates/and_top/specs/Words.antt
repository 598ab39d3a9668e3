-- The words of a command line, without the program's name.
use Rattle.std.specs.Prelude.{ℕ, ◌==◌, ◌&&◌, not, Bool, false, List, [], ◌∷◌, Option, Some, None, codes, bytes_eq, if◌then◌else◌}

-- the three names that `replay` takes
pub record Named : Type 0 where
  pub scenario : List ℕ
  pub capture : List ℕ
  pub out : List ℕ

-- a name is not empty and does not begin with `-`
abbrev pub is_name : List ℕ → Bool
is_name [] = false
is_name (c ∷ cs) = not (c == 45)

-- what the words ask for, and None where they are no command
abbrev pub command_of : List (List ℕ) → Option Named
command_of (command ∷ scenario ∷ capture ∷ out ∷ []) =
    if bytes_eq command (codes "replay") && (is_name scenario && (is_name capture && is_name out))
    then Some (record { scenario = scenario; capture = capture; out = out })
    else None
command_of _ = None
