-- The first of a list.
use Rattle.std.specs.Prelude.{List, [], ◌∷◌, Option, Some, None}
use Rattle.and_policy.specs.declared.entry.Route.{Route}

abbrev pub head : List Route → Option Route
head [] = None
head (x ∷ xs) = Some x
