-- How many rules stand in their order.
use Rattle.std.proofs.Common.{◌≡◌, suc, Bool, true, false, List, [], ◌∷◌, length, refl, ap, ◌∙◌}
use Rattle.std.specs.Prelude.{if◌then◌else◌}
use Rattle.and_policy.specs.declared.entry.Rule.{Rule}
use Rattle.and_policy.specs.Egress.{rule_before}
use Rattle.and_policy.specs.Sorting.{place, sorted}

long_place : (x : Rule) (xs : List Rule) → length (place rule_before x xs) ≡ suc (length xs)
long_place x [] = refl
long_place x (y ∷ ys) = at_first (rule_before x y) (long_place x ys)
  where
    at_first : (b : Bool) → length (place rule_before x ys) ≡ suc (length ys) → length (if b then x ∷ y ∷ ys else y ∷ place rule_before x ys) ≡ suc (suc (length ys))
    at_first true ih = refl
    at_first false ih = ap suc ih

-- it has as many
pub as_many : (xs : List Rule) → length (sorted rule_before xs) ≡ length xs
as_many [] = refl
as_many (x ∷ xs) = long_place x (sorted rule_before xs) ∙ ap suc (as_many xs)
