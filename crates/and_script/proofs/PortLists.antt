-- Lists that are no range of ports.
use Rattle.std.proofs.Common.{◌≡◌, List, [], ◌∷◌, length, refl, Err, Some}
use Rattle.serde_json.specs.declared.value.Value.{Value}
use Rattle.serde_json.specs.View.{items_view}
use Rattle.and_script.specs.declared.tables.Cause.TheVariants.{Field}
use Rattle.and_script.specs.Forms.{ports_in}

-- a list of other than two members is of the wrong kind
pub ports-other : (xs : List Value) → (length xs ≡ 2 → ⊥) → ports_in (Some (items_view xs)) ≡ Err Field
ports-other [] n = refl
ports-other (x ∷ []) n = refl
ports-other (x ∷ y ∷ []) n = absurd (n refl)
ports-other (x ∷ y ∷ z ∷ zs) n = refl
