-- Lists of names, seen as lists of bytes.
use Rattle.std.proofs.Common.{◌≡◌, ◌+◌, Bool, true, false, List, [], ◌∷◌, ◌++◌, map, cond, refl, ap, sym, ◌∙◌, string_bytes, bytes_eq, String, Global, not}
use Rattle.std.specs.Bool.{if◌then◌else◌}
use Rattle.std.specs.String.{string_eq}
use Rattle.std.specs.List.{list_any, position_or_len, prefix_len}
use Rattle.and_planner.proofs.Mapped.{list_any-map}

pub prefix_len-map : {A B : Type 0} (f : A → B) (p : B → Bool) (xs : List A) → prefix_len p (map f xs) ≡ prefix_len (λ x. p (f x)) xs
prefix_len-map f p [] = refl
prefix_len-map f p (x ∷ xs) = ap (λ n. cond (p (f x)) (1 + n) 0) (prefix_len-map f p xs)

pub map-append_one : {A B : Type 0} (f : A → B) (xs : List A) (y : A) → map f (xs ++ y ∷ []) ≡ map f xs ++ f y ∷ []
map-append_one f [] y = refl
map-append_one f (x ∷ xs) y = ap (λ zs. f x ∷ zs) (map-append_one f xs y)

pub map-if : {A B : Type 0} (f : A → B) (b : Bool) (xs : List A) (y : A) →
    map f (if b then xs else xs ++ y ∷ []) ≡ (if b then map f xs else map f xs ++ f y ∷ [])
map-if f true xs y = refl
map-if f false xs y = map-append_one f xs y

-- the names after one was put into the set
pub names_added : (v : String Global) (ks : List (String Global)) →
    map string_bytes (if list_any (string_eq v) ks then ks else ks ++ v ∷ [])
    ≡ (if list_any (bytes_eq (string_bytes v)) (map string_bytes ks) then map string_bytes ks else map string_bytes ks ++ string_bytes v ∷ [])
names_added v ks =
    map-if string_bytes (list_any (string_eq v) ks) ks v
    ∙ ap (λ b. if b then map string_bytes ks else map string_bytes ks ++ string_bytes v ∷ []) (sym (list_any-map string_bytes (bytes_eq (string_bytes v)) ks))

-- its place
pub name_place : (v : String Global) (ks : List (String Global)) →
    position_or_len (string_eq v) ks ≡ position_or_len (bytes_eq (string_bytes v)) (map string_bytes ks)
name_place v ks = sym (prefix_len-map string_bytes (λ n. not (bytes_eq (string_bytes v) n)) ks)
