-- The items of a script, one after the other.
use Rattle.std.proofs.Common.{◌≡◌, ◌<◌, ℕ, suc, ◌+◌, List, [], ◌∷◌, ◌++◌, length, drop, refl, ap, sym, ◌∙◌, Result, Ok, Err, ap₂, add-one}
use Rattle.std.proofs.Math.Seq.{drop-cons}
use Rattle.std.proofs.Math.ListN.{get_or}
use Rattle.serde_json.specs.Data.{Data, Items, item}
use Rattle.serde_json.specs.declared.value.Value.{Value}
use Rattle.serde_json.specs.View.{view, items_view}
use Rattle.and_events.specs.declared.plan.Item.{Item}
use Rattle.and_script.specs.Grammar as grammar
use Rattle.and_script.specs.Answers.{and_rest}

pub append_assoc : {A : Type 0} (xs ys zs : List A) → (xs ++ ys) ++ zs ≡ xs ++ (ys ++ zs)
append_assoc [] ys zs = refl
append_assoc (x ∷ xs) ys zs = ap (λ l. x ∷ l) (append_assoc xs ys zs)

-- names and items of a script that goes on by one item
pub names-one : (names : List (List ℕ)) (ws : List grammar.Written) (w : grammar.Written) →
    grammar.names_from names (ws ++ w ∷ []) ≡ grammar.with_name (grammar.names_from names ws) w.name
names-one names [] w = refl
names-one names (v ∷ ws) w = names-one (grammar.with_name names v.name) ws w

pub items-one : (names : List (List ℕ)) (ws : List grammar.Written) (w : grammar.Written) →
    grammar.items_from names (ws ++ w ∷ []) ≡ grammar.items_from names ws ++ grammar.item_with (grammar.number_of (grammar.names_from names ws) w.name) w.command w.values ∷ []
items-one names [] w = refl
items-one names (v ∷ ws) w = ap (λ l. grammar.item_with (grammar.number_of names v.name) v.command v.values ∷ l) (items-one (grammar.with_name names v.name) ws w)

-- one item more was read
pub rest-one : (done : List grammar.Written) (w : grammar.Written) (rest : Result (List grammar.Written) grammar.Fault) →
    and_rest done (grammar.◌>>=◌ rest (λ others. Ok (w ∷ others))) ≡ and_rest (done ++ w ∷ []) rest
rest-one done w (Ok rest) = ap Ok (sym (append_assoc done (w ∷ []) rest))
rest-one done w (Err fault) = refl

abbrev pub then_item : grammar.Written → Result (List grammar.Written) grammar.Fault → Result (List grammar.Written) grammar.Fault
then_item w rest = grammar.◌>>=◌ rest (λ others. Ok (w ∷ others))

abbrev pub then_read : ℕ → Items → Result grammar.Written grammar.Refusal → Result (List grammar.Written) grammar.Fault
then_read i rest read = grammar.◌>>=◌ (grammar.at_item i read) (λ w. then_item w (grammar.items_of (suc i) rest))

-- where the first item reads, the rest goes on
pub items-cons : (i : ℕ) (d : Data) (rest : Items) (w : grammar.Written) → grammar.item_of d ≡ Ok w →
    grammar.items_of i (item d rest) ≡ then_item w (grammar.items_of (suc i) rest)
items-cons i d rest w e = ap (then_read i rest) e

-- what stands from a place on
pub drop-here : (list : List Value) (i : ℕ) (v : Value) → i < length list → v ≡ get_or list i v → drop i list ≡ v ∷ drop (i + 1) list
drop-here list i v lt is =
    drop-cons list i v lt ∙ ap₂ (λ x j. x ∷ drop j list) (sym is) (sym (add-one i))

pub read_on : (list : List Value) (i : ℕ) (v : Value) (ws : List grammar.Written) (w : grammar.Written) →
    i < length list → v ≡ get_or list i v → grammar.item_of (view v) ≡ Ok w →
    grammar.items_of 0 (items_view list) ≡ and_rest ws (grammar.items_of i (items_view (drop i list))) →
    grammar.items_of 0 (items_view list) ≡ and_rest (ws ++ w ∷ []) (grammar.items_of (i + 1) (items_view (drop (i + 1) list)))
read_on list i v ws w lt is e so =
    so ∙ ap (λ l. and_rest ws (grammar.items_of i (items_view l))) (drop-here list i v lt is)
    ∙ ap (and_rest ws) (items-cons i (view v) (items_view (drop (i + 1) list)) w e)
    ∙ rest-one ws w (grammar.items_of (suc i) (items_view (drop (i + 1) list)))
    ∙ ap (λ j. and_rest (ws ++ w ∷ []) (grammar.items_of j (items_view (drop (i + 1) list)))) (sym (add-one i))

-- the loop's invariant after one item more
pub after_item : (list : List Value) (i : ℕ) (v : Value) (ws : List grammar.Written) (w : grammar.Written) (names names' : List (List ℕ)) (items items' : List Item) →
    i < length list → v ≡ get_or list i v → grammar.item_of (view v) ≡ Ok w →
    grammar.items_of 0 (items_view list) ≡ and_rest ws (grammar.items_of i (items_view (drop i list))) →
    names ≡ grammar.names_from [] ws → items ≡ grammar.items_from [] ws →
    names' ≡ grammar.with_name names w.name →
    items' ≡ items ++ grammar.item_with (grammar.number_of names w.name) w.command w.values ∷ [] →
    (x : List grammar.Written) × (grammar.items_of 0 (items_view list) ≡ and_rest x (grammar.items_of (i + 1) (items_view (drop (i + 1) list))))
    × (names' ≡ grammar.names_from [] x) × (items' ≡ grammar.items_from [] x)
after_item list i v ws w names names' items items' lt is e so named made names_is items_is =
    let none : List (List ℕ) = [] in (
      ws ++ w ∷ [],
      read_on list i v ws w lt is e so,
      names_is ∙ ap (λ n. grammar.with_name n w.name) named ∙ sym (names-one none ws w),
      items_is ∙ ap₂ (λ l n. l ++ grammar.item_with (grammar.number_of n w.name) w.command w.values ∷ []) made named ∙ sym (items-one none ws w),
    )
