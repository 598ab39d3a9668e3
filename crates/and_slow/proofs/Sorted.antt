-- In a sorted list the first rule that matches is the one that decides.
use Rattle.std.proofs.Common.{◌≡◌, ℕ, ◌+◌, ◌-◌, ◌<◌, Bool, true, false, ◌&&◌, List, [], ◌∷◌, length, Option, Some, None, refl, sym, ap, cond, arith, drop, get_or, suc}
use Rattle.std.specs.List.{filter}
use Rattle.std.specs.Cmp.{IsStrictWeakOrder}
use Rattle.std.specs.List.Sorted.{IsSortedBy}
use Rattle.std.proofs.lemmas.List.Sorted.{sorted_far}
use Rattle.std.proofs.Math.Seq.{drop-cons}
use Rattle.std.proofs.lemmas.List.{get_or-drop, get_or_default, length-drop}
use Rattle.and_policy.specs.declared.packet.Tuple.{Tuple}
use Rattle.and_policy.specs.declared.entry.Rule.{Rule}
use Rattle.and_policy.specs.declared.entry.Side.{Side}
use Rattle.and_policy.specs.Egress.{rule_before, deciding_rule}
use Rattle.and_policy.specs.Matching.{better, least, is_side, matches}

ranks : IsStrictWeakOrder rule_before
ranks = record { one_way = λ a b h. grind arith; chain = λ a b c h g. grind arith }

-- none of the list comes before r
behind : (m : Rule → Bool) (r : Rule) (ys : List Rule)
    → ((k : ℕ) (d : Rule) → k < length ys → rule_before (get_or ys k d) r ≡ false)
    → better rule_before r (least rule_before (filter m ys)) ≡ r
behind m r [] h = refl
behind m r (y ∷ ys) h = at_first (m y) (behind m r ys (λ k d l. h (suc k) d (omega arith)))
  where
    at_first : (b : Bool) → better rule_before r (least rule_before (filter m ys)) ≡ r
        → better rule_before r (least rule_before (cond b (y ∷ filter m ys) (filter m ys))) ≡ r
    at_first true ih = better_of (least rule_before (filter m ys)) ih (h 0 r (omega arith))
      where
        better_of : (o : Option Rule) → better rule_before r o ≡ r → rule_before y r ≡ false → better rule_before r (Some (better rule_before y o)) ≡ r
        better_of None ih e = rw e refl
        better_of (Some z) ih e = grind arith
    at_first false ih = ih

-- the rules behind the one at i do not come before it
later : (xs : List Rule) (i : ℕ) (d : Rule) → IsSortedBy rule_before xs → i < length xs
    → (k : ℕ) (e : Rule) → k < length (drop (suc i) xs) → rule_before (get_or (drop (suc i) xs) k e) (get_or xs i d) ≡ false
later xs i d s l k e h =
    let n : k < length xs - suc i = rw (sym (length-drop (suc i) xs)) h in
    let far = sorted_far rule_before ranks xs s i (suc i + k) d (omega arith) (omega arith) in
    let inside : suc i + k < length xs = omega arith in
    rw (get_or-drop (suc i) xs k e, get_or_default xs (suc i + k) e d inside) far

-- the rule at i, which matches, decides of the list from there on
pub decides_at : (side : Side) (x : Tuple) (xs : List Rule) (i : ℕ) (d : Rule) → IsSortedBy rule_before xs → i < length xs
    → is_side (get_or xs i d).side side ≡ true → matches x (get_or xs i d) ≡ true → deciding_rule side x (drop i xs) ≡ Some (get_or xs i d)
decides_at side x xs i d s l e m =
    rw (drop-cons xs i d l, e, m)
    (ap (λ (z : Rule). Some z) (behind (λ y. is_side y.side side && matches x y) (get_or xs i d) (drop (suc i) xs) (later xs i d s l)))
