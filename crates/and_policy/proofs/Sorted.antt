-- The first that matches in the sorted list is the least that matches; and how the sorted list follows an addition and a deletion.
use Rattle.std.proofs.Common.{◌≡◌, ℕ, Bool, true, false, List, [], ◌∷◌, ◌++◌, Some, cond, refl, ap, sym, ◌∙◌, arith}
use Rattle.std.specs.Prelude.{nat_lt, if◌then◌else◌, ◌==◌}
use Rattle.std.specs.List.{find, filter, list_any}
use Rattle.std.proofs.lemmas.Bool.{ltb-true, ltb-false, lt-ltb, le-ltb, ne_eqb, eq-eqb}
use Rattle.and_policy.specs.Matching.{better, least}
use Rattle.and_policy.specs.Once.{Once}
use Rattle.and_policy.specs.Sorting.{IsOrder, place, sorted, AllAfter, Ascends, Differ, smaller_route}
use Rattle.and_policy.proofs.Unique.{not_both, or_both}

apart : (m n : ℕ) → (m == n) ≡ false → m ≡ n → ⊥
apart m n h e = not_both (m == n) (eq-eqb m n e) h

same_eqb : (m n : ℕ) → (m == n) ≡ false → (n == m) ≡ false
same_eqb m n h = ne_eqb n m (λ e. apart m n h (sym e))

module _ {A : Type 0} (before : A → A → Bool) (number : A → ℕ) where
  abbrev Free : A → List A → Type 0
  Free x xs = list_any (λ y. number y == number x) xs ≡ false

  after_place : (w x : A) (ys : List A) → before w x ≡ true → AllAfter before w ys → AllAfter before w (place before x ys)
  after_place w x [] h a = (h, tt)
  after_place w x (y ∷ ys) h a = at_first (before x y) (after_place w x ys h a.1)
    where
      at_first : (b : Bool) → AllAfter before w (place before x ys) → AllAfter before w (if b then x ∷ y ∷ ys else y ∷ place before x ys)
      at_first true ih = (h, a)
      at_first false ih = (a.0, ih)

  after_more : (o : IsOrder before number) (w x : A) (ys : List A) → before w x ≡ true → AllAfter before x ys → AllAfter before w ys
  after_more o w x [] h a = tt
  after_more o w x (y ∷ ys) h a = (o.trans w x y h a.0, after_more o w x ys h a.1)

  -- of different numbers, one comes first
  other : (o : IsOrder before number) (x y : A) → (number y == number x) ≡ false → before x y ≡ false → before y x ≡ true
  other o x y n h = o.total x y (λ e. apart (number y) (number x) n (sym e)) h

  pub ascends_place : (o : IsOrder before number) (x : A) (ys : List A) → Free x ys → Ascends before ys → Ascends before (place before x ys)
  ascends_place o x [] d s = (tt, tt)
  ascends_place o x (y ∷ ys) d s =
      let parts = or_both (number y == number x) (list_any (λ z. number z == number x) ys) d in
      at_first parts.0 (before x y) refl (ascends_place o x ys parts.1 s.1)
    where
      at_first : (number y == number x) ≡ false → (b : Bool) → before x y ≡ b → Ascends before (place before x ys) → Ascends before (if b then x ∷ y ∷ ys else y ∷ place before x ys)
      at_first n true e ih = ((e, after_more o x y ys e s.0), s)
      at_first n false e ih = (after_place y x ys (other o x y n e) s.0, ih)

  free_place : (w x : A) (ys : List A) → (number x == number w) ≡ false → Free w ys → Free w (place before x ys)
  free_place w x [] h a = rw h refl
  free_place w x (y ∷ ys) h a =
      let parts = or_both (number y == number w) (list_any (λ z. number z == number w) ys) a in
      at_first (before x y) parts.0 parts.1 (free_place w x ys h parts.1)
    where
      at_first : (b : Bool) → (number y == number w) ≡ false → Free w ys → Free w (place before x ys) → Free w (if b then x ∷ y ∷ ys else y ∷ place before x ys)
      at_first true e f ih = rw (h, e, f) refl
      at_first false e f ih = rw (e, ih) refl

  pub free_sorted : (w : A) (xs : List A) → Free w xs → Free w (sorted before xs)
  free_sorted w [] a = refl
  free_sorted w (x ∷ xs) a =
      let parts = or_both (number x == number w) (list_any (λ z. number z == number w) xs) a in
      free_place w x (sorted before xs) parts.0 (free_sorted w xs parts.1)

  pub ascends : (o : IsOrder before number) (xs : List A) → Differ number xs → Ascends before (sorted before xs)
  ascends o [] d = tt
  ascends o (x ∷ xs) d = ascends_place o x (sorted before xs) (free_sorted x xs d.0) (ascends o xs d.1)

  -- ---- the first that matches

  pub first_best : (o : IsOrder before number) (m : A → Bool) (x : A) (ys : List A) → AllAfter before x ys → better before x (find m ys) ≡ x
  first_best o m x [] a = refl
  first_best o m x (y ∷ ys) a = at_first (m y) (first_best o m x ys a.1)
    where
      at_first : (b : Bool) → better before x (find m ys) ≡ x → better before x (cond b (Some y) (find m ys)) ≡ x
      at_first true ih = rw (o.asym x y a.0) refl
      at_first false ih = ih

  found : (o : IsOrder before number) (m : A → Bool) (x : A) (ys : List A) (mx : Bool) → m x ≡ mx → Free x ys → Ascends before ys
      → find m (place before x ys) ≡ (if mx then Some (better before x (find m ys)) else find m ys)
  found o m x [] true e d s = rw e refl
  found o m x [] false e d s = rw e refl
  found o m x (y ∷ ys) mx e d s =
      let parts = or_both (number y == number x) (list_any (λ z. number z == number x) ys) d in
      at_first parts.0 (before x y) refl (m y) refl mx e (found o m x ys mx e parts.1 s.1)
    where
      at_first : (number y == number x) ≡ false → (b : Bool) → before x y ≡ b → (c : Bool) → m y ≡ c → (mx : Bool) → m x ≡ mx
          → find m (place before x ys) ≡ (if mx then Some (better before x (find m ys)) else find m ys)
          → find m (if b then x ∷ y ∷ ys else y ∷ place before x ys) ≡ (if mx then Some (better before x (find m (y ∷ ys))) else find m (y ∷ ys))
      at_first n true f c g true e ih = rw e (sym (ap (λ (r : A). Some r) (first_best o m x (y ∷ ys) (f, after_more o x y ys f s.0))))
      at_first n true f c g false e ih = rw e refl
      at_first n false f true g true e ih = rw (g, other o x y n f) refl
      at_first n false f true g false e ih = rw g refl
      at_first n false f false g mx e ih = rw g ih

  -- the first match of the sorted list is the least match of the list
  pub first_is_least : (o : IsOrder before number) (m : A → Bool) (xs : List A) → Differ number xs → find m (sorted before xs) ≡ least before (filter m xs)
  first_is_least o m [] d = refl
  first_is_least o m (x ∷ xs) d = found o m x (sorted before xs) (m x) refl (free_sorted x xs d.0) (ascends o xs d.1) ∙ at_first (m x) (first_is_least o m xs d.1)
    where
      at_first : (b : Bool) → find m (sorted before xs) ≡ least before (filter m xs)
          → (if b then Some (better before x (find m (sorted before xs))) else find m (sorted before xs)) ≡ least before (cond b (x ∷ filter m xs) (filter m xs))
      at_first true h = rw h refl
      at_first false h = h

  -- ---- additions and deletions

  not_before : (o : IsOrder before number) (x y r : A) → before x y ≡ true → before r y ≡ false → before r x ≡ false
  not_before o x y r h g = by_value (before r x) refl
    where
      by_value : (b : Bool) → before r x ≡ b → before r x ≡ false
      by_value true e = absurd (not_both (before r y) (o.trans r x y e h) g)
      by_value false e = e

  swap : (o : IsOrder before number) (x r : A) (ys : List A) → (number x == number r) ≡ false → place before x (place before r ys) ≡ place before r (place before x ys)
  swap o x r [] ne = at_first (before x r) refl
    where
      at_first : (b : Bool) → before x r ≡ b → place before x (r ∷ []) ≡ place before r (x ∷ [])
      at_first true e = rw (e, o.asym x r e) refl
      at_first false e = rw (e, other o x r (same_eqb (number x) (number r) ne) e) refl
  swap o x r (y ∷ ys) ne = at_first (before x y) refl (before r y) refl (before x r) refl (swap o x r ys ne)
    where
      at_first : (a : Bool) → before x y ≡ a → (b : Bool) → before r y ≡ b → (c : Bool) → before x r ≡ c → place before x (place before r ys) ≡ place before r (place before x ys)
          → place before x (place before r (y ∷ ys)) ≡ place before r (place before x (y ∷ ys))
      at_first true f true g true e ih = rw (f, g, e, o.asym x r e) refl
      at_first true f true g false e ih = rw (f, g, e, other o x r (same_eqb (number x) (number r) ne) e, f) refl
      at_first true f false g c e ih = rw (g, f, not_before o x y r f g, g) refl
      at_first false f true g c e ih = rw (g, f, not_before o r y x g f, g) refl
      at_first false f false g c e ih = rw (f, g, f, ih) refl

  -- an addition at the end
  pub sorted_more : (o : IsOrder before number) (xs : List A) (r : A) → Free r xs → sorted before (xs ++ r ∷ []) ≡ place before r (sorted before xs)
  sorted_more o [] r d = refl
  sorted_more o (x ∷ xs) r d =
      let parts = or_both (number x == number r) (list_any (λ z. number z == number r) xs) d in
      rw (sorted_more o xs r parts.1) (swap o x r (sorted before xs) parts.0)

  after_filter : (w : A) (g : A → Bool) (ys : List A) → AllAfter before w ys → AllAfter before w (filter g ys)
  after_filter w g [] a = tt
  after_filter w g (y ∷ ys) a = at_first (g y) (after_filter w g ys a.1)
    where
      at_first : (b : Bool) → AllAfter before w (filter g ys) → AllAfter before w (cond b (y ∷ filter g ys) (filter g ys))
      at_first true h = (a.0, h)
      at_first false h = h

  place_first : (x : A) (ys : List A) → AllAfter before x ys → place before x ys ≡ x ∷ ys
  place_first x [] a = refl
  place_first x (y ∷ ys) a = rw a.0 refl

  filter_in : (o : IsOrder before number) (g : A → Bool) (x : A) (ys : List A) → g x ≡ true → Ascends before ys → filter g (place before x ys) ≡ place before x (filter g ys)
  filter_in o g x [] h s = rw h refl
  filter_in o g x (y ∷ ys) h s = at_first (before x y) refl (g y) refl (filter_in o g x ys h s.1)
    where
      at_first : (b : Bool) → before x y ≡ b → (c : Bool) → g y ≡ c → filter g (place before x ys) ≡ place before x (filter g ys)
          → filter g (if b then x ∷ y ∷ ys else y ∷ place before x ys) ≡ place before x (filter g (y ∷ ys))
      at_first true e c f ih = rw h (sym (place_first x (filter g (y ∷ ys)) (after_filter x g (y ∷ ys) (e, after_more o x y ys e s.0))))
      at_first false e true f ih = rw (f, e, ih) refl
      at_first false e false f ih = rw (f, ih) refl

  filter_out : (g : A → Bool) (x : A) (ys : List A) → g x ≡ false → filter g (place before x ys) ≡ filter g ys
  filter_out g x [] h = rw h refl
  filter_out g x (y ∷ ys) h = at_first (before x y) (filter_out g x ys h)
    where
      at_first : (b : Bool) → filter g (place before x ys) ≡ filter g ys → filter g (if b then x ∷ y ∷ ys else y ∷ place before x ys) ≡ filter g (y ∷ ys)
      at_first true ih = rw h refl
      at_first false ih = rw ih refl

  -- a deletion
  pub sorted_filter : (o : IsOrder before number) (g : A → Bool) (xs : List A) → Differ number xs → sorted before (filter g xs) ≡ filter g (sorted before xs)
  sorted_filter o g [] d = refl
  sorted_filter o g (x ∷ xs) d = at_first (g x) refl (sorted_filter o g xs d.1)
    where
      at_first : (b : Bool) → g x ≡ b → sorted before (filter g xs) ≡ filter g (sorted before xs) → sorted before (cond b (x ∷ filter g xs) (filter g xs)) ≡ filter g (place before x (sorted before xs))
      at_first true e ih = rw ih (sym (filter_in o g x (sorted before xs) e (ascends o xs d.1)))
      at_first false e ih = ih ∙ sym (filter_out g x (sorted before xs) e)

  -- ---- numbers

  pub differ : (xs : List A) → ((n : ℕ) → Once (λ x. number x == n) xs) → Differ number xs
  differ [] o = tt
  differ (x ∷ xs) o = ((o (number x)).0 (eq-eqb (number x) (number x) refl), differ xs (λ n. (o n).1))

-- ---- the orders of rules and of routes

lt_not : (m n : ℕ) → nat_lt m n ≡ true → nat_lt n m ≡ false
lt_not m n h = le-ltb n m (omega (arith, ltb-true m n h))

pub route_order : IsOrder smaller_route (λ r. r.number)
route_order = record {
  asym = λ x y h. lt_not x.number y.number h;
  trans = λ x y z h g. lt-ltb x.number z.number (omega (arith, ltb-true x.number y.number h, ltb-true y.number z.number g));
  total = λ x y n h. lt-ltb y.number x.number (omega (arith, ltb-false x.number y.number h, n));
}
