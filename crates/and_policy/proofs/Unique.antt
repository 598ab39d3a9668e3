-- What is found in a list in which at most one element meets a test, after an addition and after a removal.
use Rattle.std.proofs.Common.{◌≡◌, ◌+◌, Bool, true, false, ◌||◌, not, List, [], ◌∷◌, ◌++◌, length, Option, Some, None, cond, refl, ap, sym, ◌∙◌, arith}
use Rattle.std.specs.Prelude.{option_map}
use Rattle.std.specs.List.{list_any, find, filter}
use Rattle.std.proofs.lemmas.Bool.{false≢true}
use Rattle.and_policy.specs.Once.{Once}

pub or_both : (a b : Bool) → (a || b) ≡ false → (a ≡ false) × (b ≡ false)
or_both true b h = absurd (cc)
or_both false b h = (refl, h)

or_none : (a b : Bool) → a ≡ false → b ≡ false → (a || b) ≡ false
or_none true b h g = h
or_none false b h g = g

pub not_both : (b : Bool) → b ≡ true → b ≡ false → ⊥
not_both b h g = false≢true (sym g ∙ h)

module _ {A : Type 0} where
  some_is : (x y : A) → Some x ≡ Some y → x ≡ y
  some_is x y h = cc h

  pub none_found : (p : A → Bool) (xs : List A) → list_any p xs ≡ false → find p xs ≡ None
  none_found p [] h = refl
  none_found p (x ∷ xs) h =
      let (here, later) = or_both (p x) (list_any p xs) h in
      rw here (none_found p xs later)

  pub found_meets : (p : A → Bool) (xs : List A) (x : A) → find p xs ≡ Some x → p x ≡ true
  found_meets p [] x h = absurd (cc)
  found_meets p (y ∷ ys) x h = at_first (p y) refl h (found_meets p ys x)
    where
      at_first : (b : Bool) → p y ≡ b → cond b (Some y) (find p ys) ≡ Some x → (find p ys ≡ Some x → p x ≡ true) → p x ≡ true
      at_first true e f ih = ap p (sym (some_is y x f)) ∙ e
      at_first false e f ih = ih f

  -- what is found is among the elements
  pub found_among : (p q : A → Bool) (xs : List A) (x : A) → find p xs ≡ Some x → list_any q xs ≡ false → q x ≡ false
  found_among p q [] x h g = absurd (cc)
  found_among p q (y ∷ ys) x h g = at_first (p y) h (or_both (q y) (list_any q ys) g) (λ f. found_among p q ys x f)
    where
      at_first : (b : Bool) → cond b (Some y) (find p ys) ≡ Some x → (q y ≡ false) × (list_any q ys ≡ false) → (find p ys ≡ Some x → list_any q ys ≡ false → q x ≡ false) → q x ≡ false
      at_first true f parts ih = ap q (sym (some_is y x f)) ∙ parts.0
      at_first false f parts ih = ih f parts.1

  pub any_is_found : (p : A → Bool) (xs : List A) → list_any p xs ≡ true → find p xs ≡ None → ⊥
  any_is_found p [] a n = absurd (cc)
  any_is_found p (x ∷ xs) a n = at_first (p x) n a (any_is_found p xs)
    where
      at_first : (b : Bool) → cond b (Some x) (find p xs) ≡ None → (b || list_any p xs) ≡ true → (list_any p xs ≡ true → find p xs ≡ None → ⊥) → ⊥
      at_first true f g ih = absurd (cc)
      at_first false f g ih = ih g f

  none_without : (p g : A → Bool) (xs : List A) → list_any p xs ≡ false → list_any p (filter g xs) ≡ false
  none_without p g [] h = refl
  none_without p g (x ∷ xs) h =
      let parts = or_both (p x) (list_any p xs) h in
      at_first (g x) parts.0 (none_without p g xs parts.1)
    where
      at_first : (b : Bool) → p x ≡ false → list_any p (filter g xs) ≡ false → list_any p (cond b (x ∷ filter g xs) (filter g xs)) ≡ false
      at_first true e ih = or_none (p x) _ e ih
      at_first false e ih = ih

  -- ---- at most one

  pub once_filter : (p g : A → Bool) (xs : List A) → Once p xs → Once p (filter g xs)
  once_filter p g [] o = tt
  once_filter p g (x ∷ xs) o = at_first (g x) (once_filter p g xs o.1)
    where
      at_first : (b : Bool) → Once p (filter g xs) → Once p (cond b (x ∷ filter g xs) (filter g xs))
      at_first true ih = (λ e. none_without p g xs (o.0 e), ih)
      at_first false ih = ih

  any_last : (p : A → Bool) (xs : List A) (v : A) → list_any p xs ≡ false → p v ≡ false → list_any p (xs ++ v ∷ []) ≡ false
  any_last p [] v h e = or_none (p v) false e refl
  any_last p (x ∷ xs) v h e =
      let (here, later) = or_both (p x) (list_any p xs) h in
      or_none (p x) _ here (any_last p xs v later e)

  pub once_last : (p : A → Bool) (xs : List A) (v : A) → Once p xs → (p v ≡ true → list_any p xs ≡ false) → Once p (xs ++ v ∷ [])
  once_last p [] v o f = ((λ e. refl), tt)
  once_last p (x ∷ xs) v o f = at_value (p v) refl (once_last p xs v o.1)
    where
      at_value : (b : Bool) → p v ≡ b → ((p v ≡ true → list_any p xs ≡ false) → Once p (xs ++ v ∷ [])) → Once p (x ∷ (xs ++ v ∷ []))
      at_value true e ih =
          let none = or_both (p x) (list_any p xs) (f e) in
          (λ h. absurd (not_both (p x) h none.0), ih (λ g. none.1))
      at_value false e ih = (λ h. any_last p xs v (o.0 h) e, ih (λ g. absurd (not_both (p v) g e)))

  -- ---- removal of the one that meets `out`

  untouched : (out : A → Bool) (xs : List A) → list_any out xs ≡ false → filter (λ x. not (out x)) xs ≡ xs
  untouched out [] h = refl
  untouched out (x ∷ xs) h =
      let (here, later) = or_both (out x) (list_any out xs) h in
      rw here (ap (λ ys. x ∷ ys) (untouched out xs later))

  gone_key : (out p : A → Bool) (xs : List A) (v : A) → find out xs ≡ Some v → p v ≡ true → Once p xs → list_any p (filter (λ x. not (out x)) xs) ≡ false
  gone_key out p [] v h e o = absurd (cc)
  gone_key out p (x ∷ xs) v h e o = at_first (out x) h (p x) refl (λ g. gone_key out p xs v g e o.1)
    where
      at_first : (b : Bool) → cond b (Some x) (find out xs) ≡ Some v → (c : Bool) → p x ≡ c → (find out xs ≡ Some v → list_any p (filter (λ y. not (out y)) xs) ≡ false)
          → list_any p (cond (not b) (x ∷ filter (λ y. not (out y)) xs) (filter (λ y. not (out y)) xs)) ≡ false
      at_first true g c d ih = none_without p (λ y. not (out y)) xs (o.0 (ap p (some_is x v g) ∙ e))
      at_first false g true d ih = absurd (not_both (p v) e (found_among out p xs v g (o.0 d)))
      at_first false g false d ih = or_none (p x) _ d (ih g)

  kept_key : (out p : A → Bool) (xs : List A) (v : A) → find out xs ≡ Some v → p v ≡ false → Once out xs → find p (filter (λ x. not (out x)) xs) ≡ find p xs
  kept_key out p [] v h e o = absurd (cc)
  kept_key out p (x ∷ xs) v h e o = at_first (out x) refl h (λ g. kept_key out p xs v g e o.1)
    where
      at_first : (b : Bool) → out x ≡ b → cond b (Some x) (find out xs) ≡ Some v → (find out xs ≡ Some v → find p (filter (λ y. not (out y)) xs) ≡ find p xs)
          → find p (cond (not b) (x ∷ filter (λ y. not (out y)) xs) (filter (λ y. not (out y)) xs)) ≡ cond (p x) (Some x) (find p xs)
      at_first true f g ih =
          let no : p x ≡ false = ap p (some_is x v g) ∙ e in
          rw (no, untouched out xs (o.0 f)) refl
      at_first false f g ih = ap (λ r. cond (p x) (Some x) r) (ih g)

  pub length_without : (out : A → Bool) (xs : List A) → list_any out xs ≡ true → Once out xs → length (filter (λ x. not (out x)) xs) + 1 ≡ length xs
  length_without out [] h o = absurd (cc)
  length_without out (x ∷ xs) h o = at_first (out x) refl h (λ g. length_without out xs g o.1)
    where
      at_first : (b : Bool) → out x ≡ b → (b || list_any out xs) ≡ true → (list_any out xs ≡ true → length (filter (λ y. not (out y)) xs) + 1 ≡ length xs)
          → length (cond (not b) (x ∷ filter (λ y. not (out y)) xs) (filter (λ y. not (out y)) xs)) + 1 ≡ length (x ∷ xs)
      at_first true f g ih = rw (untouched out xs (o.0 f)) (omega arith)
      at_first false f g ih = let h = ih g in omega (arith, h)

  pub any_without : (out p : A → Bool) (xs : List A) → ((x : A) → out x ≡ true → p x ≡ false) → list_any p (filter (λ x. not (out x)) xs) ≡ list_any p xs
  any_without out p [] f = refl
  any_without out p (x ∷ xs) f = at_first (out x) refl (any_without out p xs f)
    where
      at_first : (b : Bool) → out x ≡ b → list_any p (filter (λ y. not (out y)) xs) ≡ list_any p xs
          → list_any p (cond (not b) (x ∷ filter (λ y. not (out y)) xs) (filter (λ y. not (out y)) xs)) ≡ (p x || list_any p xs)
      at_first true e ih = rw (f x e) ih
      at_first false e ih = ap (λ b. p x || b) ih

  pub none_left : (out : A → Bool) (xs : List A) → list_any out (filter (λ x. not (out x)) xs) ≡ false
  none_left out [] = refl
  none_left out (x ∷ xs) = at_first (out x) refl (none_left out xs)
    where
      at_first : (b : Bool) → out x ≡ b → list_any out (filter (λ y. not (out y)) xs) ≡ false
          → list_any out (cond (not b) (x ∷ filter (λ y. not (out y)) xs) (filter (λ y. not (out y)) xs)) ≡ false
      at_first true e ih = ih
      at_first false e ih = or_none (out x) _ e ih

-- ---- tables by a key

not_here : {B : Type 0} (here b : Bool) (x y old new : Option B) → (here ≡ true → b ≡ false) → b ≡ true → old ≡ x → new ≡ cond here y old → new ≡ x
not_here true b x y old new g d h k = absurd (not_both b d (g refl))
not_here false b x y old new g d h k = k ∙ h

module _ {A B : Type 0} (f : A → B) (p : A → Bool) where
  -- after an addition of v, of which `here` says whether it has the key
  pub found_more : (xs : List A) (v : A) (here : Bool) (old new : Option B) → p v ≡ here → (here ≡ true → list_any p xs ≡ false)
      → old ≡ option_map f (find p xs) → new ≡ cond here (Some (f v)) old → new ≡ option_map f (find p (xs ++ v ∷ []))
  found_more [] v true old new e g a b = rw e b
  found_more [] v false old new e g a b = rw e (b ∙ a)
  found_more (x ∷ xs) v here old new e g a b =
      at_first (p x) refl a (λ h. found_more xs v here old new e (λ i. (or_both (p x) (list_any p xs) (g i)).1) h b)
    where
      at_first : (c : Bool) → p x ≡ c → old ≡ option_map f (cond c (Some x) (find p xs)) → (old ≡ option_map f (find p xs) → new ≡ option_map f (find p (xs ++ v ∷ [])))
          → new ≡ option_map f (cond c (Some x) (find p (xs ++ v ∷ [])))
      at_first true d h ih = not_here here (p x) (Some (f x)) (Some (f v)) old new (λ i. (or_both (p x) (list_any p xs) (g i)).0) d h b
      at_first false d h ih = ih h

  -- after the removal of v, the one that meets `out`
  pub found_less : (out : A → Bool) (xs : List A) (v : A) (here : Bool) (old new : Option B) → find out xs ≡ Some v → p v ≡ here → Once out xs → Once p xs
      → old ≡ option_map f (find p xs) → new ≡ cond here None old → new ≡ option_map f (find p (filter (λ x. not (out x)) xs))
  found_less out xs v true old new is e o q a b = rw (none_found p (filter (λ x. not (out x)) xs) (gone_key out p xs v is e q)) b
  found_less out xs v false old new is e o q a b = rw (kept_key out p xs v is e o) (b ∙ a)
