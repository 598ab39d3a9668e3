-- Lists of parts: one part looked at, one changed, one more.
use Rattle.std.proofs.Common.{◌≡◌, ℕ, ◌+◌, ◌<◌, ◌≤◌, List, [], ◌∷◌, ◌++◌, length, get_or, set, refl, sym, ap, ◌∙◌, subst, arith, Some, ⊎_elim}
use Rattle.std.proofs.lemmas.Bool.{cases_eq, cases_lt}
use Rattle.std.proofs.lemmas.List.{length-append, length-set, get_or-set_same, get_or-set_other, get_or_append_left}
use Rattle.std.proofs.lemmas.Option.{slice_get-get_or, slice_get_within, get_or_from_slice_get}
use Rattle.std.proofs.Math.Seq.{get_or-append_seam}
use Rattle.and_replay.specs.Rows.{AreAt}

module _ {A : Type 0} (P : ℕ → A → Type 0) where
  pub none_at : AreAt P 0 []
  none_at = record { many = refl; each = λ n x there. absurd (omega (arith, slice_get_within [] n x there)) }

  -- the part at a place
  pub part_at : (count : ℕ) (xs : List A) → AreAt P count xs → (n : ℕ) (d : A) → n < count → P n (get_or xs n d)
  part_at count xs all n d l = all.each n (get_or xs n d) (slice_get-get_or xs n d (omega (arith, l, all.many)))

  -- one more at the end
  pub pushed : (count : ℕ) (xs : List A) (y : A) → AreAt P count xs → P count y → AreAt P (count + 1) (xs ++ y ∷ [])
  pushed count xs y all is = record {
    many = omega (arith, length-append xs (y ∷ []), all.many);
    each = λ n x there.
        let here : get_or (xs ++ y ∷ []) n x ≡ x = get_or_from_slice_get (xs ++ y ∷ []) n x x there in
        let most : n < length (xs ++ y ∷ []) = slice_get_within (xs ++ y ∷ []) n x there in
        ⊎_elim
        (λ (l : n < length xs).
        let old : get_or xs n x ≡ x = sym (get_or_append_left xs (y ∷ []) x n l) ∙ here in
        all.each n x (slice_get-get_or xs n x l ∙ ap Some old))
        (λ (l : length xs ≤ n).
        let last : n ≡ length xs = omega (arith, l, most, length-append xs (y ∷ [])) in
        let same : y ≡ x = sym (get_or-append_seam xs y [] x) ∙ (ap (λ k. get_or (xs ++ y ∷ []) k x) (sym last) ∙ here) in
        let there_is : count ≡ n = omega (arith, last, all.many) in
        subst (λ z. P n z) same (subst (λ k. P k y) there_is is))
        (cases_lt n (length xs));
  }

  module _ (Q : ℕ → A → Type 0) where
    -- all change
    pub mapped : (count : ℕ) (xs : List A) → AreAt P count xs → ((n : ℕ) (x : A) → n < count → P n x → Q n x) → AreAt Q count xs
    mapped count xs all step = record {
      many = all.many;
      each = λ n x there. step n x (omega (arith, slice_get_within xs n x there, all.many)) (all.each n x there);
    }

    -- one is replaced
    pub replaced : (count : ℕ) (xs : List A) (i : ℕ) (y : A) → AreAt P count xs → Q i y → ((n : ℕ) (x : A) → n < count → (n ≡ i → ⊥) → P n x → Q n x) → AreAt Q count (set xs i y)
    replaced count xs i y all is step = record {
      many = length-set xs i y ∙ all.many;
      each = λ n x there.
          let here : get_or (set xs i y) n x ≡ x = get_or_from_slice_get (set xs i y) n x x there in
          let most : n < length xs = omega (arith, slice_get_within (set xs i y) n x there, length-set xs i y) in
          ⊎_elim
          (λ (same : n ≡ i).
          let it : y ≡ x = sym (get_or-set_same xs i y x (omega (arith, same, most))) ∙ (ap (λ k. get_or (set xs i y) k x) (sym same) ∙ here) in
          subst (λ z. Q n z) it (subst (λ k. Q k y) (sym same) is))
          (λ (other : n ≡ i → ⊥).
          let old : get_or xs n x ≡ x = sym (get_or-set_other xs i n y x other) ∙ here in
          step n x (omega (arith, most, all.many)) other (all.each n x (slice_get-get_or xs n x most ∙ ap Some old)))
          (cases_eq n i);
    }
