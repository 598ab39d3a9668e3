-- The first hairpin to end.
use Rattle.std.proofs.Common.{◌≡◌, ℕ, zero, suc, ◌<◌, ◌≤◌, Bool, true, false, List, [], ◌∷◌, length, get_or, refl, sym, ◌∙◌, subst, inl, inr, arith, Some}
use Rattle.std.proofs.lemmas.Bool.{eq-eqb, false≢true, le-ltb, lt-ltb}
use Rattle.and_pins.specs.declared.pin.Pin.{Pin}
use Rattle.and_policy.specs.Sorting.{AllAfter, Ascends}
use Rattle.and_events.specs.Legal.{Before}
use Rattle.and_pins.specs.Pinned.{IsFirst, IsFirstPlace, NoneIsRipe, entry_at, is_of, pin_before, place_before}
use Rattle.and_pins.proofs.Ordering.{after_at, apart, itself, of_host, of_vm, one_way, own}
use Rattle.and_pins.proofs.Changes.{found, passed}

before_test : (h v h' v' : ℕ) → Before h v h' v' → place_before h v h' v' ≡ true
before_test h v h' v' (inl l) = rw (lt-ltb h h' l) refl
before_test h v h' v' (inr s) = rw (le-ltb h h' (omega (arith, s.0)), eq-eqb h h' s.0, lt-ltb v v' s.1) refl

not_both_ways : (h v h' v' : ℕ) → Before h v h' v' → place_before h' v' h v ≡ true → ⊥
not_both_ways h v h' v' b l = false≢true (sym (one_way h' v' h v l) ∙ before_test h v h' v' b)

not_itself : (h v : ℕ) → Before h v h v → ⊥
not_itself h v b = false≢true (sym (itself h v) ∙ before_test h v h v b)

same_entry : (a b : ℕ) → Some a ≡ Some b → a ≡ b
same_entry a b e = cc

-- what stands behind a hairpin comes after it
comes_after : (p : Pin) (ps : List Pin) (h v e : ℕ) → AllAfter pin_before p ps → entry_at ps h v ≡ Some e → place_before p.host p.vm h v ≡ true
comes_after p [] h v e s is = absurd (cc)
comes_after p (q ∷ qs) h v e s is = by_test (is_of h v q) refl (comes_after p qs h v e s.1)
  where
    by_test : (b : Bool) → is_of h v q ≡ b → (entry_at qs h v ≡ Some e → place_before p.host p.vm h v ≡ true) → place_before p.host p.vm h v ≡ true
    by_test true t ih =
        subst (λ (x : ℕ). place_before p.host p.vm x v ≡ true) (of_host h v q t) (subst (λ (y : ℕ). place_before p.host p.vm q.host y ≡ true) (of_vm h v q t) s.0)
    by_test false t ih = ih (sym (passed h v q qs t) ∙ is)

tail_first : (p : Pin) (ps : List Pin) (least at : ℕ) → IsFirstPlace (p ∷ ps) least (suc at) → IsFirstPlace ps least at
tail_first p ps least at place = record {
  within = omega (arith, place.within);
  unripe = λ j d k. place.unripe (suc j) d (omega (arith, k));
  ripe = λ d k. place.ripe d (omega (arith, k));
}

head_unripe : (p : Pin) (ps : List Pin) (least at : ℕ) → IsFirstPlace (p ∷ ps) least (suc at) → least < p.entry
head_unripe p ps least at place = place.unripe 0 p (omega arith)

pub first_is : (ps : List Pin) (least at : ℕ) (d : Pin) → Ascends pin_before ps → IsFirstPlace ps least at → at < length ps → IsFirst ps least (get_or ps at d).host (get_or ps at d).vm
first_is [] least at d s place k = absurd (omega (arith, k))
first_is (p ∷ ps) least zero d s place k = record {
  entry = p.entry;
  stands = found p.host p.vm p ps (own p.host p.vm p refl refl);
  ripe = place.ripe p (omega arith);
  first = λ h v e is r b. by_test h v e is b (is_of h v p) refl;
}
  where
    by_test : (h v e : ℕ) → entry_at (p ∷ ps) h v ≡ Some e → Before h v p.host p.vm → (b : Bool) → is_of h v p ≡ b → ⊥
    by_test h v e is b true t = not_itself h v (subst (λ (x : ℕ). Before h v x v) (of_host h v p t) (subst (λ (y : ℕ). Before h v p.host y) (of_vm h v p t) b))
    by_test h v e is b false t = not_both_ways h v p.host p.vm b (comes_after p ps h v e s.0 (sym (passed h v p ps t) ∙ is))
first_is (p ∷ ps) least (suc at) d s place k = later (first_is ps least at d s.1 (tail_first p ps least at place) (omega (arith, k)))
  where
    later : IsFirst ps least (get_or ps at d).host (get_or ps at d).vm → IsFirst (p ∷ ps) least (get_or ps at d).host (get_or ps at d).vm
    later f = record {
      entry = f.entry;
      stands = passed (get_or ps at d).host (get_or ps at d).vm p ps (apart (get_or ps at d).host (get_or ps at d).vm p (after_at p ps at d s.0 (omega (arith, k)))) ∙ f.stands;
      ripe = f.ripe;
      first = λ h v e is r b. by_test h v e is r b (is_of h v p) refl;
    }
      where
        by_test : (h v e : ℕ) → entry_at (p ∷ ps) h v ≡ Some e → e ≤ least → Before h v (get_or ps at d).host (get_or ps at d).vm → (b : Bool) → is_of h v p ≡ b → ⊥
        by_test h v e is r b true t =
            let same : p.entry ≡ e = same_entry p.entry e (sym (found h v p ps t) ∙ is) in
            let l = head_unripe p ps least at place in
            absurd (omega (arith, same, l, r))
        by_test h v e is r b false t = f.first h v e (sym (passed h v p ps t) ∙ is) r b

pub none_is : (ps : List Pin) (least at : ℕ) → IsFirstPlace ps least at → length ps ≤ at → NoneIsRipe ps least
none_is [] least at place k h v e is r = absurd (cc)
none_is (p ∷ ps) least zero place k h v e is r = absurd (omega (arith, k))
none_is (p ∷ ps) least (suc at) place k h v e is r = by_test (is_of h v p) refl (none_is ps least at (tail_first p ps least at place) (omega (arith, k)))
  where
    by_test : (b : Bool) → is_of h v p ≡ b → NoneIsRipe ps least → ⊥
    by_test true t ih =
        let same : p.entry ≡ e = same_entry p.entry e (sym (found h v p ps t) ∙ is) in
        let l = head_unripe p ps least at place in
        absurd (omega (arith, same, l, r))
    by_test false t ih = ih h v e (sym (passed h v p ps t) ∙ is) r
