-- Hairpins with one more, and without some.
use Rattle.std.proofs.Common.{◌≡◌, ◌≢◌, ℕ, zero, suc, ◌<◌, Bool, true, false, List, [], ◌∷◌, length, get_or, set, cond, refl, ap, sym, ◌∙◌, subst, arith, Option, Some, None}
use Rattle.std.specs.Prelude.{if◌then◌else◌, ◌==◌, not}
use Rattle.std.specs.List.{filter, insert, remove}
use Rattle.std.proofs.lemmas.Bool.{eq-eqb, eqb-true}
use Rattle.and_pins.specs.declared.pin.Pin.{Pin}
use Rattle.and_policy.specs.Sorting.{AllAfter, Ascends}
use Rattle.and_pins.specs.Pinned.{ChangesAt, IsPlace, entry_at, is_of, pin_before, place_before}
use Rattle.and_pins.proofs.Ordering.{after_more, apart, apart_behind, behind, head_before, not_own, of_host, of_vm, own, tail_place}

-- ---- what stands where

-- a hairpin that is not that of the VM at the host is passed
pub passed : (h v : ℕ) (p : Pin) (ps : List Pin) → is_of h v p ≡ false → entry_at (p ∷ ps) h v ≡ entry_at ps h v
passed h v p ps e = rw e refl

pub found : (h v : ℕ) (p : Pin) (ps : List Pin) → is_of h v p ≡ true → entry_at (p ∷ ps) h v ≡ Some p.entry
found h v p ps e = rw e refl

-- a place, as a hairpin
abbrev pub mark : ℕ → ℕ → Pin
mark h v = record { host = h; vm = v; entry = 0 }

-- where all stand behind a place, none stands there
pub none_behind : (h v : ℕ) (ps : List Pin) → AllAfter pin_before (mark h v) ps → entry_at ps h v ≡ None
none_behind h v [] s = refl
none_behind h v (p ∷ ps) s = passed h v p ps (apart_behind h v p s.0) ∙ none_behind h v ps s.1

pub after_same : (a b : Pin) (ps : List Pin) → a.host ≡ b.host → a.vm ≡ b.vm → AllAfter pin_before a ps → AllAfter pin_before b ps
after_same a b [] e f s = tt
after_same a b (p ∷ ps) e f s =
    (subst (λ (x : ℕ). place_before x b.vm p.host p.vm ≡ true) e (subst (λ (x : ℕ). place_before a.host x p.host p.vm ≡ true) f s.0), after_same a b ps e f s.1)

-- ---- one change

-- a change at one place, after which what stood before stands before
record Changed (old new : List Pin) (h v : ℕ) (entry : Option ℕ) : Type 0 where
  changes : ChangesAt old new h v entry
  after : (w : Pin) → place_before w.host w.vm h v ≡ true → AllAfter pin_before w old → AllAfter pin_before w new

changed_behind : (q : Pin) (old new : List Pin) (h v : ℕ) (entry : Option ℕ) → place_before q.host q.vm h v ≡ true → AllAfter pin_before q old → Changed old new h v entry → Changed (q ∷ old) (q ∷ new) h v entry
changed_behind q old new h v entry l s c = record {
  changes = record {
    ascend = (c.after q l s, c.changes.ascend);
    here = passed h v q new (apart h v q l) ∙ c.changes.here;
    elsewhere = λ h' v' n. ap (λ (x : Option ℕ). if is_of h' v' q then Some q.entry else x) (c.changes.elsewhere h' v' n);
  };
  after = λ w k a. (a.0, c.after w k a.1);
}

-- a hairpin in front
changed_front : (p : Pin) (ps : List Pin) → AllAfter pin_before p ps → Ascends pin_before ps → Changed ps (p ∷ ps) p.host p.vm (Some p.entry)
changed_front p ps l s = record {
  changes = record {
    ascend = (l, s);
    here = found p.host p.vm p ps (own p.host p.vm p refl refl);
    elsewhere = λ h v n. passed h v p ps (not_own h v p (λ e f. n (sym e) (sym f)));
  };
  after = λ w k a. (k, a);
}

changed_insert : (p : Pin) (ps : List Pin) (at : ℕ) → Ascends pin_before ps → IsPlace p.host p.vm ps at → ((d : Pin) → at < length ps → is_of p.host p.vm (get_or ps at d) ≡ false)
    → Changed ps (insert ps at p) p.host p.vm (Some p.entry)
changed_insert p [] zero s place none = changed_front p [] tt tt
changed_insert p [] (suc at) s place none = absurd (let k = place.within in omega (arith, k))
changed_insert p (q ∷ qs) zero s place none =
    let l = behind p.host p.vm q (none q (omega arith)) (place.not_before q (omega arith)) in
    changed_front p (q ∷ qs) (l, after_more p q qs l s.0) s
changed_insert p (q ∷ qs) (suc at) s place none =
    changed_behind q qs (insert qs at p) p.host p.vm (Some p.entry) (head_before p.host p.vm q qs at place) s.0
    (changed_insert p qs at s.1 (tail_place p.host p.vm q qs at place) (λ d k. none d (omega (arith, k))))

changed_set : (p : Pin) (ps : List Pin) (at : ℕ) → Ascends pin_before ps → IsPlace p.host p.vm ps at → at < length ps → ((d : Pin) → is_of p.host p.vm (get_or ps at d) ≡ true)
    → Changed ps (set ps at p) p.host p.vm (Some p.entry)
changed_set p [] at s place k there = absurd (omega (arith, k))
changed_set p (q ∷ qs) zero s place k there =
    let e = of_host p.host p.vm q (there q) in
    let f = of_vm p.host p.vm q (there q) in
    record {
      changes = record {
        ascend = (after_same q p qs e f s.0, s.1);
        here = found p.host p.vm p qs (own p.host p.vm p refl refl);
        elsewhere = λ h v n. passed h v p qs (not_own h v p (λ a b. n (sym a) (sym b))) ∙ sym (passed h v q qs (not_own h v q (λ a b. n (sym a ∙ e) (sym b ∙ f))));
      };
      after = λ w l a. (l, a.1);
    }
changed_set p (q ∷ qs) (suc at) s place k there =
    changed_behind q qs (set qs at p) p.host p.vm (Some p.entry) (head_before p.host p.vm q qs at place) s.0
    (changed_set p qs at s.1 (tail_place p.host p.vm q qs at place) (omega (arith, k)) there)

changed_remove : (h v : ℕ) (ps : List Pin) (at : ℕ) → Ascends pin_before ps → IsPlace h v ps at → at < length ps → ((d : Pin) → is_of h v (get_or ps at d) ≡ true) → Changed ps (remove ps at) h v None
changed_remove h v [] at s place k there = absurd (omega (arith, k))
changed_remove h v (q ∷ qs) zero s place k there =
    let e = of_host h v q (there q) in
    let f = of_vm h v q (there q) in
    record {
      changes = record {
        ascend = s.1;
        here = none_behind h v qs (after_same q (mark h v) qs e f s.0);
        elsewhere = λ h' v' n. sym (passed h' v' q qs (not_own h' v' q (λ a b. n (sym a ∙ e) (sym b ∙ f))));
      };
      after = λ w l a. a.1;
    }
changed_remove h v (q ∷ qs) (suc at) s place k there =
    changed_behind q qs (remove qs at) h v None (head_before h v q qs at place) s.0 (changed_remove h v qs at s.1 (tail_place h v q qs at place) (omega (arith, k)) there)

none_there : (h v : ℕ) (ps : List Pin) (at : ℕ) → Ascends pin_before ps → IsPlace h v ps at → ((d : Pin) → at < length ps → is_of h v (get_or ps at d) ≡ false) → entry_at ps h v ≡ None
none_there h v [] at s place none = refl
none_there h v (q ∷ qs) zero s place none =
    let l = behind h v q (none q (omega arith)) (place.not_before q (omega arith)) in
    none_behind h v (q ∷ qs) (l, after_more (mark h v) q qs l s.0)
none_there h v (q ∷ qs) (suc at) s place none =
    passed h v q qs (apart h v q (head_before h v q qs at place)) ∙ none_there h v qs at s.1 (tail_place h v q qs at place) (λ d k. none d (omega (arith, k)))

-- ---- the changes of the code

pub put_new : (p : Pin) (ps : List Pin) (at : ℕ) → Ascends pin_before ps → IsPlace p.host p.vm ps at → (at < length ps → (d : Pin) → is_of p.host p.vm (get_or ps at d) ≡ false)
    → ChangesAt ps (insert ps at p) p.host p.vm (Some p.entry)
put_new p ps at s place none = (changed_insert p ps at s place (λ d k. none k d)).changes

pub put_there : (p : Pin) (ps : List Pin) (at : ℕ) → Ascends pin_before ps → IsPlace p.host p.vm ps at → at < length ps → ((d : Pin) → is_of p.host p.vm (get_or ps at d) ≡ true)
    → ChangesAt ps (set ps at p) p.host p.vm (Some p.entry)
put_there p ps at s place k there = (changed_set p ps at s place k there).changes

pub taken : (h v : ℕ) (ps : List Pin) (at : ℕ) → Ascends pin_before ps → IsPlace h v ps at → at < length ps → ((d : Pin) → is_of h v (get_or ps at d) ≡ true) → ChangesAt ps (remove ps at) h v None
taken h v ps at s place k there = (changed_remove h v ps at s place k there).changes

pub none_taken : (h v : ℕ) (ps : List Pin) (at : ℕ) → Ascends pin_before ps → IsPlace h v ps at → (at < length ps → (d : Pin) → is_of h v (get_or ps at d) ≡ false) → ChangesAt ps ps h v None
none_taken h v ps at s place none = record {
  ascend = s;
  here = none_there h v ps at s place (λ d k. none k d);
  elsewhere = λ h' v' n. refl;
}

-- ---- all hairpins of a VM taken away

abbrev pub without : ℕ → List Pin → List Pin
without vm ps = filter (λ p. not (p.vm == vm)) ps

after_without : (vm : ℕ) (w : Pin) (ps : List Pin) → AllAfter pin_before w ps → AllAfter pin_before w (without vm ps)
after_without vm w [] s = tt
after_without vm w (p ∷ ps) s = at_first (not (p.vm == vm)) (after_without vm w ps s.1)
  where
    at_first : (b : Bool) → AllAfter pin_before w (without vm ps) → AllAfter pin_before w (cond b (p ∷ without vm ps) (without vm ps))
    at_first true ih = (s.0, ih)
    at_first false ih = ih

pub ascend_without : (vm : ℕ) (ps : List Pin) → Ascends pin_before ps → Ascends pin_before (without vm ps)
ascend_without vm [] s = tt
ascend_without vm (p ∷ ps) s = at_first (not (p.vm == vm)) (ascend_without vm ps s.1)
  where
    at_first : (b : Bool) → Ascends pin_before (without vm ps) → Ascends pin_before (cond b (p ∷ without vm ps) (without vm ps))
    at_first true ih = (after_without vm p ps s.0, ih)
    at_first false ih = ih

pub without_here : (vm h : ℕ) (ps : List Pin) → entry_at (without vm ps) h vm ≡ None
without_here vm h [] = refl
without_here vm h (p ∷ ps) = at_first (p.vm == vm) refl (without_here vm h ps)
  where
    differs : (p.vm == vm) ≡ false → p.host ≡ h → p.vm ≡ vm → ⊥
    differs n e f = absurd (let same : (p.vm == vm) ≡ true = eq-eqb p.vm vm f in cc)

    at_first : (b : Bool) → (p.vm == vm) ≡ b → entry_at (without vm ps) h vm ≡ None → entry_at (cond (not b) (p ∷ without vm ps) (without vm ps)) h vm ≡ None
    at_first true e ih = ih
    at_first false e ih = passed h vm p (without vm ps) (not_own h vm p (differs e)) ∙ ih

pub without_elsewhere : (vm h v : ℕ) (ps : List Pin) → v ≢ vm → entry_at (without vm ps) h v ≡ entry_at ps h v
without_elsewhere vm h v [] n = refl
without_elsewhere vm h v (p ∷ ps) n = at_first (p.vm == vm) refl (without_elsewhere vm h v ps n)
  where
    at_first : (b : Bool) → (p.vm == vm) ≡ b → entry_at (without vm ps) h v ≡ entry_at ps h v → entry_at (cond (not b) (p ∷ without vm ps) (without vm ps)) h v ≡ entry_at (p ∷ ps) h v
    at_first true e ih = ih ∙ sym (passed h v p ps (not_own h v p (λ a b. n (sym b ∙ eqb-true p.vm vm e))))
    at_first false e ih = ap (λ (x : Option ℕ). if is_of h v p then Some p.entry else x) ih
