-- The order of hairpins, and the place of one.
use Rattle.std.proofs.Common.{◌≡◌, ℕ, zero, suc, ◌<◌, ◌≤◌, Bool, true, false, List, [], ◌∷◌, length, get_or, refl, arith}
use Rattle.std.specs.Prelude.{◌==◌}
use Rattle.std.proofs.lemmas.Bool.{eq-eqb, eqb-true, and_parts}
use Rattle.std.specs.List.Sorted.{IsPartitionedBy}
use Rattle.and_pins.specs.declared.pin.Pin.{Pin}
use Rattle.and_policy.specs.Sorting.{AllAfter, Ascends}
use Rattle.and_pins.specs.Pinned.{IsPlace, is_of, pin_before, place_before}

-- ---- places

pub one_way : (h v h' v' : ℕ) → place_before h v h' v' ≡ true → place_before h' v' h v ≡ false
one_way h v h' v' l = grind arith

pub itself : (h v : ℕ) → place_before h v h v ≡ false
itself h v = grind arith

pub through : (h v h' v' h'' v'' : ℕ) → place_before h v h' v' ≡ true → place_before h' v' h'' v'' ≡ true → place_before h v h'' v'' ≡ true
through h v h' v' h'' v'' l m = grind arith

pub own : (h v : ℕ) (p : Pin) → p.host ≡ h → p.vm ≡ v → is_of h v p ≡ true
own h v p e f = rw (eq-eqb p.host h e, eq-eqb p.vm v f) refl

pub of_host : (h v : ℕ) (p : Pin) → is_of h v p ≡ true → p.host ≡ h
of_host h v p e = eqb-true p.host h (and_parts (p.host == h) (p.vm == v) e).0

pub of_vm : (h v : ℕ) (p : Pin) → is_of h v p ≡ true → p.vm ≡ v
of_vm h v p e = eqb-true p.vm v (and_parts (p.host == h) (p.vm == v) e).1

pub not_own : (h v : ℕ) (p : Pin) → (p.host ≡ h → p.vm ≡ v → ⊥) → is_of h v p ≡ false
not_own h v p n = by_test (is_of h v p) refl
  where
    by_test : (b : Bool) → is_of h v p ≡ b → b ≡ false
    by_test true e = absurd (n (of_host h v p e) (of_vm h v p e))
    by_test false e = refl

-- a hairpin before a place is not there
pub apart : (h v : ℕ) (p : Pin) → place_before p.host p.vm h v ≡ true → is_of h v p ≡ false
apart h v p l = grind arith

-- nor is one behind it
pub apart_behind : (h v : ℕ) (p : Pin) → place_before h v p.host p.vm ≡ true → is_of h v p ≡ false
apart_behind h v p l = grind arith

pub behind : (h v : ℕ) (p : Pin) → is_of h v p ≡ false → place_before p.host p.vm h v ≡ false → place_before h v p.host p.vm ≡ true
behind h v p n l = grind arith

-- ---- lists in order

pub after_more : (a b : Pin) (ps : List Pin) → pin_before a b ≡ true → AllAfter pin_before b ps → AllAfter pin_before a ps
after_more a b [] h s = tt
after_more a b (p ∷ ps) h s = (through a.host a.vm b.host b.vm p.host p.vm h s.0, after_more a b ps h s.1)

pub after_at : (p : Pin) (ps : List Pin) (j : ℕ) (d : Pin) → AllAfter pin_before p ps → j < length ps → pin_before p (get_or ps j d) ≡ true
after_at p [] j d s l = absurd (omega (arith, l))
after_at p (q ∷ qs) zero d s l = s.0
after_at p (q ∷ qs) (suc j) d s l = after_at p qs j d s.1 (omega (arith, l))

-- the hairpins before a place stand in front
pub parted : (h v : ℕ) (ps : List Pin) → Ascends pin_before ps → IsPartitionedBy (λ p. place_before p.host p.vm h v) ps
parted h v [] s = λ i j d k l e. absurd (omega (arith, l))
parted h v (p ∷ ps) s = by_place (parted h v ps s.1)
  where
    by_place : IsPartitionedBy (λ q. place_before q.host q.vm h v) ps → (i j : ℕ) (d : Pin) → i ≤ j → j < length (p ∷ ps)
        → place_before (get_or (p ∷ ps) j d).host (get_or (p ∷ ps) j d).vm h v ≡ true → place_before (get_or (p ∷ ps) i d).host (get_or (p ∷ ps) i d).vm h v ≡ true
    by_place ih zero zero d k l e = e
    by_place ih zero (suc j) d k l e = through p.host p.vm (get_or ps j d).host (get_or ps j d).vm h v (after_at p ps j d s.0 (omega (arith, l))) e
    by_place ih (suc i) zero d k l e = absurd (omega (arith, k))
    by_place ih (suc i) (suc j) d k l e = ih i j d (omega (arith, k)) (omega (arith, l)) e

pub tail_place : (h v : ℕ) (p : Pin) (ps : List Pin) (at : ℕ) → IsPlace h v (p ∷ ps) (suc at) → IsPlace h v ps at
tail_place h v p ps at place = record {
  within = omega (arith, place.within);
  before = λ j d k. place.before (suc j) d (omega (arith, k));
  not_before = λ d k. place.not_before d (omega (arith, k));
}

pub head_before : (h v : ℕ) (p : Pin) (ps : List Pin) (at : ℕ) → IsPlace h v (p ∷ ps) (suc at) → place_before p.host p.vm h v ≡ true
head_before h v p ps at place = place.before 0 p (omega arith)
