-- Which VMs are on their way, and whereto, in the plain state.
use Rattle.std.proofs.Common.{◌≡◌, ◌≢◌, ℕ, Bool, true, false, ◌||◌, not, cond, List, [], ◌∷◌, ◌++◌, refl, ap, arith, Some, None}
use Rattle.std.specs.Prelude.{◌==◌}
use Rattle.std.specs.List.{list_any, find, filter}
use Rattle.std.proofs.lemmas.Bool.{cases_eq}
use Rattle.std.proofs.lemmas.Grind.{common_steps}
use Rattle.and_events.specs.Script.{Script, is_moving, target_of}

-- ---- finds

find_none : {X : Type 0} (q : X → Bool) (xs : List X) → list_any q xs ≡ false → find q xs ≡ None
find_none q [] e = refl
find_none q (x ∷ xs) e = step (q x) e (find_none q xs)
  where
    step : (b : Bool) → (b || list_any q xs) ≡ false → (list_any q xs ≡ false → find q xs ≡ None) → cond b (Some x) (find q xs) ≡ None
    step true f later = absurd (cc)
    step false f later = later f

find_some : {X : Type 0} (q : X → Bool) (xs : List X) → list_any q xs ≡ true → (x : X) × (find q xs ≡ Some x)
find_some q [] e = absurd (cc)
find_some {X} q (x ∷ xs) e = step (q x) e (find_some q xs)
  where
    step : (b : Bool) → (b || list_any q xs) ≡ true → (list_any q xs ≡ true → (y : X) × (find q xs ≡ Some y)) → (y : X) × (cond b (Some x) (find q xs) ≡ Some y)
    step true f later = (x, refl)
    step false f later = later f

find_at_end : {X : Type 0} (q : X → Bool) (xs : List X) (y : X) → list_any q xs ≡ false → q y ≡ true → find q (xs ++ y ∷ []) ≡ Some y
find_at_end q [] y e f = rw f
find_at_end q (x ∷ xs) y e f = step (q x) e (λ g. find_at_end q xs y g f)
  where
    step : (b : Bool) → (b || list_any q xs) ≡ false → (list_any q xs ≡ false → find q (xs ++ y ∷ []) ≡ Some y) → cond b (Some x) (find q (xs ++ y ∷ [])) ≡ Some y
    step true g later = absurd (cc)
    step false g later = later g

find_before_end : {X : Type 0} (q : X → Bool) (xs : List X) (y : X) → q y ≡ false → find q (xs ++ y ∷ []) ≡ find q xs
find_before_end q [] y f = rw f
find_before_end q (x ∷ xs) y f = ap (λ o. cond (q x) (Some x) o) (find_before_end q xs y f)

find_filtered_none : {X : Type 0} (q : X → Bool) (xs : List X) → find q (filter (λ x. not (q x)) xs) ≡ None
find_filtered_none q [] = refl
find_filtered_none q (x ∷ xs) = step (q x) refl (find_filtered_none q xs)
  where
    step : (b : Bool) → q x ≡ b → find q (filter (λ x. not (q x)) xs) ≡ None → find q (cond (not b) (x ∷ filter (λ x. not (q x)) xs) (filter (λ x. not (q x)) xs)) ≡ None
    step true e later = later
    step false e later = rw e later

find_filtered : {X : Type 0} (q keep : X → Bool) (xs : List X) → ((x : X) → q x ≡ true → keep x ≡ true) → find q (filter keep xs) ≡ find q xs
find_filtered q keep [] kept = refl
find_filtered q keep (x ∷ xs) kept = step (keep x) (q x) refl refl (find_filtered q keep xs kept)
  where
    step : (b c : Bool) → keep x ≡ b → q x ≡ c → find q (filter keep xs) ≡ find q xs → find q (cond b (x ∷ filter keep xs) (filter keep xs)) ≡ find q (x ∷ xs)
    step true c e f later = ap (λ o. cond (q x) (Some x) o) later
    step false true e f later = absurd (let k = kept x f in cc)
    step false false e f later = rw f later

-- ---- VMs on their way

pub target_none : (p : Script) (v : ℕ) → is_moving p v ≡ false → target_of p v ≡ None
target_none p v e = let f = find_none (λ m. m.vm == v) p.moving e in rw f

pub target_some : (p : Script) (v : ℕ) → is_moving p v ≡ true → (t : ℕ) × (target_of p v ≡ Some t)
target_some p v e = let f = find_some (λ m. m.vm == v) p.moving e in (f.0.to, (let g = f.1 in rw g))

same : (a : ℕ) → (a == a) ≡ true
same a = grind arith

differ : (a b : ℕ) → a ≢ b → (a == b) ≡ false
differ a b n = grind (arith, common_steps)

pub target_added : (p : Script) (vm host : ℕ) → is_moving p vm ≡ false → target_of (record p { moving = p.moving ++ record { vm = vm; to = host } ∷ [] }) vm ≡ Some host
target_added p vm host e =
    let f = find_at_end (λ m. m.vm == vm) p.moving (record { vm = vm; to = host }) e (same vm) in rw f

pub target_kept : (p : Script) (vm host v : ℕ) → vm ≢ v → target_of (record p { moving = p.moving ++ record { vm = vm; to = host } ∷ [] }) v ≡ target_of p v
target_kept p vm host v n =
    let f = find_before_end (λ m. m.vm == v) p.moving (record { vm = vm; to = host }) (differ vm v n) in rw f

pub target_gone : (p : Script) (vm : ℕ) → target_of (record p { moving = filter (λ m. not (m.vm == vm)) p.moving }) vm ≡ None
target_gone p vm = let f = find_filtered_none (λ m. m.vm == vm) p.moving in rw f

pub target_left : (p : Script) (vm v : ℕ) → vm ≢ v → target_of (record p { moving = filter (λ m. not (m.vm == vm)) p.moving }) v ≡ target_of p v
target_left p vm v n =
    let f = find_filtered (λ m. m.vm == v) (λ m. not (m.vm == vm)) p.moving (λ m e. kept m.vm e) in rw f
  where
    kept : (a : ℕ) → (a == v) ≡ true → not (a == vm) ≡ true
    kept a e = grind (arith, common_steps, cases_eq a vm, cases_eq a v)
