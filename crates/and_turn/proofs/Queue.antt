-- The rule's part on the tickets, over the stages alone.
use Rattle.std.proofs.Common.{◌≡◌, ◌≢◌, ⊎_elim, ℕ, zero, suc, ◌+◌, ◌<◌, ◌≤◌, List, [], ◌∷◌, ◌++◌, length, set, sym, refl, ap, ◌∙◌, subst, arith}
use mathlib.Core.Option.{some, some-injective, some-ne-none}
use lib.ListN.{get_elem?}
use Rattle.atomic_table.proofs.Lists.{at_set, at_snoc}
use Rattle.and_turn.specs.declared.view.Stage.{Stage}
use Rattle.and_turn.specs.declared.view.Stage.TheVariants.{Out, Waits, Has}
use Rattle.and_turn.specs.Turns.{IsAt, drew, tickets, HasNone}

pub record Queue (gs : List Stage) (drawn served : ℕ) : Type 0 where
  pub counted : drawn ≡ served + tickets gs
  pub range : (j t : ℕ) (g : Stage) → get_elem? gs j ≡ some g → IsAt g t → (served ≤ t) × (t < drawn)
  pub apart : (i j t : ℕ) (g h : Stage) → get_elem? gs i ≡ some g → get_elem? gs j ≡ some h → IsAt g t → IsAt h t → i ≡ j
  pub turn : (j t : ℕ) → get_elem? gs j ≡ some (Has t) → t ≡ served

abbrev pub NotHas : Stage → Type 0
NotHas Out = Unit {0}
NotHas (Waits u) = Unit {0}
NotHas (Has u) = ⊥

pub never_has : (g : Stage) → NotHas g → (t : ℕ) → g ≢ Has t
never_has g n t e = subst NotHas e n

abbrev pub kind : Stage → ℕ
kind Out = 0
kind (Waits u) = 1
kind (Has u) = 2

pub waits_at : (g : Stage) (u : ℕ) → g ≡ Waits u → IsAt g u
waits_at g u e = subst (λ (z : Stage). IsAt z u) (sym e) refl

pub has_at : (g : Stage) (u : ℕ) → g ≡ Has u → IsAt g u
has_at g u e = subst (λ (z : Stage). IsAt z u) (sym e) refl

drew-le : (g : Stage) → drew g ≤ 1
drew-le Out = omega arith
drew-le (Waits u) = omega arith
drew-le (Has u) = omega arith

pub tickets-le : (gs : List Stage) → tickets gs ≤ length gs
tickets-le [] = omega arith
tickets-le (x ∷ xs) = let r = tickets-le xs in let one = drew-le x in omega arith

pub tickets-set : (gs : List Stage) (i : ℕ) (g h : Stage) → get_elem? gs i ≡ some g → tickets (set gs i h) + drew g ≡ tickets gs + drew h
tickets-set [] i g h e = absurd (some-ne-none g (sym e))
tickets-set (x ∷ xs) zero g h e = let is : drew x ≡ drew g = ap drew (some-injective x g e) in omega arith
tickets-set (x ∷ xs) (suc i) g h e = let r = tickets-set xs i g h e in omega arith

tickets-more : (gs : List Stage) → tickets (gs ++ Out ∷ []) ≡ tickets gs
tickets-more [] = refl
tickets-more (x ∷ xs) = ap (λ (n : ℕ). drew x + n) (tickets-more xs)

-- the seat's ticket becomes t, which no other seat has
pub moved : (gs : List Stage) (id t : ℕ) (h : Stage) (drawn served drawn' : ℕ) → ((u : ℕ) → IsAt h u → u ≡ t) → ((u : ℕ) → h ≡ Has u → u ≡ served) → (served ≤ t) × (t < drawn') → drawn ≤ drawn'
    → ((j u : ℕ) (x : Stage) → j ≢ id → get_elem? gs j ≡ some x → IsAt x u → u ≢ t) → drawn' ≡ served + tickets (set gs id h) → Queue gs drawn served → Queue (set gs id h) drawn' served
moved gs id t h drawn served drawn' one has range more others sum q = record {
  counted = sum;
  range = λ j u x there here. ⊎_elim
      (λ (p : (j ≡ id) × (h ≡ x)). subst (λ (n : ℕ). (served ≤ n) × (n < drawn')) (sym (one u (subst (λ (z : Stage). IsAt z u) (sym p.1) here))) range)
      (λ (p : (j ≢ id) × (get_elem? gs j ≡ some x)). let o = q.range j u x p.1 here in (o.0, let lt = o.1 in omega arith))
      (at_set gs id j h x there);
  apart = λ i j n x y xi yj tx ty. ⊎_elim
      (λ (p : (i ≡ id) × (h ≡ x)). ⊎_elim
      (λ (o : (j ≡ id) × (h ≡ y)). p.0 ∙ sym o.0)
      (λ (o : (j ≢ id) × (get_elem? gs j ≡ some y)). absurd (others j n y o.0 o.1 ty (one n (subst (λ (z : Stage). IsAt z n) (sym p.1) tx))))
      (at_set gs id j h y yj))
      (λ (p : (i ≢ id) × (get_elem? gs i ≡ some x)). ⊎_elim
      (λ (o : (j ≡ id) × (h ≡ y)). absurd (others i n x p.0 p.1 tx (one n (subst (λ (z : Stage). IsAt z n) (sym o.1) ty))))
      (λ (o : (j ≢ id) × (get_elem? gs j ≡ some y)). q.apart i j n x y p.1 o.1 tx ty)
      (at_set gs id j h y yj))
      (at_set gs id i h x xi);
  turn = λ j u there. ⊎_elim
      (λ (p : (j ≡ id) × (h ≡ Has u)). has u p.1)
      (λ (p : (j ≢ id) × (get_elem? gs j ≡ some (Has u))). q.turn j u p.1)
      (at_set gs id j h (Has u) there);
}

-- no seat but the one at id has the ticket that is served
others_wait : (gs : List Stage) (id drawn served : ℕ) → get_elem? gs id ≡ some (Has served) → Queue gs drawn served
    → (j u : ℕ) (x : Stage) → j ≢ id → get_elem? gs j ≡ some x → IsAt x u → served + 1 ≤ u
others_wait gs id drawn served at q j u x other there here = let low = (q.range j u x there here).0 in
    let ne : served ≢ u = λ e. other (q.apart j id u x (Has served) there at here e) in omega arith

-- the seat that was served has no ticket any more, and the next one is served
pub gone : (gs : List Stage) (id drawn served : ℕ) → get_elem? gs id ≡ some (Has served) → Queue gs drawn served → Queue (set gs id Out) drawn (served + 1)
gone gs id drawn served at q = let total = tickets-set gs id (Has served) Out at in let sum = q.counted in record {
  counted = omega arith;
  range = λ j u x there here. ⊎_elim
      (λ (p : (j ≡ id) × (Out ≡ x)). absurd (subst (λ (z : Stage). IsAt z u) (sym p.1) here))
      (λ (p : (j ≢ id) × (get_elem? gs j ≡ some x)). (others_wait gs id drawn served at q j u x p.0 p.1 here, (q.range j u x p.1 here).1))
      (at_set gs id j Out x there);
  apart = λ i j n x y xi yj tx ty. ⊎_elim
      (λ (p : (i ≡ id) × (Out ≡ x)). absurd (subst (λ (z : Stage). IsAt z n) (sym p.1) tx))
      (λ (p : (i ≢ id) × (get_elem? gs i ≡ some x)). ⊎_elim
      (λ (o : (j ≡ id) × (Out ≡ y)). absurd (subst (λ (z : Stage). IsAt z n) (sym o.1) ty))
      (λ (o : (j ≢ id) × (get_elem? gs j ≡ some y)). q.apart i j n x y p.1 o.1 tx ty)
      (at_set gs id j Out y yj))
      (at_set gs id i Out x xi);
  turn = λ j u there. ⊎_elim
      (λ (p : (j ≡ id) × (Out ≡ Has u)). absurd (never_has Out tt u p.1))
      (λ (p : (j ≢ id) × (get_elem? gs j ≡ some (Has u))). let e : u ≡ served = q.turn j u p.1 in let lt = others_wait gs id drawn served at q j u (Has u) p.0 p.1 refl in absurd (omega arith))
      (at_set gs id j Out (Has u) there);
}

-- one more seat has no ticket
pub one_more : (gs : List Stage) (drawn served : ℕ) → Queue gs drawn served → Queue (gs ++ Out ∷ []) drawn served
one_more gs drawn served q = record {
  counted = q.counted ∙ ap (λ (n : ℕ). served + n) (sym (tickets-more gs));
  range = λ j u x there here. ⊎_elim (λ (h : get_elem? gs j ≡ some x). q.range j u x h here) (λ (h : Out ≡ x). absurd (subst (λ (z : Stage). IsAt z u) (sym h) here)) (at_snoc gs Out x j there);
  apart = λ i j n x y xi yj tx ty. ⊎_elim
      (λ (h : get_elem? gs i ≡ some x). ⊎_elim (λ (o : get_elem? gs j ≡ some y). q.apart i j n x y h o tx ty) (λ (o : Out ≡ y). absurd (subst (λ (z : Stage). IsAt z n) (sym o) ty)) (at_snoc gs Out y j yj))
      (λ (h : Out ≡ x). absurd (subst (λ (z : Stage). IsAt z n) (sym h) tx))
      (at_snoc gs Out x i xi);
  turn = λ j u there. ⊎_elim (λ (h : get_elem? gs j ≡ some (Has u)). q.turn j u h) (λ (h : Out ≡ Has u). absurd (never_has Out tt u h)) (at_snoc gs Out (Has u) j there);
}

pub none_set : (gs : List Stage) (id : ℕ) (h : Stage) → NotHas h → HasNone gs → HasNone (set gs id h)
none_set gs id h not none j t there = ⊎_elim
    (λ (p : (j ≡ id) × (h ≡ Has t)). never_has h not t p.1)
    (λ (p : (j ≢ id) × (get_elem? gs j ≡ some (Has t))). none j t p.1)
    (at_set gs id j h (Has t) there)

pub none_gone : (gs : List Stage) (id drawn served : ℕ) → get_elem? gs id ≡ some (Has served) → Queue gs drawn served → HasNone (set gs id Out)
none_gone gs id drawn served at q j t there = ⊎_elim
    (λ (p : (j ≡ id) × (Out ≡ Has t)). never_has Out tt t p.1)
    (λ (p : (j ≢ id) × (get_elem? gs j ≡ some (Has t))). let e : t ≡ served = q.turn j t p.1 in let lt = others_wait gs id drawn served at q j t (Has t) p.0 p.1 refl in absurd (omega arith))
    (at_set gs id j Out (Has t) there)

pub none_more : (gs : List Stage) → HasNone gs → HasNone (gs ++ Out ∷ [])
none_more gs none j t there = ⊎_elim (λ (h : get_elem? gs j ≡ some (Has t)). none j t h) (λ (h : Out ≡ Has t). never_has Out tt t h) (at_snoc gs Out (Has t) j there)
