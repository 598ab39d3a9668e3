-- The rule's part on what the seats know, over that alone.
use Rattle.std.proofs.Common.{◌≡◌, ◌≢◌, ⊎_elim, ℕ, zero, suc, ◌+◌, ◌^◌, ◌<◌, ◌≤◌, true, List, [], ◌∷◌, ◌++◌, length, set, sym, refl, ap, ◌∙◌, subst, arith, length-set, Some}
use Rattle.std.specs.Prelude.{All, Contains}
use Rattle.std.proofs.lemmas.List.Elements.{All-append, All-weaker}
use mathlib.Core.Logic.{dite}
use mathlib.Core.Option.{some, some-injective, some-ne-none}
use native.Mathlib.Decide.{ℕ_discrete}
use lib.ListN.{get_elem?}
use Rattle.atomic_table.proofs.Lists.{at_set, set_here, set_else}
use Rattle.and_turn.specs.declared.view.Known.{Known}
use Rattle.and_turn.specs.Tales.{IsPrefix, own}
use Rattle.and_turn.specs.Turns.{counts, seats, Sits, NoOther, Kept}
use Rattle.and_turn.proofs.Places.{in_range, same_place}
use Rattle.and_turn.proofs.Tales.{prefix_self, prefix_longer, own_other}

module _ {S L : Type 0} (seat_of : L → ℕ) (opened : S) where
  pub record Knowing (ks : List (Known S L)) (lines : List L) : Type 0 where
    pub seen : (j : ℕ) (k : Known S L) → Sits ks j k → IsPrefix k.seen lines
    pub rooted : (j : ℕ) (k : Known S L) → Sits ks j k → k.opened ≡ Some opened
    pub first : (k : Known S L) × Sits ks 0 k × (seats ks ≡ k.out + 1) × (k.made ≡ length ks)
    pub few : length ks < 2 ^ 32
    pub numbers : (j : ℕ) (k : Known S L) → Sits ks j k → k.number ≡ j
    pub mine : (j : ℕ) (k : Known S L) → Sits ks j k → own seat_of lines k.number ≡ own seat_of k.seen k.number
    pub whole : (k : Known S L) → Sits ks 0 k → (n : ℕ) → NoOther ks n → own seat_of lines n ≡ own seat_of k.seen n
    pub ended : (k : Known S L) → Sits ks 0 k → (n : ℕ) → Contains k.ended n → (n < k.made) × NoOther ks n
    pub named : All (λ l. seat_of l < length ks) lines
    pub merged : (k : Known S L) → Sits ks 0 k → Kept seat_of k.merged

module _ {S L : Type 0} where
  pub one-seat : (k : Known S L) → k.live ≡ true → counts k.live ≡ 1
  one-seat k e = ap counts e

  pub seats-set : (ks : List (Known S L)) (i : ℕ) (k w : Known S L) → get_elem? ks i ≡ some k → seats (set ks i w) + counts k.live ≡ seats ks + counts w.live
  seats-set [] i k w e = absurd (some-ne-none k (sym e))
  seats-set (x ∷ xs) zero k w e = let is : counts x.live ≡ counts k.live = ap (λ (z : Known S L). counts z.live) (some-injective x k e) in omega arith
  seats-set (x ∷ xs) (suc i) k w e = let r = seats-set xs i k w e in omega arith

  pub seats-more : (ks : List (Known S L)) (w : Known S L) → seats (ks ++ w ∷ []) ≡ seats ks + counts w.live
  seats-more [] w = omega arith
  seats-more (x ∷ xs) w = let r = seats-more xs w in omega arith

  pub seats_one : (ks : List (Known S L)) (i : ℕ) (k : Known S L) → Sits ks i k → 1 ≤ seats ks
  seats_one [] i k h = absurd (some-ne-none k (sym h.0))
  seats_one (x ∷ xs) zero k h = let is : counts x.live ≡ 1 = ap (λ (z : Known S L). counts z.live) (some-injective x k h.0) ∙ one-seat k h.1 in omega arith
  seats_one (x ∷ xs) (suc i) k h = let r = seats_one xs i k h in omega arith

  -- two seats are two
  pub seats_two : (ks : List (Known S L)) (i j : ℕ) (k w : Known S L) → Sits ks i k → Sits ks j w → i ≢ j → 2 ≤ seats ks
  seats_two [] i j k w h o ne = absurd (some-ne-none k (sym h.0))
  seats_two (x ∷ xs) zero zero k w h o ne = absurd (ne refl)
  seats_two (x ∷ xs) zero (suc j) k w h o ne = let is : counts x.live ≡ 1 = ap (λ (z : Known S L). counts z.live) (some-injective x k h.0) ∙ one-seat k h.1 in let r = seats_one xs j w o in omega arith
  seats_two (x ∷ xs) (suc i) zero k w h o ne = let is : counts x.live ≡ 1 = ap (λ (z : Known S L). counts z.live) (some-injective x w o.0) ∙ one-seat w o.1 in let r = seats_one xs i k h in omega arith
  seats_two (x ∷ xs) (suc i) (suc j) k w h o ne = let r = seats_two xs i j k w h o (λ e. ne (ap suc e)) in omega arith

  pub same_seat : (ks : List (Known S L)) (i j : ℕ) (k w : Known S L) → Sits ks i k → Sits ks j w → i ≡ j → k ≡ w
  same_seat ks i j k w h o e = same_place ks i j k w h.0 o.0 e

  pub here : (ks : List (Known S L)) (id : ℕ) (k w : Known S L) → Sits ks id k → w.live ≡ true → Sits (set ks id w) id w
  here ks id k w h live = (set_here ks id w (in_range ks id k h.0), live)

  -- which numbers the others have is as before, where the seat at id keeps its own
  pub other_back : (ks : List (Known S L)) (id : ℕ) (k w : Known S L) (n : ℕ) → Sits ks id k → w.live ≡ true → w.number ≡ k.number → NoOther (set ks id w) n → NoOther ks n
  other_back ks id k w n h live same none j x ne there = dite (ℕ_discrete j id)
      (λ e. let is = same_seat ks j id x k there h e in subst (λ (m : ℕ). m ≢ n) (same ∙ ap (λ (z : Known S L). z.number) (sym is)) (none id w (subst (λ (m : ℕ). m ≢ 0) e ne) (here ks id k w h live)))
      (λ e. none j x ne (set_else ks id j w e ∙ there.0, there.1))

  pub other_on : (ks : List (Known S L)) (id : ℕ) (k w : Known S L) (n : ℕ) → Sits ks id k → w.number ≡ k.number → NoOther ks n → NoOther (set ks id w) n
  other_on ks id k w n h same none j x ne there = ⊎_elim
      (λ (p : (j ≡ id) × (w ≡ x)). subst (λ (m : ℕ). m ≢ n) (sym same ∙ ap (λ (z : Known S L). z.number) p.1) (none id k (subst (λ (m : ℕ). m ≢ 0) p.0 ne) h))
      (λ (p : (j ≢ id) × (get_elem? ks j ≡ some x)). none j x ne (p.1, there.1))
      (at_set ks id j w x there.0)

  -- with more seen
  abbrev pub seen_more : Known S L → List L → Known S L
  seen_more k lines = record k { seen = lines }

module _ {S L : Type 0} (seat_of : L → ℕ) (opened : S) where
  -- the seat at id has added lines of its number, and seen them all
  pub added : (ks : List (Known S L)) (id : ℕ) (k : Known S L) (lines more : List L) → Sits ks id k → All (λ l. seat_of l ≡ k.number) more
      → Knowing seat_of opened ks lines → Knowing seat_of opened (set ks id (seen_more k (lines ++ more))) (lines ++ more)
  added ks id k lines more at of r = let all : List L = lines ++ more in let w : Known S L = seen_more k all in let ks' : List (Known S L) = set ks id w in
      let differ : (n : ℕ) → k.number ≢ n → own seat_of all n ≡ own seat_of lines n
      = λ n ne. own_other seat_of lines more n (All-weaker (λ (l : L). seat_of l ≡ k.number) (λ (l : L). seat_of l ≢ n) (λ l is e. ne (sym is ∙ e)) more of) in
      let long : length ks' ≡ length ks = length-set ks id w in record {
        seen = λ j x there. ⊎_elim
            (λ (p : (j ≡ id) × (w ≡ x)). subst (λ (z : Known S L). IsPrefix z.seen all) p.1 (prefix_self all))
            (λ (p : (j ≢ id) × (get_elem? ks j ≡ some x)). prefix_longer x.seen lines more (r.seen j x (p.1, there.1)))
            (at_set ks id j w x there.0);
        rooted = λ j x there. ⊎_elim
            (λ (p : (j ≡ id) × (w ≡ x)). subst (λ (z : Known S L). z.opened ≡ Some opened) p.1 (r.rooted id k at))
            (λ (p : (j ≢ id) × (get_elem? ks j ≡ some x)). r.rooted j x (p.1, there.1))
            (at_set ks id j w x there.0);
        first = let f = r.first in let count = seats-set ks id k w at.0 in dite (ℕ_discrete 0 id)
            (λ e. let is : f.0 ≡ k = same_seat ks 0 id f.0 k f.1 at e in
            (w, subst (λ (m : ℕ). Sits ks' m w) (sym e) (here ks id k w at at.1), let s = f.2 in let o : f.0.out ≡ k.out = ap (λ (z : Known S L). z.out) is in omega arith, sym (ap (λ (z : Known S L). z.made) is) ∙ (f.3 ∙ sym long)))
            (λ ne. (f.0, (set_else ks id 0 w ne ∙ f.1.0, f.1.1), let s = f.2 in omega arith, f.3 ∙ sym long));
        few = subst (λ (n : ℕ). n < 2 ^ 32) (sym long) r.few;
        numbers = λ j x there. ⊎_elim
            (λ (p : (j ≡ id) × (w ≡ x)). subst (λ (z : Known S L). z.number ≡ j) p.1 (r.numbers id k at ∙ sym p.0))
            (λ (p : (j ≢ id) × (get_elem? ks j ≡ some x)). r.numbers j x (p.1, there.1))
            (at_set ks id j w x there.0);
        mine = λ j x there. ⊎_elim
            (λ (p : (j ≡ id) × (w ≡ x)). subst (λ (z : Known S L). own seat_of all z.number ≡ own seat_of z.seen z.number) p.1 refl)
            (λ (p : (j ≢ id) × (get_elem? ks j ≡ some x)). differ x.number (λ e. p.0 (sym (r.numbers j x (p.1, there.1)) ∙ (sym e ∙ r.numbers id k at))) ∙ r.mine j x (p.1, there.1))
            (at_set ks id j w x there.0);
        whole = λ x there n none. ⊎_elim
            (λ (p : (0 ≡ id) × (w ≡ x)). subst (λ (z : Known S L). own seat_of all n ≡ own seat_of z.seen n) p.1 refl)
            (λ (p : (0 ≢ id) × (get_elem? ks 0 ≡ some x)). let before = other_back ks id k w n at at.1 refl none in
            differ n (before id k (λ e. p.0 (sym e)) at) ∙ r.whole x (p.1, there.1) n before)
            (at_set ks id 0 w x there.0);
        ended = λ x there n among. ⊎_elim
            (λ (p : (0 ≡ id) × (w ≡ x)). let o = r.ended k (subst (λ (m : ℕ). Sits ks m k) (sym p.0) at) n (subst (λ (z : Known S L). Contains z.ended n) (sym p.1) among) in
            (subst (λ (z : Known S L). n < z.made) p.1 o.0, other_on ks id k w n at refl o.1))
            (λ (p : (0 ≢ id) × (get_elem? ks 0 ≡ some x)). let o = r.ended x (p.1, there.1) n among in (o.0, other_on ks id k w n at refl o.1))
            (at_set ks id 0 w x there.0);
        named = subst (λ (m : ℕ). All (λ l. seat_of l < m) all) (sym long) (All-append (λ (l : L). seat_of l < length ks) lines more r.named
            (All-weaker (λ (l : L). seat_of l ≡ k.number) (λ (l : L). seat_of l < length ks) (λ l is. subst (λ (m : ℕ). m < length ks) (sym (is ∙ r.numbers id k at)) (in_range ks id k at.0)) more of));
        merged = λ x there. ⊎_elim
            (λ (p : (0 ≡ id) × (w ≡ x)). subst (λ (z : Known S L). Kept seat_of z.merged) p.1 (r.merged k (subst (λ (m : ℕ). Sits ks m k) (sym p.0) at)))
            (λ (p : (0 ≢ id) × (get_elem? ks 0 ≡ some x)). r.merged x (p.1, there.1))
            (at_set ks id 0 w x there.0);
      }
