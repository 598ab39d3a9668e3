-- A join keeps the rule's part on what the seats know.
use Rattle.std.proofs.Common.{◌≡◌, ◌≢◌, ◌⊎◌, inl, inr, ⊎_elim, ℕ, ◌-◌, ◌^◌, ◌<◌, false, List, [], ◌∷◌, ◌++◌, length, set, sym, refl, ap, ◌∙◌, subst, arith, length-set, Some}
use Rattle.std.specs.Prelude.{All, Contains}
use Rattle.std.proofs.lemmas.Bool.{false≢true}
use Rattle.std.proofs.lemmas.List.Elements.{Contains-push_cases}
use mathlib.Core.Logic.{dite}
use mathlib.Core.Option.{some}
use native.Mathlib.Decide.{ℕ_discrete}
use lib.ListN.{get_elem?}
use Rattle.atomic_table.proofs.Lists.{set_else}
use Rattle.and_turn.specs.declared.view.Known.{Known}
use Rattle.and_turn.specs.declared.view.Merged.{Merged}
use Rattle.and_turn.specs.Tales.{IsPrefix, own, longer}
use Rattle.and_turn.specs.Turns.{counts, Sits, NoOther, Kept}
use Rattle.and_turn.proofs.Places.{in_range, at_join}
use Rattle.and_turn.proofs.Tales.{longer_prefix, longer_left, longer_right, own_longer_left, own_longer_right}
use Rattle.and_turn.proofs.Knowing.{Knowing, one-seat, seats-set, seats_one, here, same_seat}

module _ {S L : Type 0} where
  abbrev merged_of : Known S L → Known S L → Merged L
  merged_of k w = record { before = k.seen; joined = w.seen; last = w.number; earlier = k.ended; out = k.out }

  abbrev both_of : Known S L → Known S L → Known S L
  both_of k w = record k { seen = longer k.seen w.seen; out = k.out - 1; ended = k.ended ++ w.number ∷ []; merged = merged_of k w }

module _ {S L : Type 0} (seat_of : L → ℕ) (opened : S) where
  pub join_known : (ks : List (Known S L)) (id other : ℕ) (k w spent : Known S L) (lines : List L) → Sits ks id k → Sits ks other w → other ≢ id → k.number ≡ 0 → spent.live ≡ false
      → Knowing seat_of opened ks lines → Knowing seat_of opened (set (set ks id (both_of k w)) other spent) lines
  join_known ks id other k w spent lines at at_other ne zero_is gone r = let both : Known S L = both_of k w in
      let one : List (Known S L) = set ks id both in let ks' : List (Known S L) = set one other spent in
      let long : length ks' ≡ length ks = length-set one other spent ∙ length-set ks id both in
      let id_is : id ≡ 0 = sym (r.numbers id k at) ∙ zero_is in
      let at0 : Sits ks 0 k = subst (λ (m : ℕ). Sits ks m k) id_is at in
      let f = r.first in let is : f.0 ≡ k = same_seat ks 0 0 f.0 k f.1 at0 refl in
      let made_is : k.made ≡ length ks = sym (ap (λ (z : Known S L). z.made) is) ∙ f.3 in
      let in_one : Sits one other w = (set_else ks id other both ne ∙ at_other.0, at_other.1) in
      let at_both : Sits ks' id both = (set_else one other id spent (λ e. ne (sym e)) ∙ (here ks id k both at at.1).0, at.1) in
      let ha : IsPrefix k.seen lines = r.seen id k at in let hb : IsPrefix w.seen lines = r.seen other w at_other in
      let cases : (j : ℕ) (x : Known S L) → Sits ks' j x → ((j ≡ id) × (both ≡ x)) ⊎ ((j ≢ other) × (j ≢ id) × Sits ks j x) = λ j x there. ⊎_elim
      (λ (p : (j ≡ other) × (spent ≡ x)). absurd (false≢true (sym gone ∙ (ap (λ (z : Known S L). z.live) p.1 ∙ there.1))))
      (λ (q : (j ≢ other) × (((j ≡ id) × (both ≡ x)) ⊎ ((j ≢ id) × (get_elem? ks j ≡ some x)))). ⊎_elim
      (λ (p : (j ≡ id) × (both ≡ x)). inl p)
      (λ (p : (j ≢ id) × (get_elem? ks j ≡ some x)). inr (q.0, p.0, (p.1, there.1)))
      q.1)
      (at_join ks id other j both spent x there.0) in
      let old_on : (j : ℕ) (x : Known S L) → j ≢ other → j ≢ id → Sits ks j x → Sits ks' j x = λ j x no ni there. (set_else one other j spent no ∙ (set_else ks id j both ni ∙ there.0), there.1) in
      let on : (n : ℕ) → NoOther ks n → NoOther ks' n = λ n none j x nz there. ⊎_elim
      (λ (p : (j ≡ id) × (both ≡ x)). absurd (nz (p.0 ∙ id_is)))
      (λ (p : (j ≢ other) × (j ≢ id) × Sits ks j x). none j x nz p.2)
      (cases j x there) in
      let back : (n : ℕ) → w.number ≢ n → NoOther ks' n → NoOther ks n = λ n nw none j x nz there. dite (ℕ_discrete j other)
      (λ e. subst (λ (z : Known S L). z.number ≢ n) (same_seat ks other j w x at_other there (sym e)) nw)
      (λ e. none j x nz (old_on j x e (λ o. nz (o ∙ id_is)) there)) in
      let left : (n : ℕ) → own seat_of lines n ≡ own seat_of k.seen n → own seat_of lines n ≡ own seat_of (longer k.seen w.seen) n = λ n e. own_longer_left seat_of k.seen w.seen lines n ha hb e in
      let right : own seat_of lines w.number ≡ own seat_of (longer k.seen w.seen) w.number = own_longer_right seat_of k.seen w.seen lines w.number ha hb (r.mine other w at_other) in
      let c0 = seats-set ks id k both at.0 in let c1 = seats-set one other w spent in_one.0 in let s = f.2 in let o : f.0.out ≡ k.out = ap (λ (z : Known S L). z.out) is in
      let live : counts w.live ≡ 1 = one-seat w at_other.1 in let dead : counts spent.live ≡ 0 = ap counts gone in
      let some_left = seats_one ks' id both at_both in
      let some_out : 0 < k.out = omega arith in
      let first_mine : own seat_of lines 0 ≡ own seat_of k.seen 0 = subst (λ (n : ℕ). own seat_of lines n ≡ own seat_of k.seen n) zero_is (r.mine id k at) in record {
        seen = λ j x there. ⊎_elim
            (λ (p : (j ≡ id) × (both ≡ x)). subst (λ (z : Known S L). IsPrefix z.seen lines) p.1 (longer_prefix k.seen w.seen lines ha hb))
            (λ (p : (j ≢ other) × (j ≢ id) × Sits ks j x). r.seen j x p.2)
            (cases j x there);
        rooted = λ j x there. ⊎_elim
            (λ (p : (j ≡ id) × (both ≡ x)). subst (λ (z : Known S L). z.opened ≡ Some opened) p.1 (r.rooted id k at))
            (λ (p : (j ≢ other) × (j ≢ id) × Sits ks j x). r.rooted j x p.2)
            (cases j x there);
        first = (both, subst (λ (m : ℕ). Sits ks' m both) id_is at_both, omega arith, made_is ∙ sym long);
        few = subst (λ (n : ℕ). n < 2 ^ 32) (sym long) r.few;
        numbers = λ j x there. ⊎_elim
            (λ (p : (j ≡ id) × (both ≡ x)). subst (λ (z : Known S L). z.number ≡ j) p.1 (r.numbers id k at ∙ sym p.0))
            (λ (p : (j ≢ other) × (j ≢ id) × Sits ks j x). r.numbers j x p.2)
            (cases j x there);
        mine = λ j x there. ⊎_elim
            (λ (p : (j ≡ id) × (both ≡ x)). subst (λ (z : Known S L). own seat_of lines z.number ≡ own seat_of z.seen z.number) p.1 (left k.number (r.mine id k at)))
            (λ (p : (j ≢ other) × (j ≢ id) × Sits ks j x). r.mine j x p.2)
            (cases j x there);
        whole = λ x there n none. let same : both ≡ x = same_seat ks' id 0 both x at_both there id_is in
            subst (λ (z : Known S L). own seat_of lines n ≡ own seat_of z.seen n) same (dite (ℕ_discrete w.number n)
            (λ e. subst (λ (m : ℕ). own seat_of lines m ≡ own seat_of (longer k.seen w.seen) m) e right)
            (λ nw. left n (r.whole k at0 n (back n nw none))));
        ended = λ x there n among. let same : both ≡ x = same_seat ks' id 0 both x at_both there id_is in
            let res : (n < both.made) × NoOther ks' n = ⊎_elim
            (λ (h : Contains k.ended n). let o = r.ended k at0 n h in (o.0, on n o.1))
            (λ (h : w.number ≡ n). let low = in_range ks other w at_other.0 in let w_is : w.number ≡ other = r.numbers other w at_other in (
              omega arith,
              λ j y nz there'. ⊎_elim
                  (λ (p : (j ≡ id) × (both ≡ y)). absurd (nz (p.0 ∙ id_is)))
                  (λ (p : (j ≢ other) × (j ≢ id) × Sits ks j y). λ e. p.0 (sym (r.numbers j y p.2) ∙ (e ∙ (sym h ∙ w_is))))
                  (cases j y there'),
            ))
            (Contains-push_cases k.ended w.number n (subst (λ (z : Known S L). Contains z.ended n) (sym same) among)) in
            subst (λ (z : Known S L). (n < z.made) × NoOther ks' n) same res;
        named = subst (λ (m : ℕ). All (λ l. seat_of l < m) lines) (sym long) r.named;
        merged = λ x there. let same : both ≡ x = same_seat ks' id 0 both x at_both there id_is in
            let kept : Kept seat_of (merged_of k w) = record {
              before = longer_left k.seen w.seen lines ha hb;
              joined = longer_right k.seen w.seen lines ha hb;
              last = sym right ∙ r.mine other w at_other;
              first = sym (left 0 first_mine) ∙ first_mine;
              earlier = λ n h. let is_whole = r.whole k at0 n (r.ended k at0 n h).1 in sym (left n is_whole) ∙ is_whole;
              out = some_out;
            } in subst (λ (z : Known S L). Kept seat_of z.merged) same kept;
      }
