-- A split keeps the rule's part on what the seats know.
use Rattle.std.proofs.Common.{◌≡◌, ◌≢◌, ◌⊎◌, ⊎_elim, ℕ, ◌+◌, ◌-◌, ◌^◌, ◌<◌, true, List, [], ◌∷◌, ◌++◌, length, set, sym, refl, ap, ◌∙◌, subst, arith, length-set, length-append, Some}
use Rattle.std.specs.Prelude.{Contains}
use Rattle.std.proofs.lemmas.List.Elements.{All-weaker}
use mathlib.Core.Option.{some}
use lib.ListN.{get_elem?}
use Rattle.atomic_table.proofs.Lists.{set_else, at_longer, at_last}
use Rattle.and_turn.specs.declared.view.Known.{Known}
use Rattle.and_turn.specs.Tales.{IsPrefix, own}
use Rattle.and_turn.specs.Turns.{counts, Sits, NoOther, Kept, unmerged}
use Rattle.and_turn.proofs.Places.{at_split}
use Rattle.and_turn.proofs.Tales.{own_none, own_part}
use Rattle.and_turn.proofs.Knowing.{Knowing, one-seat, seats-set, seats-more, here, same_seat}

module _ {S L : Type 0} where
  abbrev left : Known S L → Known S L
  left k = record k { out = k.out + 1; made = k.made + 1 }

  abbrev right : Known S L → Known S L
  right k = record { live = true; number = k.made; opened = k.opened; seen = k.seen; out = 0; made = 0; ended = []; merged = unmerged }

module _ {S L : Type 0} (seat_of : L → ℕ) (opened : S) where
  pub split_known : (ks : List (Known S L)) (id : ℕ) (k : Known S L) (lines : List L) → Sits ks id k → k.number ≡ 0 → k.made < 2 ^ 32 - 1
      → Knowing seat_of opened ks lines → Knowing seat_of opened (set ks id (left k) ++ right k ∷ []) lines
  split_known ks id k lines at zero_is room r = let w : Known S L = left k in let new : Known S L = right k in
      let set_one : List (Known S L) = set ks id w in let ks' : List (Known S L) = set_one ++ new ∷ [] in
      let long : length set_one ≡ length ks = length-set ks id w in
      let longer : length ks' ≡ length ks + 1 = length-append set_one (new ∷ []) ∙ ap (λ (n : ℕ). n + 1) long in
      let id_is : id ≡ 0 = sym (r.numbers id k at) ∙ zero_is in
      let at0 : Sits ks 0 k = subst (λ (m : ℕ). Sits ks m k) id_is at in
      let f = r.first in let is : f.0 ≡ k = same_seat ks 0 0 f.0 k f.1 at0 refl in
      let made_is : k.made ≡ length ks = sym (ap (λ (z : Known S L). z.made) is) ∙ f.3 in
      let at_left : Sits ks' id w = (at_longer set_one (new ∷ []) id w (here ks id k w at at.1).0, at.1) in
      let at_right : Sits ks' (length ks) new = (at_last set_one new (length ks) long, refl) in
      let old_on : (j : ℕ) (x : Known S L) → j ≢ id → Sits ks j x → Sits ks' j x = λ j x ne there. (at_longer set_one (new ∷ []) j x (set_else ks id j w ne ∙ there.0), there.1) in
      let back : (n : ℕ) → NoOther ks' n → NoOther ks n = λ n none j x ne there. none j x ne (old_on j x (λ e. ne (e ∙ id_is)) there) in record {
        seen = λ j x there. ⊎_elim
            (λ (p : (j ≡ id) × (w ≡ x)). subst (λ (z : Known S L). IsPrefix z.seen lines) p.1 (r.seen id k at))
            (λ (q : ((j ≢ id) × (get_elem? ks j ≡ some x)) ⊎ ((j ≡ length set_one) × (new ≡ x))). ⊎_elim
            (λ (p : (j ≢ id) × (get_elem? ks j ≡ some x)). r.seen j x (p.1, there.1))
            (λ (p : (j ≡ length set_one) × (new ≡ x)). subst (λ (z : Known S L). IsPrefix z.seen lines) p.1 (r.seen id k at))
            q)
            (at_split ks id j w new x there.0);
        rooted = λ j x there. ⊎_elim
            (λ (p : (j ≡ id) × (w ≡ x)). subst (λ (z : Known S L). z.opened ≡ Some opened) p.1 (r.rooted id k at))
            (λ (q : ((j ≢ id) × (get_elem? ks j ≡ some x)) ⊎ ((j ≡ length set_one) × (new ≡ x))). ⊎_elim
            (λ (p : (j ≢ id) × (get_elem? ks j ≡ some x)). r.rooted j x (p.1, there.1))
            (λ (p : (j ≡ length set_one) × (new ≡ x)). subst (λ (z : Known S L). z.opened ≡ Some opened) p.1 (r.rooted id k at))
            q)
            (at_split ks id j w new x there.0);
        first = let count = seats-set ks id k w at.0 in let more = seats-more set_one new in let s = f.2 in let o : f.0.out ≡ k.out = ap (λ (z : Known S L). z.out) is in
            let live : counts k.live ≡ 1 = one-seat k at.1 in let live' : counts w.live ≡ 1 = live in
            (w, subst (λ (m : ℕ). Sits ks' m w) id_is at_left, omega arith, omega arith);
        few = omega arith;
        numbers = λ j x there. ⊎_elim
            (λ (p : (j ≡ id) × (w ≡ x)). subst (λ (z : Known S L). z.number ≡ j) p.1 (r.numbers id k at ∙ sym p.0))
            (λ (q : ((j ≢ id) × (get_elem? ks j ≡ some x)) ⊎ ((j ≡ length set_one) × (new ≡ x))). ⊎_elim
            (λ (p : (j ≢ id) × (get_elem? ks j ≡ some x)). r.numbers j x (p.1, there.1))
            (λ (p : (j ≡ length set_one) × (new ≡ x)). subst (λ (z : Known S L). z.number ≡ j) p.1 (made_is ∙ (sym long ∙ sym p.0)))
            q)
            (at_split ks id j w new x there.0);
        mine = λ j x there. ⊎_elim
            (λ (p : (j ≡ id) × (w ≡ x)). subst (λ (z : Known S L). own seat_of lines z.number ≡ own seat_of z.seen z.number) p.1 (r.mine id k at))
            (λ (q : ((j ≢ id) × (get_elem? ks j ≡ some x)) ⊎ ((j ≡ length set_one) × (new ≡ x))). ⊎_elim
            (λ (p : (j ≢ id) × (get_elem? ks j ≡ some x)). r.mine j x (p.1, there.1))
            (λ (p : (j ≡ length set_one) × (new ≡ x)).
            let none : own seat_of lines k.made ≡ [] = own_none seat_of lines k.made (All-weaker (λ (l : L). seat_of l < length ks) (λ (l : L). seat_of l ≢ k.made) (λ l lt e. let n : ℕ = seat_of l in let lt' : n < length ks = lt in let e' : n ≡ k.made = e in omega arith) lines r.named) in
            subst (λ (z : Known S L). own seat_of lines z.number ≡ own seat_of z.seen z.number) p.1 (none ∙ sym (own_part seat_of k.seen lines k.made (r.seen id k at) none)))
            q)
            (at_split ks id j w new x there.0);
        whole = λ x there n none. let same : w ≡ x = same_seat ks' id 0 w x at_left there id_is in
            subst (λ (z : Known S L). own seat_of lines n ≡ own seat_of z.seen n) same (r.whole k at0 n (back n none));
        ended = λ x there n among. let same : w ≡ x = same_seat ks' id 0 w x at_left there id_is in
            let o = r.ended k at0 n (subst (λ (z : Known S L). Contains z.ended n) (sym same) among) in let lt = o.0 in (
              subst (λ (z : Known S L). n < z.made) same (omega arith),
              λ j y ne here. ⊎_elim
                  (λ (p : (j ≡ id) × (w ≡ y)). absurd (ne (p.0 ∙ id_is)))
                  (λ (q : ((j ≢ id) × (get_elem? ks j ≡ some y)) ⊎ ((j ≡ length set_one) × (new ≡ y))). ⊎_elim
                  (λ (p : (j ≢ id) × (get_elem? ks j ≡ some y)). o.1 j y ne (p.1, here.1))
                  (λ (p : (j ≡ length set_one) × (new ≡ y)). subst (λ (z : Known S L). z.number ≢ n) p.1 (λ e. let e' : k.made ≡ n = e in omega arith))
                  q)
                  (at_split ks id j w new y here.0),
            );
        named = All-weaker (λ (l : L). seat_of l < length ks) (λ (l : L). seat_of l < length ks') (λ l lt. let n : ℕ = seat_of l in let lt' : n < length ks = lt in omega arith) lines r.named;
        merged = λ x there. let same : w ≡ x = same_seat ks' id 0 w x at_left there id_is in subst (λ (z : Known S L). Kept seat_of z.merged) same (r.merged k at0);
      }
