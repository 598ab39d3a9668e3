-- How the table begins, and what it has at its end.
use Rattle.std.proofs.Common.{◌≡◌, ◌≢◌, inl, ⊎_elim, ℕ, zero, suc, ◌+◌, ◌<◌, Bool, true, false, List, [], ◌∷◌, ◌++◌, sym, refl, ap, ◌∙◌, subst, arith, Option, Some}
use Rattle.std.specs.Prelude.{Contains}
use Rattle.std.proofs.lemmas.Bool.{false≢true}
use Rattle.std.proofs.lemmas.List.Elements.{All-nil}
use mathlib.Core.Logic.{dite}
use mathlib.Core.Option.{some, some-injective, some-ne-none}
use mathlib.Core.Option as maybe
use native.Mathlib.Decide.{ℕ_discrete}
use lib.ListN.{get_elem?}
use Rattle.atomic_table.specs.Table.{State, Final, Seen, opening}
use Rattle.and_turn.specs.declared.view.Known.{Known}
use Rattle.and_turn.specs.declared.view.Stage.{Stage}
use Rattle.and_turn.specs.declared.view.Stage.TheVariants.{Out, Has}
use Rattle.and_turn.specs.declared.view.View.{View}
use Rattle.and_turn.specs.Tales.{IsPrefix, own}
use Rattle.and_turn.specs.Turns.{IsAt, facts, Sits, Kept, IsHome, IsAway, Sat, joined_view, opening_view}
use Rattle.and_turn.proofs.Keeping.{Rule, known_at}
use Rattle.and_turn.proofs.Knowing.{seats_two}
use Rattle.and_turn.proofs.Places.{same_place}
use Rattle.and_turn.proofs.Queue.{kind}
use Rattle.and_turn.proofs.Tales.{prefix_self, all_seen}

module _ {S L R : Type 0} (lines_of : S → List L) (root_of : S → R) (seat_of : L → ℕ) (opened : S) where
  at_home : (s : State (Option S) (View S L)) (lines seen : List L) → IsHome lines_of root_of seat_of opened s.homes s.views lines → seen ≡ lines
      → (x : S) × (s.homes ≡ some (Some x) ∷ []) × (lines_of x ≡ seen) × (root_of x ≡ root_of opened)
  at_home s lines seen h is = (h.0.0, h.0.1, h.0.2 ∙ sym is, h.0.3)

  -- at the end the first seat is alone: the slot is home, and it has seen all lines
  pub closes : (s : State (Option S) (View S L)) (id : ℕ) (v : View S L) → Seen (Rule lines_of root_of seat_of opened) id v s → v.stage ≡ Out → v.known.live ≡ true → v.known.number ≡ 0 → v.known.out ≡ 0
      → (x : S) × (s.homes ≡ some (Some x) ∷ []) × (lines_of x ≡ v.known.seen) × (root_of x ≡ root_of opened)
  closes s id v (r, at) out live zero_is none_out = let sits = known_at s.views id v at live in
      let id_is : id ≡ 0 = sym (r.numbers id v.known sits) ∙ zero_is in
      let at0 : Sits (facts s.views) 0 v.known = subst (λ (m : ℕ). Sits (facts s.views) m v.known) id_is sits in
      let f = r.first in let is : f.0 ≡ v.known = same_place (facts s.views) 0 0 f.0 v.known f.1.0 at0.0 refl in
      let out_is : f.0.out ≡ 0 = ap (λ (z : Known S L). z.out) is ∙ none_out in let sum = f.2 in
      let alone : (j : ℕ) (k : Known S L) → Sits (facts s.views) j k → j ≡ id = λ j k there. dite (ℕ_discrete j id) (λ e. e) (λ ne. let two = seats_two (facts s.views) j id k v.known there sits ne in absurd (omega arith)) in
      let seen_is : v.known.seen ≡ r.lines = all_seen seat_of v.known.seen r.lines (r.seen id v.known sits) (λ n. r.whole v.known at0 n (λ j k nz there. absurd (nz (alone j k there ∙ id_is)))) in
      let home : IsHome lines_of root_of seat_of opened s.homes s.views r.lines = ⊎_elim (λ (h : IsHome lines_of root_of seat_of opened s.homes s.views r.lines). h)
      (λ (h : IsAway lines_of root_of seat_of opened s.homes s.views r.served r.lines). let j = h.1.0 in let u = h.1.1 in
      let not_out : u.stage ≢ Out = λ e. let no : 2 ≡ 0 = sym (ap kind h.1.3) ∙ ap kind e in absurd (omega arith) in
      let lives : (b : Bool) → u.known.live ≡ b → ⊥ = λ b. elim b as (λ (c : Bool). u.known.live ≡ c → ⊥) [
        | true ↦ λ e. let same : u.stage ≡ v.stage = ap (λ (z : View S L). z.stage) (same_place s.views j id u v h.1.2 at (alone j u.known (known_at s.views j u h.1.2 e))) in not_out (same ∙ out)
        | false ↦ λ e. not_out (r.idle j u h.1.2 e)
      ] in absurd (lives u.known.live refl))
      r.slot in
      at_home s r.lines v.known.seen home seen_is

  pub closed_slot : (ws : List ℕ) (xs : List (Option S)) (id : ℕ) (v : View S L) → Final (Seen (Rule lines_of root_of seat_of opened) id v) ws xs → v.stage ≡ Out → v.known.live ≡ true → v.known.number ≡ 0 → v.known.out ≡ 0
      → (x : S) × (get_elem? xs 0 ≡ some (Some x)) × (lines_of x ≡ v.known.seen) × (root_of x ≡ root_of opened)
  closed_slot ws xs id v final out live zero_is none_out = let c = closes final.0 id v final.1 out live zero_is none_out in
      (c.0, final.4 0 (Some c.0) (ap (λ (hs : List (maybe.Option (Option S))). get_elem? hs 0) c.1), c.2, c.3)

  only : {A : Type 0} (a b : A) (j : ℕ) → get_elem? (a ∷ []) j ≡ some b → (j ≡ 0) × (a ≡ b)
  only a b zero e = (refl, some-injective a b e)
  only a b (suc j) e = absurd (some-ne-none b (sym e))

  -- a table with one seat and a value of no lines meets the rule
  pub opens : lines_of opened ≡ [] → Rule lines_of root_of seat_of opened (opening (0 ∷ 0 ∷ 0 ∷ []) (Some opened ∷ []) (opening_view opened))
  opens empty = let k : Known S L = (opening_view opened).known in let ks : List (Known S L) = k ∷ [] in record {
    drawn = 0;
    served = 0;
    lines = [];
    idle = λ j v there dead. absurd (false≢true (sym dead ∙ ap (λ (z : View S L). z.known.live) (sym (only (opening_view opened) v j there).1)));
    words = refl;
    counted = refl;
    range = λ j t g there here. absurd (subst (λ (z : Stage). IsAt z t) (sym (only Out g j there).1) here);
    apart = λ i j t g h there there' here here'. absurd (subst (λ (z : Stage). IsAt z t) (sym (only Out g i there).1) here);
    turn = λ j t there. let no : 0 ≡ 2 = ap kind (only Out (Has t) j there).1 in absurd (omega arith);
    slot = inl ((opened, refl, empty, refl), λ j t there. let no : 0 ≡ 2 = ap kind (only Out (Has t) j there).1 in absurd (omega arith));
    seen = λ j x there. subst (λ (z : Known S L). IsPrefix z.seen []) (only k x j there.0).1 (prefix_self []);
    rooted = λ j x there. subst (λ (z : Known S L). z.opened ≡ Some opened) (only k x j there.0).1 refl;
    first = (k, (refl, refl), refl, refl);
    few = omega arith;
    numbers = λ j x there. subst (λ (z : Known S L). z.number ≡ j) (only k x j there.0).1 (sym (only k x j there.0).0);
    mine = λ j x there. subst (λ (z : Known S L). own seat_of [] z.number ≡ own seat_of z.seen z.number) (only k x j there.0).1 refl;
    whole = λ x there n none. subst (λ (z : Known S L). own seat_of [] n ≡ own seat_of z.seen n) (only k x 0 there.0).1 refl;
    ended = λ x there n among. let h : Contains [] n = subst (λ (z : Known S L). Contains z.ended n) (sym (only k x 0 there.0).1) among in let lt : h.0 < 0 = h.1 in absurd (omega arith);
    named = All-nil (λ (l : L). seat_of l < 1);
    merged = λ x there. let kept : Kept seat_of k.merged = record { before = prefix_self []; joined = prefix_self []; last = refl; first = refl; earlier = λ n h. refl; out = omega arith } in subst (λ (z : Known S L). Kept seat_of z.merged) (only k x 0 there.0).1 kept;
  }

-- the same, of a list of slots to which the value was added
pub opens_with : {S L R : Type 0} (lines_of : S → List L) (root_of : S → R) (seat_of : L → ℕ) (x value : S) (before slots : List (Option S)) → x ≡ value → before ≡ [] → slots ≡ before ++ Some value ∷ [] → lines_of value ≡ []
    → Rule lines_of root_of seat_of x (opening (0 ∷ 0 ∷ 0 ∷ []) slots (opening_view x))
opens_with {S = S} lines_of root_of seat_of x value before slots same none_before added empty = let is : slots ≡ Some x ∷ [] = added ∙ (ap (λ (l : List (Option S)). l ++ Some value ∷ []) none_before ∙ ap (λ (z : S). Some z ∷ []) (sym same)) in
    subst (λ (l : List (Option S)). Rule lines_of root_of seat_of x (opening (0 ∷ 0 ∷ 0 ∷ []) l (opening_view x))) (sym is) (opens lines_of root_of seat_of x (ap lines_of same ∙ empty))

-- what a look after a join tells
joined_kept : {S L : Type 0} (seat_of : L → ℕ) (v w : View S L) (held : List (ℕ × Option S)) (m : Sat S L) → m ≡ (joined_view v w, held)
    → (m.0.known.live ≡ true → m.0.known.number ≡ 0 → Kept seat_of m.0.known.merged) → v.known.live ≡ true → v.known.number ≡ 0 → Kept seat_of (joined_view v w).known.merged
joined_kept {S = S} {L = L} seat_of v w held m is told live zero_is = subst (λ (z : Sat S L). Kept seat_of z.0.known.merged) is
    (told (ap (λ (z : Sat S L). z.0.known.live) is ∙ live) (ap (λ (z : Sat S L). z.0.known.number) is ∙ zero_is))

-- the first seat had one out more
pub joined_out : {S L : Type 0} (seat_of : L → ℕ) (v w : View S L) (held : List (ℕ × Option S)) (m m' : Sat S L) → m ≡ (joined_view v w, held) → m' ≡ m
    → (m.0.known.live ≡ true → m.0.known.number ≡ 0 → Kept seat_of m.0.known.merged) → v.known.live ≡ true → v.known.number ≡ 0
    → v.known.out ≡ m'.0.known.out + 1
joined_out {S = S} {L = L} seat_of v w held m m' is same told live zero_is =
    omega (arith, (joined_kept seat_of v w held m is told live zero_is).out, ap (λ (z : Sat S L). z.0.known.out) (same ∙ is))

-- the lines of each number that was joined before are as they were
pub joined_ended : {S L : Type 0} (seat_of : L → ℕ) (v w : View S L) (held : List (ℕ × Option S)) (m m' : Sat S L) → m ≡ (joined_view v w, held) → m' ≡ m
    → (m.0.known.live ≡ true → m.0.known.number ≡ 0 → Kept seat_of m.0.known.merged) → v.known.live ≡ true → v.known.number ≡ 0
    → (n : ℕ) → Contains v.known.ended n → own seat_of m'.0.known.seen n ≡ own seat_of v.known.seen n
joined_ended {S = S} {L = L} seat_of v w held m m' is same told live zero_is n among =
    ap (λ (z : Sat S L). own seat_of z.0.known.seen n) (same ∙ is) ∙ (joined_kept seat_of v w held m is told live zero_is).earlier n among
