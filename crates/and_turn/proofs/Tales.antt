-- On prefixes of one list, and the lines with one number.
use Rattle.std.proofs.Common.{◌≡◌, ◌≢◌, ℕ, ◌<◌, ◌≤◌, ◌==◌, Bool, true, false, cond, List, [], ◌∷◌, ◌++◌, length, drop, sym, refl, ap, ◌∙◌, arith, append-nil, append_assoc, length-append, eq-eqb, ne_eqb, ltb}
use Rattle.std.specs.Prelude.{All, if◌then◌else◌}
use Rattle.std.proofs.lemmas.Bool.{ltb-true, ltb-false}
use Rattle.std.proofs.lemmas.List.Elements.{filter-append, All-head, All-tail}
use Rattle.std.proofs.lemmas.List.Prefix.{front_from_reads, front_reads}
use Rattle.and_turn.specs.Tales.{IsPrefix, own, longer}

module _ {L : Type 0} where
  pub prefix_self : (xs : List L) → IsPrefix xs xs
  prefix_self xs = ([], sym (append-nil xs))

  pub prefix_longer : (seen xs more : List L) → IsPrefix seen xs → IsPrefix seen (xs ++ more)
  prefix_longer seen xs more h = (h.0 ++ more, ap (λ (l : List L). l ++ more) h.1 ∙ append_assoc seen h.0 more)

  -- of two prefixes of one list, the longer one begins with the shorter one
  pub prefix_of : (a b lines : List L) → IsPrefix a lines → IsPrefix b lines → length a ≤ length b → IsPrefix a b
  prefix_of [] b lines ha hb le = (b, refl)
  prefix_of (x ∷ xs) b lines ha hb le = (
    drop (length (x ∷ xs)) b,
    front_from_reads x b (x ∷ xs) le (λ i lt. sym (front_reads x lines b hb.0 hb.1 i (omega arith)) ∙ front_reads x lines (x ∷ xs) ha.0 ha.1 i lt),
  )

  longer_at : (a b : List L) (P : List L → Type 0) (c : Bool) → ltb (length a) (length b) ≡ c → (length a < length b → P b) → (length b ≤ length a → P a) → P (if c then b else a)
  longer_at a b P true e hit miss = hit (ltb-true (length a) (length b) e)
  longer_at a b P false e hit miss = miss (ltb-false (length a) (length b) e)

  pub longer_cases : (a b : List L) (P : List L → Type 0) → (length a < length b → P b) → (length b ≤ length a → P a) → P (longer a b)
  longer_cases a b P hit miss = longer_at a b P (ltb (length a) (length b)) refl hit miss

  pub longer_prefix : (a b lines : List L) → IsPrefix a lines → IsPrefix b lines → IsPrefix (longer a b) lines
  longer_prefix a b lines ha hb = longer_cases a b (λ (l : List L). IsPrefix l lines) (λ _. hb) (λ _. ha)

  pub longer_left : (a b lines : List L) → IsPrefix a lines → IsPrefix b lines → IsPrefix a (longer a b)
  longer_left a b lines ha hb = longer_cases a b (λ (l : List L). IsPrefix a l) (λ lt. prefix_of a b lines ha hb (omega arith)) (λ _. prefix_self a)

  pub longer_right : (a b lines : List L) → IsPrefix a lines → IsPrefix b lines → IsPrefix b (longer a b)
  longer_right a b lines ha hb = longer_cases a b (λ (l : List L). IsPrefix b l) (λ _. prefix_self b) (λ le. prefix_of b a lines hb ha le)

  empty : (xs : List L) → length xs ≡ 0 → xs ≡ []
  empty [] e = refl
  empty (x ∷ xs) e = absurd (omega arith)

  module _ (seat_of : L → ℕ) where
    pub own_append : (xs ys : List L) (n : ℕ) → own seat_of (xs ++ ys) n ≡ own seat_of xs n ++ own seat_of ys n
    own_append xs ys n = filter-append (λ (l : L). seat_of l == n) xs ys

    pub own_none : (ls : List L) (n : ℕ) → All (λ l. seat_of l ≢ n) ls → own seat_of ls n ≡ []
    own_none [] n all = refl
    own_none (l ∷ ls) n all = let no : (seat_of l == n) ≡ false = ne_eqb (seat_of l) n (All-head (λ (l : L). seat_of l ≢ n) l ls all) in
        ap (λ (b : Bool). cond b (l ∷ own seat_of ls n) (own seat_of ls n)) no ∙ own_none ls n (All-tail (λ (l : L). seat_of l ≢ n) l ls all)

    -- lines of other numbers change nothing
    pub own_other : (xs more : List L) (n : ℕ) → All (λ l. seat_of l ≢ n) more → own seat_of (xs ++ more) n ≡ own seat_of xs n
    own_other xs more n all = own_append xs more n ∙ (ap (λ (l : List L). own seat_of xs n ++ l) (own_none more n all) ∙ append-nil (own seat_of xs n))

    -- what a prefix has all of, no line after it has
    own_rest : (a rest : List L) (n : ℕ) → own seat_of (a ++ rest) n ≡ own seat_of a n → own seat_of rest n ≡ []
    own_rest a rest n e = let long : length (own seat_of (a ++ rest) n) ≡ length (own seat_of a n ++ own seat_of rest n) = ap length (own_append a rest n) in
        let sum = length-append (own seat_of a n) (own seat_of rest n) in let same : length (own seat_of (a ++ rest) n) ≡ length (own seat_of a n) = ap length e in
        empty (own seat_of rest n) (omega arith)

    -- and what it has none of, it has none of
    pub own_part : (a lines : List L) (n : ℕ) → IsPrefix a lines → own seat_of lines n ≡ [] → own seat_of a n ≡ []
    own_part a lines n h e = let long : length (own seat_of lines n) ≡ length (own seat_of a n ++ own seat_of h.0 n) = ap length (ap (λ (l : List L). own seat_of l n) h.1 ∙ own_append a h.0 n) in
        let sum = length-append (own seat_of a n) (own seat_of h.0 n) in let none : length (own seat_of lines n) ≡ 0 = ap length e in
        empty (own seat_of a n) (omega arith)

    -- a prefix that begins with one that has all the lines of a number has them all
    pub own_between : (a b lines : List L) (n : ℕ) → IsPrefix a b → IsPrefix b lines → own seat_of lines n ≡ own seat_of a n → own seat_of lines n ≡ own seat_of b n
    own_between a b lines n ab bl e = let l0 : length (own seat_of lines n) ≡ length (own seat_of b n ++ own seat_of bl.0 n) = ap length (ap (λ (l : List L). own seat_of l n) bl.1 ∙ own_append b bl.0 n) in
        let l1 : length (own seat_of b n) ≡ length (own seat_of a n ++ own seat_of ab.0 n) = ap length (ap (λ (l : List L). own seat_of l n) ab.1 ∙ own_append a ab.0 n) in
        let s0 = length-append (own seat_of b n) (own seat_of bl.0 n) in let s1 = length-append (own seat_of a n) (own seat_of ab.0 n) in
        let same : length (own seat_of lines n) ≡ length (own seat_of a n) = ap length e in
        let none : own seat_of bl.0 n ≡ [] = empty (own seat_of bl.0 n) (omega arith) in
        ap (λ (l : List L). own seat_of l n) bl.1 ∙ (own_append b bl.0 n ∙ (ap (λ (l : List L). own seat_of b n ++ l) none ∙ append-nil (own seat_of b n)))

    pub own_longer_left : (a b lines : List L) (n : ℕ) → IsPrefix a lines → IsPrefix b lines → own seat_of lines n ≡ own seat_of a n → own seat_of lines n ≡ own seat_of (longer a b) n
    own_longer_left a b lines n ha hb e = own_between a (longer a b) lines n (longer_left a b lines ha hb) (longer_prefix a b lines ha hb) e

    pub own_longer_right : (a b lines : List L) (n : ℕ) → IsPrefix a lines → IsPrefix b lines → own seat_of lines n ≡ own seat_of b n → own seat_of lines n ≡ own seat_of (longer a b) n
    own_longer_right a b lines n ha hb e = own_between b (longer a b) lines n (longer_right a b lines ha hb) (longer_prefix a b lines ha hb) e

    no_rest : (rest : List L) → ((n : ℕ) → own seat_of rest n ≡ []) → rest ≡ []
    no_rest [] h = refl
    no_rest (l ∷ ls) h = let n = seat_of l in let yes : (seat_of l == n) ≡ true = eq-eqb (seat_of l) n refl in
        let some_line : own seat_of (l ∷ ls) n ≡ l ∷ own seat_of ls n = ap (λ (b : Bool). cond b (l ∷ own seat_of ls n) (own seat_of ls n)) yes in
        let long : length (l ∷ own seat_of ls n) ≡ 0 = ap length (sym some_line ∙ h n) in absurd (omega arith)

    -- a prefix that has the lines of every number is the list
    pub all_seen : (seen lines : List L) → IsPrefix seen lines → ((n : ℕ) → own seat_of lines n ≡ own seat_of seen n) → seen ≡ lines
    all_seen seen lines h all = let none : h.0 ≡ [] = no_rest h.0 (λ n. own_rest seen h.0 n (ap (λ (l : List L). own seat_of l n) (sym h.1) ∙ all n)) in
        sym (append-nil seen) ∙ (ap (λ (l : List L). seen ++ l) (sym none) ∙ sym h.1)
