-- Words are drawn as they are used: three for each frame.
use Rattle.std.proofs.Common.{◌≡◌, ℕ, suc, ◌+◌, ◌-◌, ◌*◌, ◌<◌, ◌≤◌, List, [], ◌∷◌, ◌++◌, refl, sym, ap, ◌∙◌, append_assoc, add-one, arith}
use Rattle.std.proofs.lemmas.List.{append-nil}
use Rattle.rand_core.specs.Steps.{first_words}
use Rattle.rand_pcg.specs.Lcg.{Lcg}
use Rattle.rand_pcg.specs.Pcg.{pcg32}
use Rattle.and_capture.specs.declared.capture.Taken.{Taken}
use Rattle.and_make.specs.Frames.{taken, frames_from, generator, words}

-- so many frames from number i on, of a generator's next words
unfoldable pub left : ℕ → ℕ → Lcg → List Taken
left i n g = frames_from i (first_words pcg32 (3 * n) g)

-- the generator after so many words
abbrev pub after_two : Lcg → Lcg
after_two g = (pcg32 (pcg32 g).1).1

abbrev pub after_three : Lcg → Lcg
after_three g = (pcg32 (after_two g)).1

-- the next frame
abbrev pub next_frame : ℕ → Lcg → Taken
next_frame i g = taken i (pcg32 g).0 (pcg32 (pcg32 g).1).0 (pcg32 (after_two g)).0

pub left_none : (i : ℕ) (g : Lcg) → left i 0 g ≡ []
unfolding left first_words frames_from
left_none i g = refl

three_more : {S : Type 0} (step : S → ℕ × S) (k : ℕ) (g : S) → first_words step (suc (suc (suc k))) g
    ≡ (step g).0 ∷ (step (step g).1).0 ∷ (step (step (step g).1).1).0 ∷ first_words step k (step (step (step g).1).1).1
unfolding first_words
three_more step k g = refl

pub left_more : (i n : ℕ) (g : Lcg) → left i (n + 1) g ≡ next_frame i g ∷ left (i + 1) n (after_three g)
unfolding left frames_from
left_more i n g =
    let e : 3 * (n + 1) ≡ suc (suc (suc (3 * n))) = omega arith in
    ap (λ (k : ℕ). frames_from i (first_words pcg32 k g)) e ∙ ap (frames_from i) (three_more pcg32 (3 * n) g) ∙ rw add-one refl

-- nothing is drawn yet
pub drawn_none : (n : ℕ) (g : Lcg) (frames : List Taken) → frames ≡ [] → g ≡ generator n → frames ++ left 0 (n - 0) g ≡ frames_from 0 (words n)
unfolding left
drawn_none n g frames none start =
    let all : n - 0 ≡ n = omega arith in
    ap (λ (l : List Taken). l ++ left 0 (n - 0) g) none ∙ ap (λ (k : ℕ). left 0 k g) all ∙ ap (left 0 n) start

-- one more frame is drawn
pub drawn_more : (i n : ℕ) (g next : Lcg) (frames more all : List Taken) (t : Taken) → i < n → frames ++ left i (n - i) g ≡ all → t ≡ next_frame i g → next ≡ after_three g
    → more ≡ frames ++ t ∷ [] → more ++ left (i + 1) (n - (i + 1)) next ≡ all
drawn_more i n g next frames more all t below before is drawn put =
    let k : ℕ = n - (i + 1) in
    let e : n - i ≡ k + 1 = omega arith in
    ap (λ (l : List Taken). l ++ left (i + 1) k next) (put ∙ ap (λ (x : Taken). frames ++ x ∷ []) is)
    ∙ ap (λ (h : Lcg). (frames ++ next_frame i g ∷ []) ++ left (i + 1) k h) drawn
    ∙ append_assoc frames (next_frame i g ∷ []) (left (i + 1) k (after_three g))
    ∙ ap (λ (l : List Taken). frames ++ l) (sym (left_more i k g))
    ∙ ap (λ (m : ℕ). frames ++ left i m g) (sym e)
    ∙ before

-- all are drawn
pub drawn_all : (i n : ℕ) (g : Lcg) (frames all : List Taken) → n ≤ i → frames ++ left i (n - i) g ≡ all → frames ≡ all
drawn_all i n g frames all end before =
    let none : n - i ≡ 0 = omega arith in
    sym (append-nil frames) ∙ ap (λ (l : List Taken). frames ++ l) (sym (ap (λ (k : ℕ). left i k g) none ∙ left_none i g)) ∙ before
