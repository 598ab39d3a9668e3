-- A trace names one history.
use Rattle.std.proofs.Common.{◌≡◌, ℕ, ◌+◌, List, [], ◌∷◌, ◌++◌, length, refl, sym, ap, ◌∙◌, arith, append_assoc, append-nil, length-append}
use Rattle.std.specs.List.{flat_map}
use Rattle.and_events.specs.declared.event.Event.{Event}
use Rattle.and_trace.specs.declared.word.Key.{Key}
use Rattle.and_trace.specs.declared.word.Word.{Word}
use Rattle.and_trace.specs.declared.word.Word.TheVariants.{Text}
use Rattle.and_trace.specs.Words.{spelling, key_text}
use Rattle.and_trace.specs.Spelling.{spaced, kind_of, rest_of, line_of, title, trace, HasSpelling, FitWords, IsSpelled}
use Rattle.and_trace.proofs.Cutting.{tail_is}
use Rattle.and_trace.proofs.ReadBack.{same_word}
use Rattle.and_trace.proofs.Lines.{ended, text_clean, words_same}
use Rattle.and_trace.proofs.Events.{same_event}

-- the oldest first
abbrev turned : List Event → List Event → List Event
turned [] es = es
turned (e ∷ h) es = turned h (e ∷ es)

turned_twice : (h es b : List Event) → turned (turned h es) b ≡ turned es (h ++ b)
turned_twice [] es b = refl
turned_twice (e ∷ h) es b = turned_twice h (e ∷ es) b

abbrev Spelled : List Event → Type 0
Spelled [] = Unit {0}
Spelled (e ∷ es) = (HasSpelling e × FitWords (rest_of e)) × Spelled es

spelled_turned : (h es : List Event) → IsSpelled h → Spelled es → Spelled (turned h es)
unfolding IsSpelled
spelled_turned [] es a b = b
spelled_turned (e ∷ h) es a b = spelled_turned h (e ∷ es) a.0 ((a.1, a.2), b)

-- the lines of events, oldest first
abbrev lines : List Event → List ℕ
lines [] = []
lines (e ∷ es) = key_text (kind_of e) ++ ended (rest_of e) (lines es)

line_and_more : (e : Event) (es : List Event) → line_of e ++ lines es ≡ lines (e ∷ es)
line_and_more e es =
    append_assoc (key_text (kind_of e) ++ flat_map spaced (rest_of e)) (10 ∷ []) (lines es)
    ∙ append_assoc (key_text (kind_of e)) (flat_map spaced (rest_of e)) (10 ∷ lines es)

trace_turned : (h es : List Event) → trace h ++ lines es ≡ title ++ lines (turned h es)
unfolding trace
trace_turned [] es = refl
trace_turned (e ∷ h) es =
    append_assoc (trace h) (line_of e) (lines es) ∙ (ap (λ ts. trace h ++ ts) (line_and_more e es) ∙ trace_turned h (e ∷ es))

whole : (h : List Event) → trace h ≡ title ++ lines (turned h [])
whole h = sym (append-nil (trace h)) ∙ trace_turned h []

pub same_rest : (xs us vs : List ℕ) → xs ++ us ≡ xs ++ vs → us ≡ vs
same_rest [] us vs e = e
same_rest (x ∷ xs) us vs e = same_rest xs us vs (tail_is x x (xs ++ us) (xs ++ vs) e)

-- a line is not empty
no_line : (e : Event) (es : List Event) → [] ≡ lines (e ∷ es) → ⊥
no_line e es is =
    let long : length (lines (e ∷ es)) ≡ length (key_text (kind_of e)) + (length (flat_map spaced (rest_of e)) + length (10 ∷ lines es))
    = simp length-append refl in
    let short : 0 ≡ length (lines (e ∷ es)) = ap length is in
    omega (arith, long, short)

keys_same : (j k : Key) → key_text j ≡ key_text k → Text j ≡ Text k
unfolding spelling
keys_same j k e = same_word (Text j) (Text k) tt tt e

abbrev key_in : Word → Key → Key
key_in (Text k) other = k
key_in w other = other

same_lines : (es fs : List Event) → Spelled es → Spelled fs → lines es ≡ lines fs → es ≡ fs
same_lines [] [] a b is = refl
same_lines [] (f ∷ fs) a b is = absurd (no_line f fs is)
same_lines (e ∷ es) [] a b is = absurd (no_line e es (sym is))
same_lines (e ∷ es) (f ∷ fs) a b is =
    let s = words_same (rest_of e) (rest_of f) (lines es) (lines fs) a.0.1 b.0.1 (key_text (kind_of e)) (key_text (kind_of f))
    (text_clean (kind_of e)) (text_clean (kind_of f)) is in
    let kind : kind_of e ≡ kind_of f = ap (λ w. key_in w (kind_of e)) (keys_same (kind_of e) (kind_of f) s.0) in
    ap (λ x. x ∷ es) (same_event e f a.0.0 b.0.0 kind s.1) ∙ ap (λ xs. f ∷ xs) (same_lines es fs a.1 b.1 s.2)

pub names_one : (g h : List Event) → IsSpelled g → IsSpelled h → trace g ≡ trace h → g ≡ h
names_one g h a b e =
    let texts : lines (turned g []) ≡ lines (turned h []) = same_rest title (lines (turned g [])) (lines (turned h [])) (sym (whole g) ∙ (e ∙ whole h)) in
    let same : turned g [] ≡ turned h [] = same_lines (turned g []) (turned h []) (spelled_turned g [] a tt) (spelled_turned h [] b tt) texts in
    sym (turned_twice g [] [] ∙ append-nil g) ∙ (ap (λ es. turned es []) same ∙ (turned_twice h [] [] ∙ append-nil h))
