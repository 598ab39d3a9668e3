-- The line of an event ends at its only line feed.
use Rattle.std.proofs.Common.{◌≡◌, ◌≢◌, ℕ, true, ◌==◌, None, List, [], ◌∷◌, ◌++◌, length, refl, sym, ap, ◌∙◌, arith, rules, append_assoc}
use Rattle.std.specs.List.{flat_map, position}
use Rattle.and_events.specs.declared.event.Event.{Event}
use Rattle.and_trace.specs.declared.word.Word.{Word}
use Rattle.and_trace.specs.Words.{spelling, key_text}
use Rattle.and_trace.specs.Spelling.{spaced, kind_of, rest_of, said, line_of}
use Rattle.and_trace.specs.Grammar.{AreShort, IsWritten}
use Rattle.and_trace.specs.Fields.{upto}
use Rattle.and_trace.proofs.Cutting.{AllPass, pass_both}
use Rattle.and_trace.proofs.Lines.{is_clean, text_clean, word_clean}
use Rattle.and_trace.proofs.Short.{fits_word}
use Rattle.and_trace.proofs.Fielded.{misses, upto_is}
use Rattle.and_trace.proofs.Cuts.{upto_none}

feed_missed : (c : ℕ) → is_clean c ≡ true → misses 10 c ≡ true
feed_missed c clean = search rules

no_feed : (xs : List ℕ) → AllPass is_clean xs → AllPass (misses 10) xs
no_feed [] clean = tt
no_feed (x ∷ xs) clean = (feed_missed x clean.0, no_feed xs clean.1)

words_no_feed : (ws : List Word) → AreShort ws → AllPass (misses 10) (flat_map spaced ws)
words_no_feed [] short = tt
words_no_feed (w ∷ ws) short =
    pass_both (misses 10) (32 ∷ spelling w) (flat_map spaced ws) (refl, no_feed (spelling w) (word_clean w (fits_word w short.0))) (words_no_feed ws short.1)

said_no_feed : (e : Event) → IsWritten e → AllPass (misses 10) (said e)
said_no_feed e is = pass_both (misses 10) (key_text (kind_of e)) (flat_map spaced (rest_of e)) (no_feed (key_text (kind_of e)) (text_clean (kind_of e))) (words_no_feed (rest_of e) is.short)

line_before : (e : Event) (more : List ℕ) → line_of e ++ more ≡ said e ++ 10 ∷ more
line_before e more = append_assoc (said e) (10 ∷ []) more

-- up to its line feed a text that begins with the line of an event is the words of that event
pub said_is : (e : Event) (text more : List ℕ) → IsWritten e → text ≡ line_of e ++ more → upto 10 text ≡ said e
said_is e text more is same =
    ap (λ t. upto 10 t) (same ∙ line_before e more) ∙ upto_is 10 (said e) (10 ∷ more) (said_no_feed e is) refl

-- a text without a line feed does not begin with the line of an event
pub no_end : (e : Event) (text more : List ℕ) → IsWritten e → position (λ c. c == 10) text ≡ None → text ≢ line_of e ++ more
no_end e text more is none same =
    let all : text ≡ said e = upto_none 10 text none ∙ said_is e text more is same in
    let long : length (said e) ≡ length (said e ++ 10 ∷ more) = ap length (sym all ∙ (same ∙ line_before e more)) in
    longer (said e) more long
  where
    longer : (xs more : List ℕ) → length xs ≡ length (xs ++ 10 ∷ more) → ⊥
    longer [] more e = let never : ⊥ = omega (arith, e) in never
    longer (x ∷ xs) more e = longer xs more (omega (arith, e))
