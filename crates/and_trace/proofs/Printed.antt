-- Lines that are put one by one give the trace.
use Rattle.std.proofs.Common.{◌≡◌, ◌<◌, ◌+◌, ℕ, List, [], ◌∷◌, ◌++◌, length, drop, get_or, map, refl, ap, ◌∙◌, subst, sym}
use Rattle.std.proofs.Math.Numerals.{suc-eq-add-one}
use Rattle.std.proofs.Math.Seq.{drop-cons}
use Rattle.std.specs.List.{fold}
use Rattle.and_events.specs.declared.event.Event.{Event}
use Rattle.and_events.specs.declared.event.Line.{Line}
use Rattle.and_events.specs.Run.{past}
use Rattle.and_trace.specs.Spelling.{trace, title, line_of, rest_of, HaveSpellings, IsSpelled}
use Rattle.and_trace.specs.Grammar.{AreShort, AreWritten, Spells}
use Rattle.and_trace.proofs.Short.{fit_words}

-- a text with the lines put at its end
abbrev pub printed : List ℕ → List Line → List ℕ
printed text ls = fold (λ t l. t ++ line_of l.event) text ls

printed_from : (h : List Event) (ls : List Line) → printed (trace h) ls ≡ trace (fold (λ h l. l.event ∷ h) h ls)
unfolding trace
printed_from h [] = refl
printed_from h (l ∷ ls) = printed_from (l.event ∷ h) ls

pub printed_all : (ls : List Line) → printed title ls ≡ trace (past ls)
unfolding trace
printed_all ls = printed_from [] ls

-- the numbers of all lines have 32 bits at most
unfoldable pub AreFit : List Line → Type 0
AreFit [] = Unit {0}
AreFit (l ∷ ls) = AreShort (rest_of l.event) × AreFit ls

-- one line more was put

behind_next : (ls : List Line) (i : ℕ) (d : Line) → i < length ls → drop i ls ≡ get_or ls i d ∷ drop (i + 1) ls
behind_next ls i d below = drop-cons ls i d below ∙ ap (λ n. get_or ls i d ∷ drop n ls) (suc-eq-add-one i)

pub put_next : (ls : List Line) (i : ℕ) (d : Line) (text new whole : List ℕ) → i < length ls → new ≡ text ++ line_of (get_or ls i d).event → printed text (drop i ls) ≡ whole
    → printed new (drop (i + 1) ls) ≡ whole
put_next ls i d text new whole below put before =
    ap (λ t. printed t (drop (i + 1) ls)) put ∙ subst (λ rest. printed text rest ≡ whole) (behind_next ls i d below) before

pub fit_next : (ls : List Line) (i : ℕ) (d : Line) → i < length ls → AreShort (rest_of (get_or ls i d).event) → (AreFit (drop i ls) → AreFit ls) → AreFit (drop (i + 1) ls) → AreFit ls
unfolding AreFit
fit_next ls i d below fits before rest = before (subst AreFit (sym (behind_next ls i d below)) (fits, rest))

spelled_from : (h : List Event) (ls : List Line) → AreFit ls → (HaveSpellings h → IsSpelled h) → HaveSpellings (fold (λ h l. l.event ∷ h) h ls) → IsSpelled (fold (λ h l. l.event ∷ h) h ls)
unfolding AreFit HaveSpellings IsSpelled
spelled_from h [] fits before have = before have
spelled_from h (l ∷ ls) fits before have = spelled_from (l.event ∷ h) ls fits.1 (λ more. (before more.0, more.1, fit_words (rest_of l.event) fits.0)) have

pub spelled_all : (ls whole : List Line) → ls ≡ [] → (AreFit ls → AreFit whole) → HaveSpellings (past whole) → IsSpelled (past whole)
unfolding AreFit HaveSpellings IsSpelled
spelled_all ls whole none fits have = spelled_from [] whole (fits (subst AreFit (sym none) tt)) (λ none. tt) have

-- what was printed is read back: the events, oldest first

same_history : (h : List Event) (ls : List Line) → fold (λ h e. e ∷ h) h (map (λ l. l.event) ls) ≡ fold (λ h l. l.event ∷ h) h ls
same_history h [] = refl
same_history h (l ∷ ls) = same_history (l.event ∷ h) ls

written_from : (h : List Event) (ls : List Line) → AreFit ls → HaveSpellings (fold (λ h l. l.event ∷ h) h ls) → AreWritten (map (λ l. l.event) ls) × HaveSpellings h
unfolding AreFit AreWritten HaveSpellings
written_from h [] fits have = (tt, have)
written_from h (l ∷ ls) fits have =
    let rest = written_from (l.event ∷ h) ls fits.1 have in
    ((record { spelled = rest.1.1; short = fits.0 }, rest.0), rest.1.0)

pub spells_all : (ls whole : List Line) (text : List ℕ) → ls ≡ [] → (AreFit ls → AreFit whole) → printed text ls ≡ trace (past whole) → HaveSpellings (past whole)
    → Spells text (map (λ l. l.event) whole)
unfolding AreFit
spells_all ls whole text none fits same have = record {
  written = (written_from [] whole (fits (subst AreFit (sym none) tt)) have).0;
  text_is = subst (λ rest. printed text rest ≡ trace (past whole)) none same ∙ ap trace (sym (same_history [] whole));
}
