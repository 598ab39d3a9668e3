-- How far a text was read: the lines of the events so far, and what is left.
use Rattle.std.proofs.Common.{◌≡◌, ◌≢◌, ℕ, ◌+◌, ◌≤◌, List, [], ◌∷◌, ◌++◌, length, fold, refl, sym, ap, ◌∙◌, arith, append_assoc, append-nil, length-append}
use Rattle.and_events.specs.declared.event.Event.{Event}
use Rattle.and_trace.specs.Spelling.{said, line_of, title, trace}
use Rattle.and_trace.specs.Grammar.{IsWritten, AreWritten, Spells, StopsAfter, newest_first}
use Rattle.and_trace.specs.Fields.{event_in}
use Rattle.and_trace.proofs.Names.{same_rest}
use Rattle.and_trace.proofs.Named.{names_event}
use Rattle.and_trace.proofs.Ends.{said_is}

-- the lines of events, oldest first
abbrev pub lines : List Event → List ℕ
lines [] = []
lines (e ∷ es) = line_of e ++ lines es

trace_more : (h es : List Event) → trace (fold (λ h e. e ∷ h) h es) ≡ trace h ++ lines es
unfolding trace
trace_more h [] = sym (append-nil (trace h))
trace_more h (e ∷ es) = trace_more (e ∷ h) es ∙ append_assoc (trace h) (line_of e) (lines es)

pub trace_is : (es : List Event) → trace (newest_first es) ≡ title ++ lines es
unfolding trace
trace_is es = trace_more [] es

lines_push : (es : List Event) (e : Event) → lines (es ++ e ∷ []) ≡ lines es ++ line_of e
lines_push [] e = append-nil (line_of e)
lines_push (f ∷ es) e = ap (λ t. line_of f ++ t) (lines_push es e) ∙ sym (append_assoc (line_of f) (lines es) (line_of e))

written_push : (es : List Event) (e : Event) → AreWritten es → IsWritten e → AreWritten (es ++ e ∷ [])
unfolding AreWritten
written_push [] e all is = (is, tt)
written_push (f ∷ es) e all is = (all.0, written_push es e all.1 is)

pub written_none : AreWritten []
unfolding AreWritten
written_none = tt

written_head : (e : Event) (es : List Event) → AreWritten (e ∷ es) → IsWritten e
unfolding AreWritten
written_head e es all = all.0

written_tail : (e : Event) (es : List Event) → AreWritten (e ∷ es) → AreWritten es
unfolding AreWritten
written_tail e es all = all.1

not_empty : (e : Event) (more : List ℕ) → [] ≢ line_of e ++ more
not_empty e more same =
    let short : 0 ≡ length (line_of e ++ more) = ap length same in
    let long : length (line_of e ++ more) ≡ length (said e) + 1 + length more = simp length-append refl in
    omega (arith, short, long)

-- two lines with which a text begins are those of one event
same_line : (e f : Event) (text us vs : List ℕ) → IsWritten e → IsWritten f → text ≡ line_of e ++ us → text ≡ line_of f ++ vs → e ≡ f
same_line e f text us vs a b p q =
    let same : said e ≡ said f = sym (said_is e text us a p) ∙ said_is f text vs b q in
    sym (names_event e a) ∙ (ap event_in same ∙ names_event f b)

-- the text may still be that of a list of events: those read so far and these
pub record Left (text rest : List ℕ) (events es : List Event) : Type 0 where
  pub more : List Event
  pub written : AreWritten more
  pub all : es ≡ events ++ more
  pub rest_is : rest ≡ lines more

pub record Reading (text rest : List ℕ) (events : List Event) (line : ℕ) : Type 0 where
  pub written : AreWritten events
  pub text_is : text ≡ (title ++ lines events) ++ rest
  pub number : line ≡ length events + 1
  pub room : line + length rest ≤ length text
  pub left : (es : List Event) → Spells text es → Left text rest events es

spelled_text : (text : List ℕ) (es : List Event) → Spells text es → text ≡ title ++ lines es
spelled_text text es spells = spells.text_is ∙ trace_is es

pub begun : (text rest : List ℕ) → text ≡ title ++ rest → Reading text rest [] 1
begun text rest same = record {
  written = written_none;
  text_is = same ∙ ap (λ t. t ++ rest) (sym (append-nil title));
  number = refl;
  room = let size : length text ≡ 18 + length rest = ap length same ∙ simp length-append refl in omega (arith, size);
  left = λ es spells. record {
    more = es;
    written = spells.written;
    all = refl;
    rest_is = same_rest title rest (lines es) (sym same ∙ spelled_text text es spells);
  };
}

-- behind the line of an event
left_next : (text rest behind : List ℕ) (events es : List Event) (e : Event) → IsWritten e → rest ≡ line_of e ++ behind → Left text rest events es
    → Left text behind (events ++ e ∷ []) es
left_next text rest behind events es e is same left = go left.more left.written left.all left.rest_is
  where
    go : (more : List Event) → AreWritten more → es ≡ events ++ more → rest ≡ lines more → Left text behind (events ++ e ∷ []) es
    go [] written all rest_is = absurd (not_empty e behind (sym rest_is ∙ same))
    go (f ∷ fs) written all rest_is =
        let one : e ≡ f = same_line e f rest behind (lines fs) is (written_head f fs written) same rest_is in
        record {
          more = fs;
          written = written_tail f fs written;
          all = all ∙ (ap (λ g. events ++ g ∷ fs) (sym one) ∙ sym (append_assoc events (e ∷ []) fs));
          rest_is = same_rest (line_of e) behind (lines fs) (sym same ∙ (rest_is ∙ ap (λ g. line_of g ++ lines fs) (sym one)));
        }

pub next : (text rest behind : List ℕ) (events : List Event) (line : ℕ) (e : Event) → Reading text rest events line → IsWritten e → rest ≡ line_of e ++ behind
    → Reading text behind (events ++ e ∷ []) (line + 1)
next text rest behind events line e r is same = record {
  written = written_push events e r.written is;
  text_is = r.text_is ∙ (ap (λ t. (title ++ lines events) ++ t) same ∙ (sym (append_assoc (title ++ lines events) (line_of e) behind)
      ∙ ap (λ t. t ++ behind) (append_assoc title (lines events) (line_of e) ∙ ap (λ t. title ++ t) (sym (lines_push events e)))));
  number = let count : length (events ++ e ∷ []) ≡ length events + 1 = simp length-append refl in omega (arith, count, r.number);
  room = let size : length rest ≡ length (said e) + 1 + length behind = ap length same ∙ simp length-append refl in omega (arith, size, r.room);
  left = λ es spells. left_next text rest behind events es e is same (r.left es spells);
}

-- all was read
pub ended : (text : List ℕ) (events : List Event) (line : ℕ) → Reading text [] events line → Spells text events
ended text events line r = record {
  written = r.written;
  text_is = r.text_is ∙ (append-nil (title ++ lines events) ∙ sym (trace_is events));
}

pub ended_all : (text : List ℕ) (events es : List Event) (line : ℕ) → Reading text [] events line → Spells text es → events ≡ es
ended_all text events es line r spells = go left.more left.all left.rest_is
  where
    left : Left text [] events es
    left = r.left es spells

    go : (more : List Event) → es ≡ events ++ more → [] ≡ lines more → events ≡ es
    go [] all rest_is = sym (all ∙ append-nil events)
    go (f ∷ fs) all rest_is = absurd (not_empty f (lines fs) rest_is)

-- a line that is none
pub stopped : (text rest : List ℕ) (events : List Event) (line : ℕ) → Reading text rest events line → rest ≢ []
    → ((e : Event) → IsWritten e → (more : List ℕ) → rest ≢ line_of e ++ more) → StopsAfter text events rest
stopped text rest events line r some none = record {
  written = r.written;
  text_is = r.text_is ∙ ap (λ t. t ++ rest) (sym (trace_is events));
  something = some;
  no_line = none;
}

pub stopped_all : (text rest : List ℕ) (events es : List Event) (line : ℕ) → Reading text rest events line → rest ≢ []
    → ((e : Event) → IsWritten e → (more : List ℕ) → rest ≢ line_of e ++ more) → Spells text es → ⊥
stopped_all text rest events es line r some none spells = go left.more left.written left.rest_is
  where
    left : Left text rest events es
    left = r.left es spells

    go : (more : List Event) → AreWritten more → rest ≡ lines more → ⊥
    go [] written rest_is = some rest_is
    go (f ∷ fs) written rest_is = none f (written_head f fs written) (lines fs) rest_is

-- a text that does not begin as a trace
pub no_title : (text : List ℕ) (es : List Event) → ((more : List ℕ) → text ≢ title ++ more) → Spells text es → ⊥
no_title text es none spells = none (lines es) (spelled_text text es spells)
