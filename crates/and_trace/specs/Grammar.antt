-- The format of a trace, as a relation of whole texts and lists of events, apart from how a text is read.
use Rattle.std.specs.Prelude.{ℕ, ◌+◌, ◌<◌, ◌^◌, ◌≡◌, ◌≢◌, ◌⊎◌, List, [], ◌∷◌, ◌++◌, length, fold}
use Rattle.and_events.specs.declared.event.Event.{Event}
use Rattle.and_trace.specs.declared.word.Word.{Word}
use Rattle.and_trace.specs.declared.word.Word.TheVariants.{Text, Number, AtHost, AtGate, HostWorker, HostCoproc, GateWorker}
use Rattle.and_trace.specs.Spelling.{HasSpelling, rest_of, line_of, title, trace}

-- numbers of 32 bits, as those of an event are
abbrev pub IsShort : Word → Type 0
IsShort (Text k) = Unit {0}
IsShort (Number n) = n < 2 ^ 32
IsShort (AtHost host) = host < 2 ^ 32
IsShort (AtGate gate) = gate < 2 ^ 32
IsShort (HostWorker host index) = (host < 2 ^ 32) × (index < 2 ^ 32)
IsShort (HostCoproc host) = host < 2 ^ 32
IsShort (GateWorker gate) = gate < 2 ^ 32

abbrev pub AreShort : List Word → Type 0
AreShort [] = Unit {0}
AreShort (w ∷ ws) = IsShort w × AreShort ws

-- an event that has a line: its actor, if it names one, takes packets, and its numbers have 32 bits
pub record IsWritten (e : Event) : Type 0 where
  pub spelled : HasSpelling e
  pub short : AreShort (rest_of e)

unfoldable pub AreWritten : List Event → Type 0
AreWritten [] = Unit {0}
AreWritten (e ∷ es) = IsWritten e × AreWritten es

-- a list of events, oldest first, as a history, whose newest event is first
abbrev pub newest_first : List Event → List Event
newest_first es = fold (λ h e. e ∷ h) [] es

-- the text spells these events, oldest first
pub record Spells (text : List ℕ) (es : List Event) : Type 0 where
  pub written : AreWritten es
  pub text_is : text ≡ trace (newest_first es)

-- behind the lines of these events, all of which have one, stands something that begins with the line of no event
pub record StopsAfter (text : List ℕ) (es : List Event) (rest : List ℕ) : Type 0 where
  pub written : AreWritten es
  pub text_is : text ≡ trace (newest_first es) ++ rest
  pub something : rest ≢ []
  pub no_line : (e : Event) → IsWritten e → (more : List ℕ) → rest ≢ line_of e ++ more

-- the line with this number, from 1, is the first that is not in the format
abbrev pub IsFirstBad : List ℕ → ℕ → Type 0
IsFirstBad text n = ((n ≡ 1) × ((more : List ℕ) → text ≢ title ++ more))
    ⊎ ((es : List Event) × (rest : List ℕ) × (n ≡ length es + 2) × StopsAfter text es rest)
