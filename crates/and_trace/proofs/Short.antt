-- Numbers of 32 bits have 64 bits at most.
use Rattle.std.proofs.Common.{ℕ, ◌<◌, ◌^◌, List, [], ◌∷◌, arith}
use Rattle.and_trace.specs.declared.word.Word.{Word}
use Rattle.and_trace.specs.declared.word.Word.TheVariants.{Text, Number, AtHost, AtGate, HostWorker, HostCoproc, GateWorker}
use Rattle.and_trace.specs.Spelling.{FitsWord, FitWords}
use Rattle.and_trace.specs.Grammar.{IsShort, AreShort}

pub wide : (n : ℕ) → n < 2 ^ 32 → n < 2 ^ 64
wide n short = omega arith

pub fits_word : (w : Word) → IsShort w → FitsWord w
fits_word (Text k) short = tt
fits_word (Number n) short = wide n short
fits_word (AtHost host) short = wide host short
fits_word (AtGate gate) short = wide gate short
fits_word (HostWorker host index) short = (wide host short.0, wide index short.1)
fits_word (HostCoproc host) short = wide host short
fits_word (GateWorker gate) short = wide gate short

pub fit_words : (ws : List Word) → AreShort ws → FitWords ws
fit_words [] short = tt
fit_words (w ∷ ws) short = (fits_word w short.0, fit_words ws short.1)
