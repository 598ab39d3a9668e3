-- Counts of faults, and what a refused read tells.
use Rattle.std.specs.Prelude.{◌≤◌, ◌<◌, ◌+◌, ◌-◌, ◌^◌, ℕ, min}
use Rattle.and_outside.specs.declared.answer.ReadAnswer.{ReadAnswer}
use Rattle.and_outside.specs.declared.answer.ReadAnswer.TheVariants.{Failed, TooLong, NoMemory}

-- a count of 64 bits after n more, which stands still at its type's end
abbrev pub raised : ℕ → ℕ → ℕ
raised n count = min (count + n) (2 ^ 64 - 1)

-- the count rose, or stands at the end of its type
abbrev pub Rose : ℕ → ℕ → Type 0
Rose before now = raised 1 before ≤ now

-- the count rose by more than the limit, or stands at the end of its type
abbrev pub RoseBy : ℕ → ℕ → ℕ → Type 0
RoseBy limit before now = raised (limit + 1) before ≤ now

-- what an answer tells of a content of n bytes, where no fault can have come in between
abbrev pub TellsLength : ReadAnswer → ℕ → ℕ → Type 0
TellsLength Failed limit n = ⊥
TellsLength TooLong limit n = limit < n
TellsLength NoMemory limit n = Unit {0}
