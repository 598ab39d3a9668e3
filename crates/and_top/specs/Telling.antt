-- A text that is put into a sink.
use Rattle.std.specs.Prelude.{◌≡◌, ◌≤◌, ◌⊎◌, ℕ, List, ◌++◌, take, Some}
use Rattle.and_outside.specs.Causes.{Rose, raised}
use Rattle.and_outside.specs.Stream.{Stream}

-- so many puts were made, of which the last began at a count of faults not below the old one
pub record Puts (n : ℕ) (old new : Stream) : Type 0 where
  pub number : new.calls ≡ raised n old.calls
  pub faults : old.faults ≤ new.before

-- all of the text was appended, by so many puts
pub record Wrote (n : ℕ) (text : List ℕ) (old new : Stream) : Type 0 where
  pub puts : Puts n old new
  pub all : (w : List ℕ) → old.written ≡ Some w → new.written ≡ Some (w ++ text)

-- the last of so many puts failed, in which the count of faults rose, and a prefix of the text was appended
pub record WrotePart (n : ℕ) (text : List ℕ) (old new : Stream) : Type 0 where
  pub puts : Puts n old new
  pub rose : Rose new.before new.faults
  pub part : (w : List ℕ) → old.written ≡ Some w → (m : ℕ) × (new.written ≡ Some (w ++ take m text))

-- the text was appended by so many puts, or a prefix of it by some of them, of which the last failed
abbrev pub Tells : ℕ → List ℕ → Stream → Stream → Type 0
Tells n text old new = Wrote n text old new ⊎ ((m : ℕ) × (m ≤ n) × WrotePart m text old new)
