-- What a clause reads of a seat and of a lock.
use Rattle.std.specs.Prelude.{◌≡◌, ℕ, ◌%◌, ◌^◌, List, [], ◌∷◌, Option, Some, None, true, length}
use Rattle.and_turn.specs.declared.seat.Seat.{Seat}
use Rattle.and_turn.specs.declared.seat.TurnLock.{TurnLock}
use Rattle.and_turn.specs.declared.tale.Tale.{Ghosts}
use Rattle.and_turn.specs.declared.view.Known.{Known}
use Rattle.and_turn.specs.declared.view.Stage.TheVariants.{Out, Waits, Has}

-- the value that the lock was made with, whose root every value of the lock has
abbrev pub opened : {S L R : Type 0} → TurnLock S L R → S
opened lock = lock.table.shared.key.value

module _ {S L R : Type 0} {g : Ghosts S L R} where
  -- what the seat knows
  abbrev pub known_of : Seat S L R g → Known S L
  known_of seat = seat.place.me.0.known

  abbrev pub number_of : Seat S L R g → ℕ
  number_of seat = (known_of seat).number

  -- the lines that the seat has seen
  abbrev pub seen_of : Seat S L R g → List L
  seen_of seat = (known_of seat).seen

  -- of the first seat, how many seats it split and has not joined
  abbrev pub out_of : Seat S L R g → ℕ
  out_of seat = (known_of seat).out

  -- of the first seat, how many seats were made so far
  abbrev pub made_of : Seat S L R g → ℕ
  made_of seat = (known_of seat).made

  -- of the first seat, the numbers of the seats that it joined
  abbrev pub ended_of : Seat S L R g → List ℕ
  ended_of seat = (known_of seat).ended

  -- the lines of the value that the seat took, or gives back
  abbrev pub list_of : Seat S L R g → List L
  list_of seat = seat.place.me.0.list

  -- the slots in the seat's hands, each with its value
  abbrev pub hands_of : Seat S L R g → List (ℕ × Option S)
  hands_of seat = seat.place.me.1

  -- the seat is one of this lock
  abbrev pub SitsAt : TurnLock S L R → Seat S L R g → Type 0
  SitsAt lock seat = (seat.place.table_id ≡ lock.table.shared.table_id) × ((known_of seat).live ≡ true) × ((known_of seat).opened ≡ Some (opened lock))

  -- the seat has no turn
  abbrev pub IsFree : Seat S L R g → Type 0
  IsFree seat = (seat.place.me.0.stage ≡ Out) × (hands_of seat ≡ [])

  -- the seat has drawn a ticket
  abbrev pub Queues : Seat S L R g → Type 0
  Queues seat = ((t : ℕ) × (seat.place.me.0.stage ≡ Waits t) × (seat.ticket ≡ t % 2 ^ 64)) × (hands_of seat ≡ [])

  -- its turn has come, and the slot in its hands has this
  abbrev pub Holds : Seat S L R g → Option S → Type 0
  Holds seat slot = ((t : ℕ) × (seat.place.me.0.stage ≡ Has t) × (seat.ticket ≡ t % 2 ^ 64)) × (hands_of seat ≡ (0, slot) ∷ [])

  -- the seat has the turn, and its thread the value
  abbrev pub HasTurn : Seat S L R g → Type 0
  HasTurn seat = Holds seat None × (list_of seat ≡ seen_of seat) × (seat.lines ≡ length (seen_of seat))

  -- number, out, made and ended are as before
  abbrev pub IsSameSeat : Seat S L R g → Seat S L R g → Type 0
  IsSameSeat a b = (number_of b ≡ number_of a) × (out_of b ≡ out_of a) × (made_of b ≡ made_of a) × (ended_of b ≡ ended_of a)
