-- The rule of the lock's table, and what each step tells its seat.
-- Word 0 is the number of lines, word 1 the next ticket and word 2 the ticket that is served, the last two without their multiples of 2 ^ 64. Slot 0 has the value while no seat has it.
use Rattle.std.specs.Prelude.{◌≡◌, ◌≢◌, ◌⊎◌, ℕ, ◌+◌, ◌-◌, ◌%◌, ◌^◌, ◌<◌, ◌≤◌, Bool, true, false, List, [], ◌∷◌, ◌++◌, map, length, All, Contains, Option, Some, None}
use mathlib.Core.Option.{some, none}
use mathlib.Core.Option as maybe
use lib.ListN.{get_elem?}
use Rattle.atomic_table.specs.Table.{State, Me, Step}
use Rattle.and_turn.specs.Tales.{IsPrefix, own, longer}
use Rattle.and_turn.specs.declared.view.Known.{Known}
use Rattle.and_turn.specs.declared.view.Merged.{Merged}
use Rattle.and_turn.specs.declared.view.Stage.{Stage}
use Rattle.and_turn.specs.declared.view.Stage.TheVariants.{Out, Waits, Has}
use Rattle.and_turn.specs.declared.view.View.{View}

-- the stage has the ticket t
abbrev pub IsAt : Stage → ℕ → Type 0
IsAt Out t = ⊥
IsAt (Waits u) t = u ≡ t
IsAt (Has u) t = u ≡ t

abbrev pub drew : Stage → ℕ
drew Out = 0
drew (Waits u) = 1
drew (Has u) = 1

-- the number of tickets
abbrev pub tickets : List Stage → ℕ
tickets [] = 0
tickets (g ∷ gs) = drew g + tickets gs

abbrev pub HasNone : List Stage → Type 0
HasNone gs = (j t : ℕ) → get_elem? gs j ≢ some (Has t)

abbrev pub counts : Bool → ℕ
counts true = 1
counts false = 0

module _ {S L : Type 0} where
  abbrev pub stages : List (View S L) → List Stage
  stages views = map (λ v. v.stage) views

  abbrev pub facts : List (View S L) → List (Known S L)
  facts views = map (λ v. v.known) views

  -- the number of seats that are not spent
  abbrev pub seats : List (Known S L) → ℕ
  seats [] = 0
  seats (k ∷ ks) = counts k.live + seats ks

  -- the seat at j is not spent, and knows k
  abbrev pub Sits : List (Known S L) → ℕ → Known S L → Type 0
  Sits ks j k = (get_elem? ks j ≡ some k) × (k.live ≡ true)

  -- no seat but the first has the number n
  abbrev pub NoOther : List (Known S L) → ℕ → Type 0
  NoOther ks n = (j : ℕ) (k : Known S L) → j ≢ 0 → Sits ks j k → k.number ≢ n

module _ {L : Type 0} (seat_of : L → ℕ) where
  -- of the last join: what the first seat has seen then begins with what both had seen, and has the lines of each number that one of them had to know; and a seat was out
  pub record Kept (m : Merged L) : Type 0 where
    pub before : IsPrefix m.before (longer m.before m.joined)
    pub joined : IsPrefix m.joined (longer m.before m.joined)
    pub last : own seat_of (longer m.before m.joined) m.last ≡ own seat_of m.joined m.last
    pub first : own seat_of (longer m.before m.joined) 0 ≡ own seat_of m.before 0
    pub earlier : (n : ℕ) → Contains m.earlier n → own seat_of (longer m.before m.joined) n ≡ own seat_of m.before n
    pub out : 0 < m.out

abbrev pub Sat : Type 0 → Type 0 → Type 0
Sat S L = Me (Option S) (View S L)

module _ {S L R : Type 0} (lines_of : S → List L) (root_of : S → R) (seat_of : L → ℕ) (opened : S) where
  -- the slot is home with a value of these lines, and no seat has the turn
  abbrev pub IsHome : List (maybe.Option (Option S)) → List (View S L) → List L → Type 0
  IsHome homes views lines = ((x : S) × (homes ≡ some (Some x) ∷ []) × (lines_of x ≡ lines) × (root_of x ≡ root_of opened)) × HasNone (stages views)

  -- the slot is out with the seat whose ticket is served, and that seat's list is the lines
  abbrev pub IsAway : List (maybe.Option (Option S)) → List (View S L) → ℕ → List L → Type 0
  IsAway homes views served lines = (homes ≡ none ∷ []) × ((j : ℕ) × (v : View S L) × (get_elem? views j ≡ some v) × (v.stage ≡ Has served) × (v.list ≡ lines))

  -- The rule. `drawn` and `served` are the next ticket and the one that is served, and `lines` are the lock's lines.
  pub record Turned (s : State (Option S) (View S L)) : Type 0 where
    pub drawn : ℕ
    pub served : ℕ
    pub lines : List L
    -- the three words: how many lines there are, which a value at home has, and the two tickets
    pub words : s.words ≡ length lines ∷ drawn % 2 ^ 64 ∷ served % 2 ^ 64 ∷ []
    -- the tickets drawn and not yet served are those that seats have
    pub counted : drawn ≡ served + tickets (stages s.views)
    -- each of them is at least the served one and below the next one
    pub range : (j t : ℕ) (g : Stage) → get_elem? (stages s.views) j ≡ some g → IsAt g t → (served ≤ t) × (t < drawn)
    -- no two seats have one ticket
    pub apart : (i j t : ℕ) (g h : Stage) → get_elem? (stages s.views) i ≡ some g → get_elem? (stages s.views) j ≡ some h → IsAt g t → IsAt h t → i ≡ j
    -- a seat that is spent has no ticket
    pub idle : (j : ℕ) (v : View S L) → get_elem? s.views j ≡ some v → v.known.live ≡ false → v.stage ≡ Out
    -- the seat that took the slot has the ticket that is served
    pub turn : (j t : ℕ) → get_elem? (stages s.views) j ≡ some (Has t) → t ≡ served
    -- the slot is home with the lock's lines, or out with that seat, whose list they are
    pub slot : IsHome s.homes s.views lines ⊎ IsAway s.homes s.views served lines
    -- what a seat has seen is a prefix of the lines
    pub seen : (j : ℕ) (k : Known S L) → Sits (facts s.views) j k → IsPrefix k.seen lines
    -- each seat knows the value that the lock was made with
    pub rooted : (j : ℕ) (k : Known S L) → Sits (facts s.views) j k → k.opened ≡ Some opened
    -- the first seat is not spent, `out` is the number of the others that are not, and `made` that of all seats ever
    pub first : (k : Known S L) × Sits (facts s.views) 0 k × (seats (facts s.views) ≡ k.out + 1) × (k.made ≡ length (facts s.views))
    -- there are few enough seats that a ticket is known by its distance from the served one
    pub few : length (facts s.views) < 2 ^ 32
    -- a seat's number is its place among the views, so the numbers differ and are below `made`
    pub numbers : (j : ℕ) (k : Known S L) → Sits (facts s.views) j k → k.number ≡ j
    -- each seat has seen every line of its number
    pub mine : (j : ℕ) (k : Known S L) → Sits (facts s.views) j k → own seat_of lines k.number ≡ own seat_of k.seen k.number
    -- the first seat has seen every line whose number no other seat has
    pub whole : (k : Known S L) → Sits (facts s.views) 0 k → (n : ℕ) → NoOther (facts s.views) n → own seat_of lines n ≡ own seat_of k.seen n
    -- no other seat has a number that was joined, and each of these is below `made`
    pub ended : (k : Known S L) → Sits (facts s.views) 0 k → (n : ℕ) → Contains k.ended n → (n < k.made) × NoOther (facts s.views) n
    -- each line has the number of a seat that was made
    pub named : All (λ l. seat_of l < length (facts s.views)) lines
    -- what the last join of the first seat kept
    pub merged : (k : Known S L) → Sits (facts s.views) 0 k → Kept seat_of k.merged

module _ {S L R : Type 0} (lines_of : S → List L) (root_of : S → R) (seat_of : L → ℕ) where
  -- what a seat that knew k is told of the value x as its turn comes
  pub record Shows (k : Known S L) (x : S) : Type 0 where
    pub root : (o : S) → k.opened ≡ Some o → root_of x ≡ root_of o
    pub grows : IsPrefix k.seen (lines_of x)
    pub mine : own seat_of (lines_of x) k.number ≡ own seat_of k.seen k.number
    pub ended : k.number ≡ 0 → (n : ℕ) → Contains k.ended n → own seat_of (lines_of x) n ≡ own seat_of k.seen n

-- a ticket was drawn
abbrev pub Draws : {S L : Type 0} → Step (Option S) → Sat S L → ℕ → Sat S L → Type 0
Draws st m n m' = (m'.1 ≡ m.1) × ((t : ℕ) × (m'.0 ≡ record m.0 { stage = Waits t }) × (n ≡ t % 2 ^ 64))

-- where the turn has come, the seat has the slot, and its list is the value's lines
abbrev pub Looks : {S L R : Type 0} → (S → List L) → (S → R) → (L → ℕ) → Step (Option S) → Sat S L → ℕ → Sat S L → Type 0
Looks {S = S} lines_of root_of seat_of st m n m' = (t : ℕ) → m.0.stage ≡ Waits t → m.0.known.live ≡ true
    → (n ≡ t % 2 ^ 64 → (x : S) × (m'.0 ≡ record m.0 { stage = Has t; list = lines_of x }) × (m'.1 ≡ (0, Some x) ∷ m.1) × Shows lines_of root_of seat_of m.0.known x)
    × (n ≢ t % 2 ^ 64 → m' ≡ m)

-- the slot was given back, and the next ticket is served
abbrev pub Passes : {S L : Type 0} → Step (Option S) → Sat S L → ℕ → Sat S L → Type 0
Passes st m n m' = (m'.1 ≡ []) × (m'.0 ≡ record m.0 { stage = Out })

-- all lines are seen
abbrev pub Learns : {S L : Type 0} → Step (Option S) → Sat S L → ℕ → Sat S L → Type 0
Learns st m n m' = (m'.1 ≡ m.1) × (m'.0 ≡ record m.0 { known = record m.0.known { seen = m.0.list } }) × (n ≡ length m.0.list)

-- the lines of the value in hand stand from now on
abbrev pub Adds : {S L : Type 0} → (S → List L) → Step (Option S) → Sat S L → ℕ → Sat S L → Type 0
Adds {S = S} lines_of st m n m' = (m'.1 ≡ m.1) × ((x : S) → m.1 ≡ (0, Some x) ∷ [] → m'.0 ≡ record m.0 { list = lines_of x; known = record m.0.known { seen = lines_of x } })

-- what the last join of the first seat kept is told, and nothing changes
abbrev pub Recalls : {S L : Type 0} → (L → ℕ) → Step (Option S) → Sat S L → ℕ → Sat S L → Type 0
Recalls seat_of st m n m' = (m' ≡ m) × (m.0.known.live ≡ true → m.0.known.number ≡ 0 → Kept seat_of m.0.known.merged)

-- there was no join yet: what each join keeps is true of this
abbrev pub unmerged : {L : Type 0} → Merged L
unmerged = record { before = []; joined = []; last = 0; earlier = []; out = 1 }

module _ {S L : Type 0} where
  -- the first seat, of a lock made with x
  abbrev pub opening_view : S → View S L
  opening_view x = record {
    stage = Out;
    list = [];
    known = record { live = true; number = 0; opened = Some x; seen = []; out = 0; made = 1; ended = []; merged = unmerged };
  }

  -- the first seat after it made another
  abbrev pub split_left : View S L → View S L
  split_left v = record v { known = record v.known { out = v.known.out + 1; made = v.known.made + 1 } }

  -- the seat that it made
  abbrev pub split_right : View S L → View S L
  split_right v = record {
    stage = Out;
    list = [];
    known = record { live = true; number = v.known.made; opened = v.known.opened; seen = v.known.seen; out = 0; made = 0; ended = []; merged = unmerged };
  }

  -- the first seat v after it took in the seat w
  abbrev pub joined_view : View S L → View S L → View S L
  joined_view v w = record v {
    known = record v.known {
      seen = longer v.known.seen w.known.seen;
      out = v.known.out - 1;
      ended = v.known.ended ++ w.known.number ∷ [];
      merged = record { before = v.known.seen; joined = w.known.seen; last = w.known.number; earlier = v.known.ended; out = v.known.out };
    };
  }

  -- a seat that was taken in
  abbrev pub spent_view : View S L
  spent_view = record {
    stage = Out;
    list = [];
    known = record { live = false; number = 0; opened = None; seen = []; out = 0; made = 0; ended = []; merged = unmerged };
  }
