-- What the readers answer, beside what the definitions say.
use Rattle.std.specs.Prelude.{◌≡◌, ℕ, Bool, true, false, List, [], ◌∷◌, ◌++◌, Option, Some, None, Result, Ok, Err, codes}
use Rattle.serde_json.specs.Data.{Data, Members}
use Rattle.and_events.specs.declared.plan.Scenario.{Scenario}
use Rattle.and_script.specs.declared.refusal.Refusal.{Refusal}
use Rattle.and_script.specs.declared.refusal.Refusal.TheVariants.{At, Whole, NoMemory}
use Rattle.and_script.specs.declared.tables.Given.{Given}
use Rattle.and_script.specs.declared.tables.Cause.{Cause}
use Rattle.and_script.specs.declared.tables.Cause.TheVariants.{Field, Unknown, Range, Limit}
use Rattle.and_script.specs.declared.fault.ScenarioFault.{ScenarioFault}
use Rattle.and_script.specs.declared.fault.ScenarioFault.TheVariants as faults
use Rattle.and_script.specs.Tables.{Row}
use Rattle.and_script.specs.Grammar as grammar

abbrev pub more_names : Bool → List (List ℕ)
more_names true = codes "do" ∷ []
more_names false = []

-- a refusal is what the definition says, unless memory ran out
abbrev pub Refuses : {Y : Type 0} → Refusal → Result Y grammar.Refusal → Type 0
Refuses (At cause name) said = said ≡ Err (record { cause = cause; spot = grammar.Of name.now })
Refuses (Whole cause) said = said ≡ Err (record { cause = cause; spot = grammar.Itself })
Refuses NoMemory said = Unit {0}

-- an answer, seen by `view`, is what the definition says, unless memory ran out
abbrev pub Says : {X Y : Type 0} → (X → Y) → Result X Refusal → Result Y grammar.Refusal → Type 0
Says view (Ok x) said = said ≡ Ok (view x)
Says view (Err refusal) said = Refuses refusal said

-- the values that were read stand behind those that were there
abbrev pub Adds : {X : Type 0} → List Given → List Given → Result X Refusal → Result (List Given) grammar.Refusal → Type 0
Adds old now (Ok x) said = (values : List Given) × (said ≡ Ok values) × (now ≡ old ++ values)
Adds old now (Err refusal) said = Refuses refusal said

-- the first field of an object that is not known
abbrev pub unknown_in : List (List ℕ) → Option Members → Option (List ℕ)
unknown_in known None = None
unknown_in known (Some fields) = grammar.first_unknown known fields

abbrev pub known_names : Bool → List Row → List (List ℕ)
known_names item rows = more_names item ++ grammar.names_of_rows rows

-- ---- the items of a script

-- so many items were read, which were written so; the rest is still to be read
abbrev pub and_rest : List grammar.Written → Result (List grammar.Written) grammar.Fault → Result (List grammar.Written) grammar.Fault
and_rest done (Ok rest) = Ok (done ++ rest)
and_rest done (Err fault) = Err fault

-- a refusal in the item of this number
abbrev pub RefusesAt : {Y : Type 0} → ℕ → Refusal → Result Y grammar.Fault → Type 0
RefusesAt n (At cause name) said = said ≡ Err (grammar.Refused cause (grammar.InItem n (grammar.Of name.now)))
RefusesAt n (Whole cause) said = said ≡ Err (grammar.Refused cause (grammar.InItem n grammar.Itself))
RefusesAt n NoMemory said = Unit {0}

-- ---- the whole

-- the fault has this cause, and the path of this place
abbrev pub IsFault : ScenarioFault → Cause → grammar.Place → Type 0
IsFault (faults.Field path) Field place = path ≡ grammar.path_of place
IsFault (faults.Unknown path) Unknown place = path ≡ grammar.path_of place
IsFault (faults.Range path) Range place = path ≡ grammar.path_of place
IsFault (faults.Limit path) Limit place = path ≡ grammar.path_of place
IsFault _ _ place = ⊥

abbrev pub IsFaultOr : ScenarioFault → Cause → grammar.Place → Type 0
IsFaultOr faults.NoMemory cause place = Unit {0}
IsFaultOr fault cause place = IsFault fault cause place

abbrev pub spot_of : Option (List ℕ) → grammar.Spot
spot_of None = grammar.Itself
spot_of (Some name) = grammar.Of name

-- the fault of a refusal at the top, and in the item of this number
abbrev pub TopFault : ScenarioFault → Refusal → Type 0
TopFault fault (At cause name) = IsFaultOr fault cause (grammar.Top (grammar.Of name.now))
TopFault fault (Whole cause) = IsFaultOr fault cause (grammar.Top grammar.Itself)
TopFault fault NoMemory = fault ≡ faults.NoMemory

abbrev pub ItemFault : ScenarioFault → ℕ → Refusal → Type 0
ItemFault fault n (At cause name) = IsFaultOr fault cause (grammar.InItem n (grammar.Of name.now))
ItemFault fault n (Whole cause) = IsFaultOr fault cause (grammar.InItem n grammar.Itself)
ItemFault fault n NoMemory = fault ≡ faults.NoMemory

-- the fault is what the definition says of the value, unless memory ran out
abbrev pub Tells : {Y : Type 0} → ScenarioFault → Result Y grammar.Fault → Type 0
Tells faults.NoMemory said = Unit {0}
Tells fault said = (cause : Cause) × (place : grammar.Place) × IsFault fault cause place × (said ≡ Err (grammar.Refused cause place))

-- the bytes are no JSON text; or they are that of a value of which the definition says this fault
abbrev pub TellsOf : List ℕ → ScenarioFault → Type 0
TellsOf bytes faults.NoMemory = Unit {0}
TellsOf bytes faults.NotJson = (d : Data) → grammar.IsJson bytes d → ⊥
TellsOf bytes fault = (d : Data) × grammar.IsJson bytes d × Tells fault (grammar.scenario_of d)

-- the bytes are the JSON text of this scenario
abbrev pub IsText : List ℕ → Scenario → Type 0
IsText bytes scenario = (d : Data) × grammar.IsJson bytes d × (grammar.scenario_of d ≡ Ok scenario)
