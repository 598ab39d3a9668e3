-- Which bytes are a scenario, and which one; otherwise the first check that fails, and where.
use Rattle.std.specs.Prelude.{◌≡◌, ℕ, suc, not, Bool, true, false, nat_lt, if◌then◌else◌, List, [], ◌∷◌, ◌++◌, map, Option, Some, None, Result, Ok, Err, codes, bytes_eq}
use Rattle.std.specs.List.{list_any, position_or_len}
use Rattle.std.specs.Str.{IsUtf8}
use Rattle.std.specs.Fmt.{decimal}
use Rattle.and_policy.specs.declared.entry.Side.{Side}
use Rattle.and_policy.specs.declared.entry.Side.TheVariants as sides
use Rattle.and_policy.specs.declared.entry.Target.{Target}
use Rattle.and_policy.specs.declared.entry.Target.TheVariants as targets
use Rattle.and_policy.specs.declared.entry.Entry.TheVariants as entries
use Rattle.and_events.specs.declared.plan.Item.{Item}
use Rattle.and_events.specs.declared.plan.Item.TheVariants as items
use Rattle.and_events.specs.declared.plan.Settings.{Settings}
use Rattle.and_events.specs.declared.plan.Scenario.{Scenario}
use Rattle.serde_json.specs.Data.{Data, Items, no_items, item, Members, no_members, member}
use Rattle.serde_json.specs.Find.{get, as_object, as_array}
use Rattle.serde_json.specs.Read.{read}
use Rattle.and_script.specs.declared.tables.Cause.{Cause}
use Rattle.and_script.specs.declared.tables.Cause.TheVariants.{Field, Unknown, Range, Limit}
use Rattle.and_script.specs.declared.tables.Given.{Given}
use Rattle.and_script.specs.declared.tables.Given.TheVariants as givens
use Rattle.and_script.specs.declared.tables.Toward.{Toward}
use Rattle.and_script.specs.declared.tables.Toward.TheVariants.{ToLocal, ToDrop, ToPeer}
use Rattle.and_script.specs.declared.tables.Command.{Command}
use Rattle.and_script.specs.declared.tables.Command.TheVariants as commands
use Rattle.and_script.specs.Forms.{read_form}
use Rattle.and_script.specs.Tables.{Row, top_rows, command_of, item_rows, has_peer, text_in}

-- where a check fails: at an object itself, or at its field of this name
pub data Spot : Type 0 where
  Itself : Spot
  Of : List ℕ → Spot

pub record Refusal : Type 0 where
  pub cause : Cause
  pub spot : Spot

infixl 10 ◌>>=◌
abbrev pub ◌>>=◌ : {A B E : Type 0} → Result A E → (A → Result B E) → Result B E
(Ok x) >>= f = f x
(Err e) >>= f = Err e

-- ---- objects

abbrev pub at_field : List ℕ → Result Given Cause → Result Given Refusal
at_field name (Ok given) = Ok given
at_field name (Err cause) = Err (record { cause = cause; spot = Of name })

abbrev pub left_out : Option Given → Result Given Cause
left_out None = Err Field
left_out (Some given) = Ok given

abbrev pub found_or_left_out : Row → Option Data → Result Given Cause
found_or_left_out row None = left_out row.default
found_or_left_out row (Some d) = read_form row.form d

-- what a field gives: it may be left out where it has a default; its kind comes before its range
abbrev pub field_of : Row → Data → Result Given Refusal
field_of row d = at_field row.name (found_or_left_out row (get row.name d))

-- the fields in the order of the table
abbrev pub fields_of : List Row → Data → Result (List Given) Refusal
fields_of [] d = Ok []
fields_of (row ∷ rows) d = field_of row d >>= λ first. fields_of rows d >>= λ others. Ok (first ∷ others)

-- the first field name of an object, in byte order, that is none of these
abbrev pub first_unknown : List (List ℕ) → Members → Option (List ℕ)
first_unknown known no_members = None
first_unknown known (member name d rest) = if list_any (λ k. bytes_eq name k) known then first_unknown known rest else Some name

abbrev pub known_only : Option (List ℕ) → Result (List Given) Refusal → Result (List Given) Refusal
known_only None fields = fields
known_only (Some name) fields = Err (record { cause = Unknown; spot = Of name })

abbrev pub names_of_rows : List Row → List (List ℕ)
names_of_rows rows = map (λ row. row.name) rows

-- what the members of an object give by a table. `more` are names that it may have beside the table's
abbrev pub members_given : List (List ℕ) → List Row → Data → Members → Result (List Given) Refusal
members_given more rows d fields = known_only (first_unknown (more ++ names_of_rows rows) fields) (fields_of rows d)

-- ---- items

-- an item as it is written: its command, what its fields give, and the VM that it names
pub record Written : Type 0 where
  pub command : Command
  pub values : List Given
  pub name : Option (List ℕ)

abbrev pub may_seal : Side → Bool → Bool
may_seal sides.Egress true = true
may_seal _ _ = false

-- a rule may seal what it allows to leave, and nothing else
abbrev pub seals_wrongly : Command → List Given → Bool
seals_wrongly commands.AddRule (net ∷ number ∷ priority ∷ givens.Sided side ∷ givens.Allows allow ∷ p ∷ s ∷ d ∷ sp ∷ dp ∷ givens.Allows true ∷ []) = not (may_seal side allow)
seals_wrongly _ _ = false

abbrev pub sealed_well : Command → Data → List Given → Result Written Refusal
sealed_well command d values =
    if seals_wrongly command values then Err (record { cause = Range; spot = Of (codes "sealed") })
    else Ok (record { command = command; values = values; name = text_in (get (codes "vm") d) })

abbrev pub commanded : Data → Members → Option Command → Result Written Refusal
commanded d fields None = Err (record { cause = Unknown; spot = Of (codes "do") })
commanded d fields (Some command) =
    members_given (codes "do" ∷ []) (item_rows command (has_peer d)) d fields >>= λ values. sealed_well command d values

abbrev pub told_to : Data → Members → Option (List ℕ) → Result Written Refusal
told_to d fields None = Err (record { cause = Field; spot = Of (codes "do") })
told_to d fields (Some text) = commanded d fields (command_of text)

abbrev pub item_in : Data → Option Members → Result Written Refusal
item_in d None = Err (record { cause = Field; spot = Itself })
item_in d (Some fields) = told_to d fields (text_in (get (codes "do") d))

-- an item: an object with a command, and then the fields of its command
abbrev pub item_of : Data → Result Written Refusal
item_of d = item_in d (as_object d)

-- where a refusal is, in the whole scenario
pub data Place : Type 0 where
  Top : Spot → Place
  InItem : ℕ → Spot → Place

pub data Fault : Type 0 where
  NotJson : Fault
  Refused : Cause → Place → Fault

abbrev pub at_item : ℕ → Result Written Refusal → Result Written Fault
at_item n (Ok w) = Ok w
at_item n (Err r) = Err (Refused r.cause (InItem n r.spot))

-- the items in order, the first of them with this number
abbrev pub items_of : ℕ → Items → Result (List Written) Fault
items_of n no_items = Ok []
items_of n (item d rest) = at_item n (item_of d) >>= λ first. items_of (suc n) rest >>= λ others. Ok (first ∷ others)

abbrev pub item_count : Items → ℕ
item_count no_items = 0
item_count (item d rest) = suc (item_count rest)

abbrev pub target_by : Toward → List Given → Target
target_by ToLocal values = targets.Local
target_by ToDrop values = targets.Drop
target_by ToPeer (givens.Number peer ∷ []) = targets.Peer peer
target_by ToPeer _ = targets.Local

-- the item, whose VM has this number. The last case is met by no item that was read
abbrev pub item_with : ℕ → Command → List Given → Item
item_with vm commands.AddNet (givens.Number net ∷ []) = items.Entry (entries.AddNet net)
item_with vm commands.AddVm (givens.Named ∷ givens.Number net ∷ givens.Address mac ∷ givens.Number ip ∷ givens.Number host ∷ []) =
    items.Entry (entries.AddVm vm net mac ip host)
item_with vm commands.RemoveVm (givens.Named ∷ []) = items.Entry (entries.RemoveVm vm)
item_with vm commands.AddRule (givens.Number net ∷ givens.Number number ∷ givens.Priority priority ∷ givens.Sided side ∷ givens.Allows allow
    ∷ givens.OfProtocol protocol ∷ givens.Within source ∷ givens.Within destination ∷ givens.Between source_low source_high
    ∷ givens.Between destination_low destination_high ∷ givens.Allows sealed ∷ []) =
    items.Entry (entries.AddRule net (record {
      number = number;
      priority = priority;
      side = side;
      allow = allow;
      sealed = sealed;
      protocol = protocol;
      source = source;
      destination = destination;
      source_low = source_low;
      source_high = source_high;
      destination_low = destination_low;
      destination_high = destination_high;
    }))
item_with vm commands.DelRule (givens.Number net ∷ givens.Number number ∷ []) = items.Entry (entries.DelRule net number)
item_with vm commands.AddRoute (givens.Number net ∷ givens.Number number ∷ givens.Within prefix ∷ givens.Going toward ∷ values) =
    items.Entry (entries.AddRoute net (record { number = number; prefix = prefix; target = target_by toward values }))
item_with vm commands.DelRoute (givens.Number net ∷ givens.Number number ∷ []) = items.Entry (entries.DelRoute net number)
item_with vm commands.Tick [] = items.Entry entries.Tick
item_with vm commands.Wait [] = items.Wait
item_with vm commands.Send (givens.Number frames ∷ []) = items.Send (Some frames)
item_with vm commands.Send (givens.Absent ∷ []) = items.Send None
item_with vm commands.Blackout (givens.Named ∷ givens.Number host ∷ []) = items.Blackout vm host
item_with vm commands.Resume (givens.Named ∷ []) = items.Resume vm
item_with vm commands.Hold (givens.At node ∷ givens.Holding what ∷ []) = items.Hold node what
item_with vm commands.Free (givens.At node ∷ givens.Holding what ∷ []) = items.Free node what
item_with vm _ _ = items.Wait

-- ---- the VMs by number

-- VM names in the order in which they first stand in the script
abbrev pub with_name : List (List ℕ) → Option (List ℕ) → List (List ℕ)
with_name names None = names
with_name names (Some name) = if list_any (bytes_eq name) names then names else names ++ name ∷ []

-- the number of a VM: the place of its name, or the next one where the name is new
abbrev pub number_of : List (List ℕ) → Option (List ℕ) → ℕ
number_of names None = 0
number_of names (Some name) = position_or_len (bytes_eq name) names

abbrev pub names_from : List (List ℕ) → List Written → List (List ℕ)
names_from names [] = names
names_from names (w ∷ ws) = names_from (with_name names w.name) ws

abbrev pub items_from : List (List ℕ) → List Written → List Item
items_from names [] = []
items_from names (w ∷ ws) =
    item_with (number_of names w.name) w.command w.values ∷ items_from (with_name names w.name) ws

-- ---- the whole

abbrev pub scenario_with : Settings → List Written → Scenario
scenario_with settings ws = record { settings = settings; names = names_from [] ws; items = items_from [] ws }

abbrev pub script_in : Option Data → Items
script_in None = no_items
script_in (Some d) = script_items (as_array d)
  where
    script_items : Option Items → Items
    script_items None = no_items
    script_items (Some list) = list

-- the script's length comes after its kind and before its items
abbrev pub scripted : Settings → Items → Result Scenario Fault
scripted settings script =
    if nat_lt 65536 (item_count script) then Err (Refused Limit (Top (Of (codes "script"))))
    else (items_of 0 script >>= λ ws. Ok (scenario_with settings ws))

-- The last case is met by no top value that was read
abbrev pub settings_by : List Given → Settings
settings_by (givens.Number hosts ∷ givens.Number gateways ∷ givens.Number workers ∷ givens.Number hop_limit ∷ givens.Number out_queue
    ∷ givens.Number wire_queue ∷ givens.Number seal_queue ∷ givens.Number threshold ∷ givens.Number life ∷ values) =
    record {
      hosts = hosts;
      gateways = gateways;
      workers = workers;
      hop_limit = hop_limit;
      out_queue = out_queue;
      wire_queue = wire_queue;
      seal_queue = seal_queue;
      threshold = threshold;
      life = life;
    }
settings_by _ =
    record { hosts = 0; gateways = 0; workers = 0; hop_limit = 0; out_queue = 0; wire_queue = 0; seal_queue = 0; threshold = 0; life = 0 }

abbrev pub at_top : Result (List Given) Refusal → Result (List Given) Fault
at_top (Ok values) = Ok values
at_top (Err r) = Err (Refused r.cause (Top r.spot))

abbrev pub top_in : Data → Option Members → Result (List Given) Refusal
top_in d None = Err (record { cause = Field; spot = Itself })
top_in d (Some fields) = members_given [] top_rows d fields

-- the scenario that a JSON value is, or the first check that fails
abbrev pub scenario_of : Data → Result Scenario Fault
scenario_of d = at_top (top_in d (as_object d)) >>= λ values. scripted (settings_by values) (script_in (get (codes "script") d))

-- the bytes are the JSON text of a value
abbrev pub IsJson : List ℕ → Data → Type 0
IsJson bytes d = IsUtf8 bytes × (read bytes ≡ Some d)

-- ---- paths

-- `/` and a field name, or `/script/`, the item's number, and for a field `/` and its name; empty for the whole value
abbrev pub path_of : Place → List ℕ
path_of (Top Itself) = []
path_of (Top (Of name)) = 47 ∷ name
path_of (InItem n Itself) = codes "/script/" ++ decimal n
path_of (InItem n (Of name)) = codes "/script/" ++ decimal n ++ 47 ∷ name
