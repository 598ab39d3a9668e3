-- What is read as a scenario can be planned.
use Rattle.std.proofs.Common.{◌≡◌, ℕ, suc, ◌+◌, ◌<◌, ◌≤◌, ◌⊎◌, inl, inr, Bool, true, false, ◌||◌, cond, List, [], ◌∷◌, ◌++◌, length, Option, Some, None, Result, Ok, Err, refl, sym, ap, ◌∙◌, subst, arith, length-append}
use Rattle.std.specs.Prelude.{if◌then◌else◌, IfOk, drop, nat_lt, not, codes, bytes_eq}
use Rattle.std.specs.List.{AllByRecursion, list_any, position_or_len}
use Rattle.std.proofs.lemmas.Bool.Decides.{nat_tests}
use Rattle.std.proofs.lemmas.List.Elements.{All-from_recursion}
use Rattle.serde_json.specs.Data.{Data, Items, no_items, item, Members}
use Rattle.serde_json.specs.Find.{get, as_object, as_str}
use Rattle.and_policy.specs.declared.entry.Side.{Side}
use Rattle.and_policy.specs.declared.entry.Side.TheVariants as sides
use Rattle.and_policy.specs.declared.entry.Prefix.{Prefix}
use Rattle.and_events.specs.declared.plan.Settings.{Settings}
use Rattle.and_events.specs.declared.plan.Scenario.{Scenario}
use Rattle.and_events.specs.Sound.{AreSettings, IsTarget}
use Rattle.and_script.specs.declared.tables.Form.{Form}
use Rattle.and_script.specs.declared.tables.Form.TheVariants.{Whole, VmName}
use Rattle.and_script.specs.declared.tables.Given.{Given}
use Rattle.and_script.specs.declared.tables.Given.TheVariants as givens
use Rattle.and_script.specs.declared.tables.Cause.{Cause}
use Rattle.and_script.specs.declared.tables.Cause.TheVariants as causes
use Rattle.and_script.specs.declared.tables.Toward.{Toward}
use Rattle.and_script.specs.declared.tables.Toward.TheVariants.{ToPeer}
use Rattle.and_script.specs.declared.tables.Command.{Command}
use Rattle.and_script.specs.declared.tables.Command.TheVariants as commands
use Rattle.and_script.specs.Forms.{texted}
use Rattle.and_script.specs.Tables.{Row, top_rows, command_of, item_rows, vm_row, has_peer, text_in}
use Rattle.and_script.specs.Grammar as grammar
use Rattle.and_script.specs.Grammar.{◌>>=◌, Refusal, Fault, Written, at_field, left_out, found_or_left_out, field_of, fields_of, first_unknown, known_only, names_of_rows, members_given, may_seal, seals_wrongly, sealed_well, commanded, told_to, item_in, item_of, at_item, items_of, item_count, target_by, item_with, with_name, number_of, names_from, items_from, scenario_with, script_in, scripted, settings_by, at_top, top_in, scenario_of}
use Rattle.and_planner.specs.Scenarios.{IsItem, IsScenario}
use Rattle.and_script.specs.declared.fault.ScenarioFault.{ScenarioFault}
use Rattle.and_script.specs.Defaults.{HasDefaults}
use Rattle.and_script.proofs.Gives.{Gives, form_gives}

bind_ok : {A B E : Type 0} (r : Result A E) (f : A → Result B E) (b : B) → (r >>= f) ≡ Ok b → (a : A) × (r ≡ Ok a) × (f a ≡ Ok b)
bind_ok (Ok a) f b e = (a, refl, e)
bind_ok (Err x) f b e = absurd (cc)

-- ---- fields

field_ok : (name : List ℕ) (r : Result Given Cause) (g : Given) → at_field name r ≡ Ok g → r ≡ Ok g
field_ok name (Ok a) g e = let same : a ≡ g = cc in ap Ok same
field_ok name (Err x) g e = absurd (cc)

-- the value is one that the row's form gives, or the one of the row that is left out
abbrev RowGives : Row → Given → Type 0
RowGives row g = Gives row.form g ⊎ (row.default ≡ Some g)

left_gives : (row : Row) (o : Option Given) → row.default ≡ o → (g : Given) → left_out o ≡ Ok g → RowGives row g
left_gives row None is g e = absurd (cc)
left_gives row (Some x) is g e = let same : x ≡ g = cc in inr (is ∙ ap Some same)

found_gives : (row : Row) (o : Option Data) (g : Given) → found_or_left_out row o ≡ Ok g → RowGives row g
found_gives row None g e = left_gives row row.default refl g e
found_gives row (Some d) g e = inl (form_gives row.form d g e)

abbrev Meet : List Row → List Given → Type 0
Meet [] [] = Unit {0}
Meet [] (g ∷ gs) = ⊥
Meet (row ∷ rows) [] = ⊥
Meet (row ∷ rows) (g ∷ gs) = RowGives row g × Meet rows gs

fields_meet : (rows : List Row) (d : Data) (gs : List Given) → fields_of rows d ≡ Ok gs → Meet rows gs
fields_meet [] d gs e = let none : [] ≡ gs = cc in subst (Meet []) none tt
fields_meet (row ∷ rows) d gs e =
    let (g, first, e1) = bind_ok (field_of row d) (λ first. fields_of rows d >>= λ others. Ok (first ∷ others)) gs e in
    let (others, more, e2) = bind_ok (fields_of rows d) (λ others. Ok (g ∷ others)) gs e1 in
    let all : (g ∷ others) ≡ gs = cc in
    subst (Meet (row ∷ rows)) all (found_gives row (get row.name d) g (field_ok row.name (found_or_left_out row (get row.name d)) g first), fields_meet rows d others more)

known_ok : (o : Option (List ℕ)) (r : Result (List Given) Refusal) (gs : List Given) → known_only o r ≡ Ok gs → r ≡ Ok gs
known_ok None r gs e = e
known_ok (Some name) r gs e = absurd (cc)

members_ok : (more : List (List ℕ)) (rows : List Row) (d : Data) (fields : Members) (gs : List Given) → members_given more rows d fields ≡ Ok gs → fields_of rows d ≡ Ok gs
members_ok more rows d fields gs e = known_ok (first_unknown (more ++ names_of_rows rows) fields) (fields_of rows d) gs e

-- ---- settings

-- the first value is a number in the range of the first row
abbrev FirstIs : ℕ → ℕ → List Row → List Given → Type 0
FirstIs low high rows gs = (n : ℕ) × (rest : List Given) × (gs ≡ givens.Number n ∷ rest) × (low ≤ n) × (n ≤ high) × Meet rows rest

numbered : (low high : ℕ) (g : Given) → Gives (Whole low high) g → (n : ℕ) × (g ≡ givens.Number n) × (low ≤ n) × (n ≤ high)
numbered low high (givens.Number n) is = (n, refl, is.0, is.1)
numbered low high g is = absurd is

required_number : (name : List ℕ) (low high : ℕ) (rows : List Row) (gs : List Given) → Meet (record { name = name; form = Whole low high; default = None } ∷ rows) gs → FirstIs low high rows gs
required_number name low high rows [] m = absurd m
required_number name low high rows (g ∷ gs) (inl is, rest) =
    let (n, same, least, most) = numbered low high g is in (n, gs, ap (λ x. x ∷ gs) same, least, most, rest)
required_number name low high rows (g ∷ gs) (inr is, rest) = absurd (cc)

optional_number : (name : List ℕ) (low high by : ℕ) (rows : List Row) (gs : List Given) → low ≤ by → by ≤ high
    → Meet (record { name = name; form = Whole low high; default = Some (givens.Number by) } ∷ rows) gs → FirstIs low high rows gs
optional_number name low high by rows [] a b m = absurd m
optional_number name low high by rows (g ∷ gs) a b (inl is, rest) =
    let (n, same, least, most) = numbered low high g is in (n, gs, ap (λ x. x ∷ gs) same, least, most, rest)
optional_number name low high by rows (g ∷ gs) a b (inr is, rest) =
    let same : givens.Number by ≡ g = cc in (by, gs, ap (λ x. x ∷ gs) (sym same), a, b, rest)

are_settings : (gs : List Given) → Meet top_rows gs → AreSettings (settings_by gs)
unfolding top_rows
are_settings gs m =
    let (hosts, r1, e1, a1, b1, m1) = required_number (codes "hosts") 1 64 (drop 1 top_rows) gs m in
    let (gateways, r2, e2, a2, b2, m2) = required_number (codes "gateways") 1 8 (drop 2 top_rows) r1 m1 in
    let (workers, r3, e3, a3, b3, m3) = optional_number (codes "workers") 1 4 2 (drop 3 top_rows) r2 (grind arith) (grind arith) m2 in
    let (hop_limit, r4, e4, a4, b4, m4) = optional_number (codes "hop_limit") 1 32 16 (drop 4 top_rows) r3 (grind arith) (grind arith) m3 in
    let (out_queue, r5, e5, a5, b5, m5) = optional_number (codes "out_queue") 1 4096 256 (drop 5 top_rows) r4 (grind arith) (grind arith) m4 in
    let (wire_queue, r6, e6, a6, b6, m6) = optional_number (codes "wire_queue") 1 4096 256 (drop 6 top_rows) r5 (grind arith) (grind arith) m5 in
    let (seal_queue, r7, e7, a7, b7, m7) = optional_number (codes "seal_queue") 1 4096 256 (drop 7 top_rows) r6 (grind arith) (grind arith) m6 in
    let (threshold, r8, e8, a8, b8, m8) = optional_number (codes "threshold") 1 1000000000 20000 (drop 8 top_rows) r7 (grind arith) (grind arith) m7 in
    let (life, r9, e9, a9, b9, m9) = optional_number (codes "life") 1 10000 3 (drop 9 top_rows) r8 (grind arith) (grind arith) m8 in
    rw (e1, e2, e3, e4, e5, e6, e7, e8, e9)
    (record {
      hosts = (a1, b1);
      gateways = (a2, b2);
      workers = (a3, b3);
      hop_limit = (a4, b4);
      out_queue = (a5, b5);
      wire_queue = (a6, b6);
      seal_queue = (a7, b7);
      threshold = (a8, b8);
      life = (a9, b9);
    })

-- ---- names

grows : (names : List (List ℕ)) (name : Option (List ℕ)) → (length names ≤ length (with_name names name)) × (length (with_name names name) ≤ length names + 1)
grows names None = (grind arith, grind arith)
grows names (Some text) = by_test (list_any (bytes_eq text) names)
  where
    by_test : (b : Bool) → (length names ≤ length (if b then names else names ++ text ∷ [])) × (length (if b then names else names ++ text ∷ []) ≤ length names + 1)
    by_test true = (grind arith, grind arith)
    by_test false = rw (length-append names (text ∷ [])) (grind arith, grind arith)

all_grow : (names : List (List ℕ)) (ws : List Written) → (length names ≤ length (names_from names ws)) × (length (names_from names ws) ≤ length names + length ws)
all_grow names [] = (grind arith, grind arith)
all_grow names (w ∷ ws) =
    let (least, most) = grows names w.name in
    let (a, b) = all_grow (with_name names w.name) ws in
    (grind (arith, least, a), grind (arith, most, b))

next_within : (b : Bool) (n m : ℕ) → n ≤ m → cond (not b) (1 + n) 0 ≤ suc m
next_within true n m within = grind arith
next_within false n m within = grind (arith, within)

next_found : (b : Bool) (n m : ℕ) (later : Bool) → (later ≡ true → n < m) → (b || later) ≡ true → cond (not b) (1 + n) 0 < suc m
next_found true n m later within found = grind arith
next_found false n m later within found = let below = within found in grind (arith, below)

place_within : (p : List ℕ → Bool) (names : List (List ℕ)) → position_or_len p names ≤ length names
place_within p [] = grind arith
place_within p (x ∷ xs) = next_within (p x) (position_or_len p xs) (length xs) (place_within p xs)

place_found : (p : List ℕ → Bool) (names : List (List ℕ)) → list_any p names ≡ true → position_or_len p names < length names
place_found p [] found = absurd (cc)
place_found p (x ∷ xs) found = next_found (p x) (position_or_len p xs) (length xs) (list_any p xs) (place_found p xs) found

numbered_below : (names : List (List ℕ)) (text : List ℕ) → number_of names (Some text) < length (with_name names (Some text))
numbered_below names text = by_test (list_any (bytes_eq text) names) refl
  where
    by_test : (b : Bool) → list_any (bytes_eq text) names ≡ b → number_of names (Some text) < length (if b then names else names ++ text ∷ [])
    by_test true found = place_found (bytes_eq text) names found
    by_test false found = let within = place_within (bytes_eq text) names in rw (length-append names (text ∷ [])) (grind (arith, within))

-- ---- items

-- an item that names a VM
abbrev Names : Command → Option (List ℕ) → Type 0
Names commands.AddVm None = ⊥
Names commands.RemoveVm None = ⊥
Names commands.Blackout None = ⊥
Names commands.Resume None = ⊥
Names _ _ = Unit {0}

-- its VM's number is below this
abbrev Below : Command → ℕ → ℕ → Type 0
Below commands.AddVm vm most = vm < most
Below commands.RemoveVm vm most = vm < most
Below commands.Blackout vm most = vm < most
Below commands.Resume vm most = vm < most
Below _ vm most = Unit {0}

named_below : (command : Command) (names : List (List ℕ)) (name : Option (List ℕ)) → Names command name → Below command (number_of names name) (length (with_name names name))
named_below commands.AddVm names (Some text) is = numbered_below names text
named_below commands.RemoveVm names (Some text) is = numbered_below names text
named_below commands.Blackout names (Some text) is = numbered_below names text
named_below commands.Resume names (Some text) is = numbered_below names text
named_below commands.AddVm names None is = absurd is
named_below commands.RemoveVm names None is = absurd is
named_below commands.Blackout names None is = absurd is
named_below commands.Resume names None is = absurd is
named_below command names name is = tt

still_below : (command : Command) (vm a b : ℕ) → a ≤ b → Below command vm a → Below command vm b
still_below commands.AddVm vm a b more is = grind (arith, more, is)
still_below commands.RemoveVm vm a b more is = grind (arith, more, is)
still_below commands.Blackout vm a b more is = grind (arith, more, is)
still_below commands.Resume vm a b more is = grind (arith, more, is)
still_below command vm a b more is = tt

must : {P : Type 0} {g : Given} → P ⊎ (None ≡ Some g) → P
must (inl p) = p
must (inr e) = absurd (cc)

prefix_by : (p q : Prefix) → q.length ≤ 32 → (p.length ≤ 32) ⊎ (Some (givens.Within q) ≡ Some (givens.Within p)) → p.length ≤ 32
prefix_by p q small (inl is) = is
prefix_by p q small (inr e) = let same : q ≡ p = cc in subst (λ x. x.length ≤ 32) same small

ports_by : (low high low' high' : ℕ) → low' ≤ high' → (low ≤ high) ⊎ (Some (givens.Between low' high') ≡ Some (givens.Between low high)) → low ≤ high
ports_by low high low' high' small (inl is) = is
ports_by low high low' high' small (inr e) =
    let a : low' ≡ low = cc in
    let b : high' ≡ high = cc in
    subst (λ x. x ≤ high) a (subst (λ y. low' ≤ y) b small)

sealed_by : (side : Side) (allow : Bool) → not (may_seal side allow) ≡ false → (side ≡ sides.Egress) × (allow ≡ true)
sealed_by sides.Egress true h = (refl, refl)
sealed_by sides.Egress false h = absurd (cc)
sealed_by sides.Ingress allow h = absurd (cc)

target_is : (toward : Toward) (values : List Given) (b : Bool) → Meet (if b then record { name = codes "peer"; form = Whole 1 16777215; default = None } ∷ [] else []) values → IsTarget (target_by toward values)
target_is ToPeer (givens.Number peer ∷ []) true m = must m.0
target_is ToPeer (givens.Number peer ∷ []) false m = absurd m
target_is toward values b m = tt

route_is : (vm most : ℕ) (net number : ℕ) (p : Prefix) (toward : Toward) (values : List Given) (peer : Bool)
    → Meet (item_rows commands.AddRoute peer) (givens.Number net ∷ givens.Number number ∷ givens.Within p ∷ givens.Going toward ∷ values)
    → IsItem most (item_with vm commands.AddRoute (givens.Number net ∷ givens.Number number ∷ givens.Within p ∷ givens.Going toward ∷ values))
route_is vm most net number p toward values true m = ((must m.0, must m.1.0, must m.1.1.0, target_is toward values true m.1.1.1.1), tt)
route_is vm most net number p toward values false m = ((must m.0, must m.1.0, must m.1.1.0, target_is toward values false m.1.1.1.1), tt)

item_is : (vm most : ℕ) (command : Command) (values : List Given) (peer : Bool) → Meet (item_rows command peer) values → seals_wrongly command values ≡ false → Below command vm most
    → IsItem most (item_with vm command values)
item_is vm most commands.AddNet (givens.Number net ∷ []) peer m s b = (must m.0, tt)
item_is vm most commands.AddVm (givens.Named ∷ givens.Number net ∷ givens.Address mac ∷ givens.Number ip ∷ givens.Number host ∷ []) peer m s b = ((b, must m.1.0, must m.1.1.0), tt)
item_is vm most commands.RemoveVm (givens.Named ∷ []) peer m s b = (b, tt)
item_is vm most commands.AddRule (givens.Number net ∷ givens.Number number ∷ givens.Priority priority ∷ givens.Sided side ∷ givens.Allows allow
    ∷ givens.OfProtocol protocol ∷ givens.Within source ∷ givens.Within destination ∷ givens.Between source_low source_high
    ∷ givens.Between destination_low destination_high ∷ givens.Allows true ∷ []) peer m s b = (
      (
        must m.0,
        record {
          number = must m.1.0;
          source = prefix_by source (record { address = 0; length = 0 }) (grind arith) m.1.1.1.1.1.1.0;
          destination = prefix_by destination (record { address = 0; length = 0 }) (grind arith) m.1.1.1.1.1.1.1.0;
          source_ports = ports_by source_low source_high 0 65535 (grind arith) m.1.1.1.1.1.1.1.1.0;
          destination_ports = ports_by destination_low destination_high 0 65535 (grind arith) m.1.1.1.1.1.1.1.1.1.0;
          sealed = λ h. sealed_by side allow s;
        },
      ),
      tt,
    )
item_is vm most commands.AddRule (givens.Number net ∷ givens.Number number ∷ givens.Priority priority ∷ givens.Sided side ∷ givens.Allows allow
    ∷ givens.OfProtocol protocol ∷ givens.Within source ∷ givens.Within destination ∷ givens.Between source_low source_high
    ∷ givens.Between destination_low destination_high ∷ givens.Allows false ∷ []) peer m s b = (
      (
        must m.0,
        record {
          number = must m.1.0;
          source = prefix_by source (record { address = 0; length = 0 }) (grind arith) m.1.1.1.1.1.1.0;
          destination = prefix_by destination (record { address = 0; length = 0 }) (grind arith) m.1.1.1.1.1.1.1.0;
          source_ports = ports_by source_low source_high 0 65535 (grind arith) m.1.1.1.1.1.1.1.1.0;
          destination_ports = ports_by destination_low destination_high 0 65535 (grind arith) m.1.1.1.1.1.1.1.1.1.0;
          sealed = λ h. absurd (cc);
        },
      ),
      tt,
    )
item_is vm most commands.DelRule (givens.Number net ∷ givens.Number number ∷ []) peer m s b = ((must m.0, must m.1.0), tt)
item_is vm most commands.AddRoute (givens.Number net ∷ givens.Number number ∷ givens.Within p ∷ givens.Going toward ∷ values) peer m s b = route_is vm most net number p toward values peer m
item_is vm most commands.DelRoute (givens.Number net ∷ givens.Number number ∷ []) peer m s b = ((must m.0, must m.1.0), tt)
item_is vm most commands.Tick [] peer m s b = (tt, tt)
item_is vm most commands.Wait [] peer m s b = tt
item_is vm most commands.Send (givens.Number frames ∷ []) peer m s b = tt
item_is vm most commands.Send (givens.Absent ∷ []) peer m s b = tt
item_is vm most commands.Hold (givens.At node ∷ givens.Holding what ∷ []) peer m s b = tt
item_is vm most commands.Free (givens.At node ∷ givens.Holding what ∷ []) peer m s b = tt
item_is vm most commands.Blackout (givens.Named ∷ givens.Number host ∷ []) peer m s b = b
item_is vm most commands.Resume (givens.Named ∷ []) peer m s b = b
item_is vm most command values peer m s b = tt

-- ---- what is written

text_found : (o : Option (List ℕ)) (g : Given) → texted VmName o ≡ Ok g → (text : List ℕ) × (o ≡ Some text)
text_found None g e = absurd (cc)
text_found (Some text) g e = (text, refl)

vm_found : (o : Option Data) (g : Given) → found_or_left_out vm_row o ≡ Ok g → (text : List ℕ) × (text_in o ≡ Some text)
vm_found None g e = absurd (cc)
vm_found (Some d) g e = text_found (as_str d) g e

-- the first row is that of a VM's name
vm_named : (rows : List Row) (d : Data) (gs : List Given) → fields_of (vm_row ∷ rows) d ≡ Ok gs → (text : List ℕ) × (text_in (get (codes "vm") d) ≡ Some text)
vm_named rows d gs e =
    let (g, first, e1) = bind_ok (field_of vm_row d) (λ first. fields_of rows d >>= λ others. Ok (first ∷ others)) gs e in
    vm_found (get (codes "vm") d) g (field_ok (codes "vm") (found_or_left_out vm_row (get (codes "vm") d)) g first)

names_by : (command : Command) (o : Option (List ℕ)) (text : List ℕ) → ((t : List ℕ) → Names command (Some t)) → o ≡ Some text → Names command o
names_by command o text is e = subst (Names command) (sym e) (is text)

names_vm : (command : Command) (peer : Bool) (d : Data) (gs : List Given) → fields_of (item_rows command peer) d ≡ Ok gs → Names command (text_in (get (codes "vm") d))
names_vm commands.AddVm peer d gs e = let (text, is) = vm_named (drop 1 (item_rows commands.AddVm peer)) d gs e in names_by commands.AddVm (text_in (get (codes "vm") d)) text (λ t. tt) is
names_vm commands.RemoveVm peer d gs e = let (text, is) = vm_named (drop 1 (item_rows commands.RemoveVm peer)) d gs e in names_by commands.RemoveVm (text_in (get (codes "vm") d)) text (λ t. tt) is
names_vm commands.Blackout peer d gs e = let (text, is) = vm_named (drop 1 (item_rows commands.Blackout peer)) d gs e in names_by commands.Blackout (text_in (get (codes "vm") d)) text (λ t. tt) is
names_vm commands.Resume peer d gs e = let (text, is) = vm_named (drop 1 (item_rows commands.Resume peer)) d gs e in names_by commands.Resume (text_in (get (codes "vm") d)) text (λ t. tt) is
names_vm command peer d gs e = tt

record IsWell (w : Written) : Type 0 where
  pub peer : Bool
  pub meet : Meet (item_rows w.command peer) w.values
  pub seals : seals_wrongly w.command w.values ≡ false
  pub names : Names w.command w.name

sealed_ok : (command : Command) (d : Data) (peer : Bool) (values : List Given) (w : Written) → fields_of (item_rows command peer) d ≡ Ok values → sealed_well command d values ≡ Ok w → IsWell w
sealed_ok command d peer values w fields e = by_test (seals_wrongly command values) refl e
  where
    by_test : (b : Bool) → seals_wrongly command values ≡ b
        → if◌then◌else◌ {A = Result Written Refusal} b (Err (record { cause = causes.Range; spot = grammar.Of (codes "sealed") }))
        (Ok (record { command = command; values = values; name = text_in (get (codes "vm") d) })) ≡ Ok w
        → IsWell w
    by_test true is e = absurd (cc)
    by_test false is e =
        let written : Written = record { command = command; values = values; name = text_in (get (codes "vm") d) } in
        let same : written ≡ w = cc in
        subst IsWell same (record { peer = peer; meet = fields_meet (item_rows command peer) d values fields; seals = is; names = names_vm command peer d values fields })

commanded_ok : (d : Data) (fields : Members) (o : Option Command) (w : Written) → commanded d fields o ≡ Ok w → IsWell w
commanded_ok d fields None w e = absurd (cc)
commanded_ok d fields (Some command) w e =
    let (values, given, e1) = bind_ok (members_given (codes "do" ∷ []) (item_rows command (has_peer d)) d fields) (λ values. sealed_well command d values) w e in
    sealed_ok command d (has_peer d) values w (members_ok (codes "do" ∷ []) (item_rows command (has_peer d)) d fields values given) e1

told_ok : (d : Data) (fields : Members) (o : Option (List ℕ)) (w : Written) → told_to d fields o ≡ Ok w → IsWell w
told_ok d fields None w e = absurd (cc)
told_ok d fields (Some text) w e = commanded_ok d fields (command_of text) w e

in_ok : (d : Data) (o : Option Members) (w : Written) → item_in d o ≡ Ok w → IsWell w
in_ok d None w e = absurd (cc)
in_ok d (Some fields) w e = told_ok d fields (text_in (get (codes "do") d)) w e

at_ok : (n : ℕ) (r : Result Written Refusal) (w : Written) → at_item n r ≡ Ok w → r ≡ Ok w
at_ok n (Ok x) w e = let same : x ≡ w = cc in ap Ok same
at_ok n (Err x) w e = absurd (cc)

abbrev AreWell : List Written → Type 0
AreWell [] = Unit {0}
AreWell (w ∷ ws) = IsWell w × AreWell ws

items_ok : (n : ℕ) (list : Items) (ws : List Written) → items_of n list ≡ Ok ws → AreWell ws × (length ws ≡ item_count list)
items_ok n no_items ws e = let none : [] ≡ ws = cc in subst (λ x. AreWell x × (length x ≡ 0)) none (tt, refl)
items_ok n (item d rest) ws e =
    let (w, first, e1) = bind_ok (at_item n (item_of d)) (λ first. items_of (suc n) rest >>= λ others. Ok (first ∷ others)) ws e in
    let (others, more, e2) = bind_ok (items_of (suc n) rest) (λ others. Ok (w ∷ others)) ws e1 in
    let all : (w ∷ others) ≡ ws = cc in
    let (well, count) = items_ok (suc n) rest others more in
    subst (λ x. AreWell x × (length x ≡ suc (item_count rest))) all ((in_ok d (as_object d) w (at_ok n (item_of d) w first), well), ap suc count)

items_are : (names : List (List ℕ)) (ws : List Written) (most : ℕ) → length (names_from names ws) ≤ most → AreWell ws → AllByRecursion (IsItem most) (items_from names ws)
items_are names [] most few well = tt
items_are names (w ∷ ws) most few (is, well) =
    let (least, a) = all_grow (with_name names w.name) ws in (
      item_is (number_of names w.name) most w.command w.values is.peer is.meet is.seals
          (still_below w.command (number_of names w.name) (length (with_name names w.name)) most (grind (arith, few, least)) (named_below w.command names w.name is.names)),
      items_are (with_name names w.name) ws most few well,
    )

as_many : (names : List (List ℕ)) (ws : List Written) → length (items_from names ws) ≡ length ws
as_many names [] = refl
as_many names (w ∷ ws) = ap suc (as_many (with_name names w.name) ws)

-- ---- the whole

top_ok : (d : Data) (o : Option Members) (gs : List Given) → at_top (top_in d o) ≡ Ok gs → fields_of top_rows d ≡ Ok gs
top_ok d None gs e = absurd (cc)
top_ok d (Some fields) gs e = members_ok [] top_rows d fields gs (top_given (members_given [] top_rows d fields) e)
  where
    top_given : (r : Result (List Given) Refusal) → at_top r ≡ Ok gs → r ≡ Ok gs
    top_given (Ok x) e = let same : x ≡ gs = cc in ap Ok same
    top_given (Err x) e = absurd (cc)

scripted_ok : (settings : Settings) (script : Items) (s : Scenario) → AreSettings settings → scripted settings script ≡ Ok s → IsScenario s × (settings ≡ s.settings)
scripted_ok settings script s are e = by_count (nat_lt 65536 (item_count script)) refl e
  where
    by_count : (b : Bool) → nat_lt 65536 (item_count script) ≡ b
        → (if b then Err (grammar.Refused causes.Limit (grammar.Top (grammar.Of (codes "script")))) else (items_of 0 script >>= λ ws. Ok (scenario_with settings ws))) ≡ Ok s → IsScenario s × (settings ≡ s.settings)
    by_count true is e = absurd (cc)
    by_count false is e =
        let (ws, read, e1) = bind_ok (items_of 0 script) (λ ws. Ok (scenario_with settings ws)) s e in
        let (well, count) = items_ok 0 script ws read in
        let same : scenario_with settings ws ≡ s = cc in
        let (least, most) = all_grow [] ws in
        let many = as_many [] ws in
        subst (λ x. IsScenario x × (settings ≡ x.settings)) same (
          record {
            settings = are;
            names = grind (arith, nat_tests, is, count, most);
            few = grind (arith, nat_tests, is, count, many);
            items = All-from_recursion (IsItem (length (names_from [] ws))) (items_from [] ws) (items_are [] ws (length (names_from [] ws)) (grind arith) well);
          },
          refl,
        )

-- ---- what is left out

fields_cons : (row : Row) (rows : List Row) (d : Data) (gs : List Given) → fields_of (row ∷ rows) d ≡ Ok gs
    → (g : Given) × (rest : List Given) × (gs ≡ g ∷ rest) × (field_of row d ≡ Ok g) × (fields_of rows d ≡ Ok rest)
fields_cons row rows d gs e =
    let (g, first, e1) = bind_ok (field_of row d) (λ first. fields_of rows d >>= λ others. Ok (first ∷ others)) gs e in
    let (others, more, e2) = bind_ok (fields_of rows d) (λ others. Ok (g ∷ others)) gs e1 in
    let all : (g ∷ others) ≡ gs = cc in
    (g, others, sym all, first, more)

row_left : (name : List ℕ) (form : Form) (by g : Given) (o : Option Data) → o ≡ None → at_field name (found_or_left_out (record { name = name; form = form; default = Some by }) o) ≡ Ok g → g ≡ by
row_left name form by g None none e = let same : by ≡ g = cc in sym same
row_left name form by g (Some d) none e = absurd (cc)

-- the first value is the default of the first row
left_cons : (name : List ℕ) (form : Form) (by : Given) (rows : List Row) (d : Data) (gs : List Given) → get name d ≡ None
    → fields_of (record { name = name; form = form; default = Some by } ∷ rows) d ≡ Ok gs → (rest : List Given) × (gs ≡ by ∷ rest) × (fields_of rows d ≡ Ok rest)
left_cons name form by rows d gs none e =
    let (g, rest, all, first, more) = fields_cons (record { name = name; form = form; default = Some by }) rows d gs e in
    (rest, all ∙ ap (λ x. x ∷ rest) (row_left name form by g (get name d) none first), more)

given_cons : (name : List ℕ) (low high : ℕ) (rows : List Row) (d : Data) (gs : List Given)
    → fields_of (record { name = name; form = Whole low high; default = None } ∷ rows) d ≡ Ok gs → (n : ℕ) × (rest : List Given) × (gs ≡ givens.Number n ∷ rest) × (fields_of rows d ≡ Ok rest)
given_cons name low high rows d gs e =
    let (g, rest, all, first, more) = fields_cons (record { name = name; form = Whole low high; default = None }) rows d gs e in
    let (n, same, least, most) = numbered low high g (must (found_gives (record { name = name; form = Whole low high; default = None }) (get name d) g (field_ok name _ g first))) in
    (n, rest, all ∙ ap (λ x. x ∷ rest) same, more)

has_defaults : (d : Data) (gs : List Given) → fields_of top_rows d ≡ Ok gs → HasDefaults d (settings_by gs)
unfolding top_rows
has_defaults d gs e0 left =
    let (hosts, r1, a1, e1) = given_cons (codes "hosts") 1 64 (drop 1 top_rows) d gs e0 in
    let (gateways, r2, a2, e2) = given_cons (codes "gateways") 1 8 (drop 2 top_rows) d r1 e1 in
    let (r3, a3, e3) = left_cons (codes "workers") (Whole 1 4) (givens.Number 2) (drop 3 top_rows) d r2 left.workers e2 in
    let (r4, a4, e4) = left_cons (codes "hop_limit") (Whole 1 32) (givens.Number 16) (drop 4 top_rows) d r3 left.hop_limit e3 in
    let (r5, a5, e5) = left_cons (codes "out_queue") (Whole 1 4096) (givens.Number 256) (drop 5 top_rows) d r4 left.out_queue e4 in
    let (r6, a6, e6) = left_cons (codes "wire_queue") (Whole 1 4096) (givens.Number 256) (drop 6 top_rows) d r5 left.wire_queue e5 in
    let (r7, a7, e7) = left_cons (codes "seal_queue") (Whole 1 4096) (givens.Number 256) (drop 7 top_rows) d r6 left.seal_queue e6 in
    let (r8, a8, e8) = left_cons (codes "threshold") (Whole 1 1000000000) (givens.Number 20000) (drop 8 top_rows) d r7 left.threshold e7 in
    let (r9, a9, e9) = left_cons (codes "life") (Whole 1 10000) (givens.Number 3) (drop 9 top_rows) d r8 left.life e8 in
    rw (a1, a2, a3, a4, a5, a6, a7, a8, a9) refl

pub scenario_fits : (d : Data) (s : Scenario) → scenario_of d ≡ Ok s → IsScenario s × HasDefaults d s.settings
scenario_fits d s e =
    let (values, top, e1) = bind_ok (at_top (top_in d (as_object d))) (λ values. scripted (settings_by values) (script_in (get (codes "script") d))) s e in
    let given = top_ok d (as_object d) values top in
    let (is, same) = scripted_ok (settings_by values) (script_in (get (codes "script") d)) s (are_settings values (fields_meet top_rows d values given)) e1 in
    (is, subst (HasDefaults d) same (has_defaults d values given))

-- the same of an answer
pub answer_fits : (d : Data) (r : Result Scenario ScenarioFault) → IfOk r (λ s. scenario_of d ≡ Ok s) → IfOk r (λ s. IsScenario s) × IfOk r (λ s. HasDefaults d s.settings)
answer_fits d (Ok s) said = scenario_fits d s said
answer_fits d (Err e) said = (tt, tt)
