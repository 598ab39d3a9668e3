-- Every hairpin goes to a host of the plan.
use Rattle.std.proofs.Common.{◌≡◌, ℕ, zero, suc, ◌<◌, ◌≤◌, Bool, List, [], ◌∷◌, length, get_or, set, replicate, refl, sym, ap, subst, arith, Option, Some, None, ⊎_elim}
use Rattle.std.specs.Prelude.{slice_get, position, unwrap_or}
use Rattle.std.proofs.lemmas.List.{get_or_past}
use Rattle.std.proofs.lemmas.List.Quantifiers.{position-Some}
use Rattle.std.proofs.lemmas.Bool.{cases_lt}
use Rattle.and_policy.specs.declared.entry.Entry.{Entry}
use Rattle.and_policy.specs.declared.entry.Entry.TheVariants as entries
use Rattle.and_policy.specs.declared.port.Port.{Port}
use Rattle.and_policy.specs.declared.port.Port.TheVariants.{Absent, Running, Paused, Arriving, Hairpin}
use Rattle.and_events.specs.declared.event.Event.{Event}
use Rattle.and_events.specs.declared.event.Event.TheVariants.{Append, Blackout, Resume, Unpin}
use Rattle.and_events.specs.declared.plan.Step.{Step}
use Rattle.and_events.specs.declared.plan.Step.TheVariants as steps
use Rattle.and_events.specs.declared.plan.Plan.{Plan}
use Rattle.and_events.specs.Ports.{PortMove, Unmoved, Boot, Halt, Pause, Arrive, Unpinned, ports_after, ports_of, is_arriving}
use Rattle.and_events.specs.State.{State, state, start, after, ports_move_of, ports_move_of_step, ports_move_of_entry}
use Rattle.and_laws.specs.Sizes.{HasPorts}
use Rattle.and_laws.proofs.Rows.{set_at, replicate_at}
use Rattle.and_laws.proofs.Sizes.{port_sizes}

-- a hairpin goes to a host of the plan
abbrev pub PinsTo : ℕ → Port → Type 0
PinsTo hosts (Hairpin to entry) = to < hosts
PinsTo hosts _ = Unit {0}

abbrev pub RowPins : ℕ → List Port → Type 0
RowPins hosts row = (host : ℕ) → PinsTo hosts (get_or row host Absent)

abbrev pub AllPins : ℕ → List (List Port) → Type 0
AllPins hosts ports = (vm : ℕ) → RowPins hosts (ports_of ports vm)

row_pins : (hosts : ℕ) (row : List Port) (host : ℕ) (port : Port) → RowPins hosts row → PinsTo hosts port → RowPins hosts (set row host port)
row_pins hosts row host port all is h = set_at row host h port Absent (PinsTo hosts) (all h) (λ same. is)

ports_pin : (hosts : ℕ) (ports : List (List Port)) (vm : ℕ) (row : List Port) → AllPins hosts ports → RowPins hosts row → AllPins hosts (set ports vm row)
ports_pin hosts ports vm row all is v = set_at ports vm v row [] (RowPins hosts) (all v) (λ same. is)

port_pins : (hosts : ℕ) (ports : List (List Port)) (host vm : ℕ) (port : Port) → AllPins hosts ports → PinsTo hosts port → AllPins hosts (set ports vm (set (ports_of ports vm) host port))
port_pins hosts ports host vm port all is = ports_pin hosts ports vm (set (ports_of ports vm) host port) all (row_pins hosts (ports_of ports vm) host port (all vm) is)

absent_pins : (hosts n : ℕ) → RowPins hosts (replicate n Absent)
absent_pins hosts n host = subst (PinsTo hosts) (sym (replicate_at n host Absent)) tt

-- a VM arrives at a host of the plan
abbrev ArrivesAt : ℕ → PortMove → Type 0
ArrivesAt hosts (Arrive vm old new entry) = new < hosts
ArrivesAt hosts _ = Unit {0}

pins_after : (hosts : ℕ) (ports : List (List Port)) (m : PortMove) → ArrivesAt hosts m → AllPins hosts ports → AllPins hosts (ports_after ports m)
unfolding ports_after
pins_after hosts ports Unmoved at all = all
pins_after hosts ports (Boot host vm) at all = port_pins hosts ports host vm Running all tt
pins_after hosts ports (Halt vm) at all = ports_pin hosts ports vm (replicate (length (ports_of ports vm)) Absent) all (absent_pins hosts (length (ports_of ports vm)))
pins_after hosts ports (Pause vm old new) at all =
    port_pins hosts (set ports vm (set (ports_of ports vm) old Paused)) new vm Arriving (port_pins hosts ports old vm Paused all tt) tt
pins_after hosts ports (Arrive vm old new entry) at all =
    port_pins hosts (set ports vm (set (ports_of ports vm) old (Hairpin new entry))) new vm Running (port_pins hosts ports old vm (Hairpin new entry) all at) tt
pins_after hosts ports (Unpinned host vm) at all = port_pins hosts ports host vm Absent all tt

found_within : {X : Type 0} (q : X → Bool) (xs : List X) (d : X) (m : ℕ) (o : Option ℕ) → 0 < m → length xs ≤ m → position q xs ≡ o → unwrap_or o 0 < m
found_within q xs d m None some most f = some
found_within q xs d m (Some i) some most f = omega (arith, (position-Some q xs i d f).0, most)

row_length : (plan : Plan) (ports : List (List Port)) (vm : ℕ) → HasPorts plan ports → length (ports_of ports vm) ≤ plan.settings.hosts
row_length plan ports vm h =
    let none : List Port = [] in
    ⊎_elim (λ (l : vm < length plan.names). omega (arith, h.hosts vm l))
    (λ (l : length plan.names ≤ vm).
    let past : length ports ≤ vm = omega (arith, h.vms, l) in
    omega (arith, ap (length {A = Port}) (get_or_past ports vm none past)))
    (cases_lt vm (length plan.names))

entry_arrives : (hosts : ℕ) (e : Entry) → ArrivesAt hosts (ports_move_of_entry e)
entry_arrives hosts (entries.AddVm vm net mac ip host) = tt
entry_arrives hosts (entries.RemoveVm vm) = tt
entry_arrives hosts e = tt

step_arrives : (plan : Plan) (s : State) (o : Option Step) → 0 < plan.settings.hosts → HasPorts plan s.ports → ArrivesAt plan.settings.hosts (ports_move_of_step s o)
step_arrives plan s (Some (steps.Append e)) some h = entry_arrives plan.settings.hosts e
step_arrives plan s (Some (steps.Blackout vm host)) some h = tt
step_arrives plan s (Some (steps.Resume vm)) some h =
    found_within is_arriving (ports_of s.ports vm) Absent plan.settings.hosts _ some (row_length plan s.ports vm h) refl
step_arrives plan s (Some step) some h = tt
step_arrives plan s None some h = tt

event_arrives : (plan : Plan) (s : State) (e : Event) → 0 < plan.settings.hosts → HasPorts plan s.ports → ArrivesAt plan.settings.hosts (ports_move_of plan s e)
unfolding ports_move_of
event_arrives plan s (Append n) some h = step_arrives plan s (slice_get plan.steps n) some h
event_arrives plan s (Blackout n) some h = step_arrives plan s (slice_get plan.steps n) some h
event_arrives plan s (Resume n) some h = step_arrives plan s (slice_get plan.steps n) some h
event_arrives plan s (Unpin host vm) some h = tt
event_arrives plan s e some h = tt

first_pins : (hosts n m vm : ℕ) → RowPins hosts (ports_of (replicate n (replicate m Absent)) vm)
first_pins hosts zero m vm host = tt
first_pins hosts (suc n) m zero host = absent_pins hosts m host
first_pins hosts (suc n) m (suc vm) host = first_pins hosts n m vm host

pub pins_to_hosts : (plan : Plan) (h : List Event) → 0 < plan.settings.hosts → AllPins plan.settings.hosts (state plan h).ports
unfolding state start after
pins_to_hosts plan [] some vm = first_pins plan.settings.hosts (length plan.names) plan.settings.hosts vm
pins_to_hosts plan (e ∷ h) some vm =
    pins_after plan.settings.hosts (state plan h).ports (ports_move_of plan (state plan h) e)
    (event_arrives plan (state plan h) e some (port_sizes plan h)) (pins_to_hosts plan h some) vm
