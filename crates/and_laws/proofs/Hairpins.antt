-- How many hairpins there are: only the end of a migration makes one.
use Rattle.std.proofs.Common.{refl, ◌≡◌, ℕ, ◌+◌, ◌<◌, ◌≤◌, List, [], length, get_or, set, replicate, ap, arith, ⊎_elim}
use Rattle.std.specs.List.{sum_by}
use Rattle.std.proofs.lemmas.List.{set_past, get_or_past}
use Rattle.std.proofs.lemmas.List.Sums.{sum_by-set}
use Rattle.std.proofs.lemmas.List.Folds.{sum_by-replicate}
use Rattle.std.proofs.lemmas.Bool.{cases_lt}
use Rattle.and_policy.specs.declared.port.Port.{Port}
use Rattle.and_policy.specs.declared.port.Port.TheVariants.{Absent, Running, Paused, Arriving, Hairpin}
use Rattle.and_events.specs.Ports.{IsHairpin, PortMove, Unmoved, Boot, Halt, Pause, Arrive, Unpinned, ports_after, ports_of, port_at, with_port}

-- a hairpin counts one
abbrev pub pin : Port → ℕ
pin (Hairpin host entry) = 1
pin Absent = 0
pin Running = 0
pin Paused = 0
pin Arriving = 0

abbrev pub pins : List Port → ℕ
pins ports = sum_by pin ports

abbrev pub hairpins : List (List Port) → ℕ
hairpins ports = sum_by pins ports

-- a migration's end makes one, and an Unpin takes one away
abbrev pub made : PortMove → ℕ
made (Arrive vm old new entry) = 1
made _ = 0

abbrev pub taken : PortMove → ℕ
taken (Unpinned host vm) = 1
taken _ = 0

-- what an Unpin takes away is there
abbrev pub IsTaken : List (List Port) → PortMove → Type 0
IsTaken ports (Unpinned host vm) = pin (port_at ports host vm) ≡ 1
IsTaken ports _ = Unit {0}

pins_set : (ports : List Port) (host : ℕ) (port : Port) → pins (set ports host port) ≤ pins ports + pin port
pins_set ports host port =
    ⊎_elim (λ (l : host < length ports). omega (arith, sum_by-set pin ports host port Absent l))
    (λ (l : length ports ≤ host). omega (arith, ap pins (set_past ports host port l))) (cases_lt host (length ports))

row_set : (ports : List (List Port)) (vm : ℕ) (row : List Port) (more : ℕ) → pins row ≤ pins (ports_of ports vm) + more → hairpins (set ports vm row) ≤ hairpins ports + more
row_set ports vm row more small =
    ⊎_elim (λ (l : vm < length ports). omega (arith, sum_by-set pins ports vm row [] l, small))
    (λ (l : length ports ≤ vm). omega (arith, ap hairpins (set_past ports vm row l))) (cases_lt vm (length ports))

port_set : (ports : List (List Port)) (host vm : ℕ) (port : Port) → hairpins (with_port ports host vm port) ≤ hairpins ports + pin port
port_set ports host vm port = row_set ports vm (set (ports_of ports vm) host port) (pin port) (pins_set (ports_of ports vm) host port)

none_absent : (n : ℕ) → pins (replicate n Absent) ≡ 0
none_absent n = omega (arith, sum_by-replicate pin n Absent)

pub pin_within : (ports : List Port) (host : ℕ) → pin (get_or ports host Absent) ≡ 1 → host < length ports
pin_within ports host some =
    ⊎_elim (λ (l : host < length ports). l)
    (λ (l : length ports ≤ host). absurd (omega (arith, some, ap pin (get_or_past ports host Absent l)))) (cases_lt host (length ports))

pub row_within : (ports : List (List Port)) (host vm : ℕ) → pin (port_at ports host vm) ≡ 1 → vm < length ports
row_within ports host vm some =
    let none : List Port = [] in
    ⊎_elim (λ (l : vm < length ports). l)
    (λ (l : length ports ≤ vm). absurd (omega (arith, some, ap (λ row. pin (get_or row host Absent)) (get_or_past ports vm none l)))) (cases_lt vm (length ports))

pub unpin : (ports : List (List Port)) (host vm : ℕ) → pin (port_at ports host vm) ≡ 1 → hairpins (with_port ports host vm Absent) + 1 ≡ hairpins ports
unpin ports host vm some =
    let row = ports_of ports vm in
    let none : List Port = [] in
    omega (
      arith,
      sum_by-set pin row host Absent Absent (pin_within row host some),
      sum_by-set pins ports vm (set row host Absent) none (row_within ports host vm some),
      some,
    )

pub hairpins_after : (ports : List (List Port)) (m : PortMove) → IsTaken ports m → hairpins (ports_after ports m) + taken m ≤ hairpins ports + made m
unfolding ports_after
hairpins_after ports Unmoved t = omega arith
hairpins_after ports (Boot host vm) t = omega (arith, port_set ports host vm Running)
hairpins_after ports (Halt vm) t = omega (arith, row_set ports vm (replicate (length (ports_of ports vm)) Absent) 0 (omega (arith, none_absent (length (ports_of ports vm)))))
hairpins_after ports (Pause vm old new) t = omega (arith, port_set ports old vm Paused, port_set (with_port ports old vm Paused) new vm Arriving)
hairpins_after ports (Arrive vm old new entry) t =
    omega (arith, port_set ports old vm (Hairpin new entry), port_set (with_port ports old vm (Hairpin new entry)) new vm Running)
hairpins_after ports (Unpinned host vm) t = omega (arith, unpin ports host vm t)

pub hairpin_pins : (port : Port) → IsHairpin port → pin port ≡ 1
hairpin_pins (Hairpin to entry) is = refl
hairpin_pins Absent is = absurd is
hairpin_pins Running is = absurd is
hairpin_pins Paused is = absurd is
hairpin_pins Arriving is = absurd is
