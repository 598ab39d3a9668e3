-- A table of ports after a write to one row.
use Rattle.std.proofs.Common.{◌≡◌, ℕ, ◌<◌, ◌≤◌, List, [], length, get_or, set, map, sym, ap, subst, ◌∙◌, Vec, Global}
use Rattle.std.specs.Prelude.{replicate}
use Rattle.std.proofs.lemmas.List.{map-set, get_or-map, set_past, length-map}
use Rattle.and_policy.specs.declared.port.Port.{Port}
use Rattle.and_policy.specs.declared.port.Port.TheVariants.{Absent}
use Rattle.and_events.specs.Ports.{with_port, ports_of}

row_read : (rows : List (Vec Port Global)) (vm : ℕ) (row : Vec Port Global) → vm < length rows → row ≡ get_or rows vm row → ports_of (map (λ r. r.items) rows) vm ≡ row.items
row_read rows vm row h is =
    let f : Vec Port Global → List Port = λ r. r.items in
    let none : List Port = [] in
    get_or-map f rows vm row none h ∙ ap f (sym is)

pub rows_set : (rows : List (Vec Port Global)) (host vm : ℕ) (port : Port) (row new : Vec Port Global) → vm < length rows → row ≡ get_or rows vm row → new.items ≡ set row.items host port
    → map (λ r. r.items) (set rows vm new) ≡ with_port (map (λ r. r.items) rows) host vm port
rows_set rows host vm port row new h is made =
    let f : Vec Port Global → List Port = λ r. r.items in
    map-set f rows vm new ∙ ap (set (map f rows) vm) (made ∙ ap (λ ps. set ps host port) (sym (row_read rows vm row h is)))

pub rows_cleared : (rows : List (Vec Port Global)) (vm : ℕ) (row new : Vec Port Global) → vm < length rows → row ≡ get_or rows vm row → new.items ≡ replicate (length row.items) Absent
    → map (λ r. r.items) (set rows vm new) ≡ set (map (λ r. r.items) rows) vm (replicate (length (ports_of (map (λ r. r.items) rows) vm)) Absent)
rows_cleared rows vm row new h is made =
    let f : Vec Port Global → List Port = λ r. r.items in
    map-set f rows vm new ∙ ap (set (map f rows) vm) (made ∙ ap (λ ps. replicate (length ps) Absent) (sym (row_read rows vm row h is)))

pub rows_past : (rows : List (Vec Port Global)) (vm : ℕ) (new : List Port) → length rows ≤ vm → map (λ r. r.items) rows ≡ set (map (λ r. r.items) rows) vm new
rows_past rows vm new h =
    let f : Vec Port Global → List Port = λ r. r.items in
    sym (set_past (map f rows) vm new (subst (λ n. n ≤ vm) (sym (length-map rows f)) h))
