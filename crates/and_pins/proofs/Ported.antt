-- How the hairpins follow the ports.
use Rattle.std.proofs.Common.{◌≡◌, ℕ, zero, suc, ◌<◌, List, [], ◌∷◌, length, get_or, set, replicate, refl, ap, sym, ◌∙◌, subst, inl, inr, Option, Some, None}
use Rattle.std.specs.Prelude.{◌⊎◌}
use Rattle.std.proofs.lemmas.List.{get_or-set_same, get_or-set_other}
use Rattle.std.proofs.lemmas.Bool.{cases_eq}
use Rattle.and_policy.specs.declared.port.Port.{Port}
use Rattle.and_policy.specs.declared.port.Port.TheVariants as port_states
use Rattle.and_events.specs.Ports.{Halt, IsHairpin, port_at, ports_after, ports_of, with_port}
use Rattle.and_pins.specs.declared.pin.Pin.{Pin}
use Rattle.and_pins.specs.Pinned.{ArePins, ChangesAt, entry_at, hairpin_entry}
use Rattle.and_pins.proofs.Changes.{ascend_without, without, without_elsewhere, without_here}

-- what stands at a place after a write there
set_here : {X : Type 0} (xs : List X) (k : ℕ) (x d : X) (P : X → Type 0) → P d → P x → P (get_or (set xs k x) k d)
set_here [] k x d P past new = past
set_here (y ∷ ys) zero x d P past new = new
set_here (y ∷ ys) (suc k) x d P past new = set_here ys k x d P past new

set_at : {X : Type 0} (xs : List X) (k : ℕ) (x d : X) (P : X → Type 0) → P (get_or xs k d) → P x → P (get_or (set xs k x) k d)
set_at [] k x d P old new = old
set_at (y ∷ ys) zero x d P old new = new
set_at (y ∷ ys) (suc k) x d P old new = set_at ys k x d P old new

replicate_at : (n k : ℕ) → hairpin_entry (get_or (replicate n port_states.Absent) k port_states.Absent) ≡ None
replicate_at zero k = refl
replicate_at (suc n) zero = refl
replicate_at (suc n) (suc k) = replicate_at n k

cases_place : (h host v vm : ℕ) → ((h ≡ host) × (v ≡ vm)) ⊎ (h ≡ host → v ≡ vm → ⊥)
cases_place h host v vm = elim (cases_eq h host) as (λ _. ((h ≡ host) × (v ≡ vm)) ⊎ (h ≡ host → v ≡ vm → ⊥)) [
  | inl e ↦ elim (cases_eq v vm) as (λ _. ((h ≡ host) × (v ≡ vm)) ⊎ (h ≡ host → v ≡ vm → ⊥)) [
    | inl f ↦ inl (e, f)
    | inr n ↦ inr (λ a b. n b)
  ]
  | inr n ↦ inr (λ a b. n a)
]

not_hairpin : (port : Port) → (IsHairpin port → ⊥) → hairpin_entry port ≡ None
not_hairpin port_states.Absent n = refl
not_hairpin port_states.Running n = refl
not_hairpin port_states.Paused n = refl
not_hairpin port_states.Arriving n = refl
not_hairpin (port_states.Hairpin to entry) n = absurd (n tt)

-- ---- one port

port_there : (ports : List (List Port)) (host vm : ℕ) (port : Port) → vm < length ports → host < length (ports_of ports vm) → port_at (with_port ports host vm port) host vm ≡ port
port_there ports host vm port k l =
    ap (λ (row : List Port). get_or row host port_states.Absent) (get_or-set_same ports vm (set (ports_of ports vm) host port) [] k)
    ∙ get_or-set_same (ports_of ports vm) host port port_states.Absent l

port_gone : (ports : List (List Port)) (host vm : ℕ) (port : Port) → hairpin_entry port ≡ None → hairpin_entry (port_at (with_port ports host vm port) host vm) ≡ None
port_gone ports host vm port n =
    let P : List Port → Type 0 = λ row. hairpin_entry (get_or row host port_states.Absent) ≡ None in
    set_here ports vm (set (ports_of ports vm) host port) [] P refl (set_here (ports_of ports vm) host port port_states.Absent (λ p. hairpin_entry p ≡ None) refl n)

port_elsewhere : (ports : List (List Port)) (host vm h v : ℕ) (port : Port) → (h ≡ host → v ≡ vm → ⊥) → port_at (with_port ports host vm port) h v ≡ port_at ports h v
port_elsewhere ports host vm h v port n = elim (cases_eq v vm) as (λ _. port_at (with_port ports host vm port) h v ≡ port_at ports h v) [
  | inl e ↦
      subst (λ (x : ℕ). port_at (with_port ports host vm port) h x ≡ port_at ports h x) (sym e)
      (set_at ports vm (set (ports_of ports vm) host port) [] (λ row. get_or row h port_states.Absent ≡ port_at ports h vm) refl
      (get_or-set_other (ports_of ports vm) host h port port_states.Absent (λ f. n f e)))
  | inr m ↦ ap (λ (row : List Port). get_or row h port_states.Absent) (get_or-set_other ports vm v (set (ports_of ports vm) host port) [] m)
]

follows : (old new : List Pin) (ports : List (List Port)) (host vm : ℕ) (port : Port) → ChangesAt old new host vm (hairpin_entry port) → hairpin_entry (port_at (with_port ports host vm port) host vm) ≡ hairpin_entry port
    → ArePins old ports → ArePins new (with_port ports host vm port)
follows old new ports host vm port c is a = record {
  ascend = c.ascend;
  entries = λ h v. by_place h v (cases_place h host v vm);
}
  where
    by_place : (h v : ℕ) → ((h ≡ host) × (v ≡ vm)) ⊎ (h ≡ host → v ≡ vm → ⊥) → entry_at new h v ≡ hairpin_entry (port_at (with_port ports host vm port) h v)
    by_place h v (inl e) =
        subst (λ (x : ℕ). entry_at new x v ≡ hairpin_entry (port_at (with_port ports host vm port) x v)) (sym e.0)
        (subst (λ (y : ℕ). entry_at new host y ≡ hairpin_entry (port_at (with_port ports host vm port) host y)) (sym e.1) (c.here ∙ sym is))
    by_place h v (inr n) = c.elsewhere h v n ∙ a.entries h v ∙ sym (ap hairpin_entry (port_elsewhere ports host vm h v port n))

-- a VM leaves a hairpin
pub pins_put : (old new : List Pin) (ports : List (List Port)) (host vm to entry : ℕ) → ChangesAt old new host vm (Some entry) → vm < length ports → host < length (ports_of ports vm) → ArePins old ports
    → ArePins new (with_port ports host vm (port_states.Hairpin to entry))
pins_put old new ports host vm to entry c k l a =
    follows old new ports host vm (port_states.Hairpin to entry) c (ap hairpin_entry (port_there ports host vm (port_states.Hairpin to entry) k l)) a

-- a port is no hairpin any more
pub pins_taken : (old new : List Pin) (ports : List (List Port)) (host vm : ℕ) (port : Port) → ChangesAt old new host vm None → (IsHairpin port → ⊥) → ArePins old ports → ArePins new (with_port ports host vm port)
pins_taken old new ports host vm port c n a =
    let e = not_hairpin port n in
    follows old new ports host vm port (subst (λ (x : Option ℕ). ChangesAt old new host vm x) (sym e) c) (port_gone ports host vm port e ∙ sym e) a

-- ---- all ports of a VM

pub pins_all_taken : (old : List Pin) (ports : List (List Port)) (vm : ℕ) → ArePins old ports → ArePins (without vm old) (ports_after ports (Halt vm))
unfolding ports_after
pins_all_taken old ports vm a = record {
  ascend = ascend_without vm old a.ascend;
  entries = λ h v. by_vm h v (cases_eq v vm);
}
  where
    none : List Port
    none = replicate (length (ports_of ports vm)) port_states.Absent

    by_vm : (h v : ℕ) → (v ≡ vm) ⊎ (v ≡ vm → ⊥) → entry_at (without vm old) h v ≡ hairpin_entry (port_at (set ports vm none) h v)
    by_vm h v (inl e) =
        subst (λ (x : ℕ). entry_at (without vm old) h x ≡ hairpin_entry (port_at (set ports vm none) h x)) (sym e)
        (without_here vm h old
        ∙ sym (set_here ports vm none [] (λ row. hairpin_entry (get_or row h port_states.Absent) ≡ None) refl (replicate_at (length (ports_of ports vm)) h)))
    by_vm h v (inr n) = without_elsewhere vm h v old n ∙ a.entries h v ∙ sym (ap (λ (row : List Port). hairpin_entry (get_or row h port_states.Absent)) (get_or-set_other ports vm v none [] n))
