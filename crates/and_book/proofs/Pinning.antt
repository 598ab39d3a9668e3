-- The hairpins that are kept follow the ports of the state.
use Rattle.std.proofs.Common.{◌≡◌, ◌≢◌, ℕ, zero, suc, ◌+◌, ◌-◌, ◌<◌, ◌≤◌, List, [], length, get_or, set, replicate, refl, sym, ap, ◌∙◌, subst, arith, None}
use Rattle.std.proofs.lemmas.List.{get_or-set_other}
use Rattle.and_policy.specs.declared.port.Port.{Port}
use Rattle.and_policy.specs.declared.port.Port.TheVariants.{Absent, Running, Paused, Arriving, Hairpin}
use Rattle.and_events.specs.declared.plan.Plan.{Plan}
use Rattle.and_events.specs.Ports.{Boot, Pause, Arrive, Unpinned, IsHairpin, ports_of, port_at, with_port, ports_after}
use Rattle.and_kept.specs.Nodes.{Progressed}
use Rattle.and_laws.proofs.PortSteps.{of_one}
use Rattle.and_laws.proofs.Rows.{replicate_at}
use Rattle.and_pins.specs.declared.pin.Pin.{Pin}
use Rattle.and_pins.specs.Pinned.{PinsView, ArePins, hairpin_entry}
use Rattle.and_pins.proofs.Ported.{pins_taken}
use Rattle.and_book.specs.Inside.{Kept, HasPins, PinsFollow}

-- ---- from event to event

pub pins_follow : (plan : Plan) (k k' : Kept) (more : ℕ) → PinsFollow k.pins k'.pins k.ports k'.ports more → k'.progress.least ≡ k.progress.least → more + (length plan.steps - k'.next) ≤ length plan.steps - k.next → HasPins plan k → HasPins plan k'
pins_follow plan k k' more follows least room pins = record {
  standing = follows.standing pins.standing;
  least = follows.least ∙ (pins.least ∙ sym least);
  room = omega (arith, follows.few, follows.room, room, pins.room);
}

-- an event that leaves ports, hairpins and installed entries as they are
pub pins_stay : (plan : Plan) (k k' : Kept) → k'.pins ≡ k.pins → k'.ports ≡ k.ports → k'.progress.least ≡ k.progress.least → k.next ≤ k'.next → HasPins plan k → HasPins plan k'
pins_stay plan k k' same ports least later pins = record {
  standing = subst (λ rows. ArePins k'.pins.pins rows) (sym ports) (subst (λ (v : PinsView). ArePins v.pins k.ports) (sym same) pins.standing);
  least = ap (λ (v : PinsView). v.least) same ∙ (pins.least ∙ sym least);
  room = omega (arith, ap (λ (v : PinsView). v.room) same, ap (λ (v : PinsView). length v.pins) same, pins.room, later);
}

-- a node has installed what it announced
pub pins_ripen : (plan : Plan) (k : Kept) (p : Progressed) (pins' : PinsView) → pins' ≡ record k.pins { least = p.least } → HasPins plan k → HasPins plan (record k { progress = p; pins = pins' })
pins_ripen plan k p pins' is pins = record {
  standing = subst (λ (v : PinsView). ArePins v.pins k.ports) (sym is) pins.standing;
  least = ap (λ (v : PinsView). v.least) is;
  room = omega (arith, ap (λ (v : PinsView). v.room) is, ap (λ (v : PinsView). length v.pins) is, pins.room);
}

-- at first there are none
none_at : (vms hosts host vm : ℕ) → hairpin_entry (port_at (replicate vms (replicate hosts Absent)) host vm) ≡ None
none_at zero hosts host vm = refl
none_at (suc vms) hosts host zero = ap hairpin_entry (replicate_at hosts host Absent)
none_at (suc vms) hosts host (suc vm) = none_at vms hosts host vm

pub pins_start : (plan : Plan) (k : Kept) (vms hosts : ℕ) → k.ports ≡ replicate vms (replicate hosts Absent) → k.pins.pins ≡ [] → k.pins.least ≡ 0 → k.progress.least ≡ 0 → length plan.steps ≤ k.pins.room → HasPins plan k
pins_start plan k vms hosts ports none zero' least room = record {
  standing = subst (λ rows. ArePins k.pins.pins rows) (sym ports)
      (subst (λ ps. ArePins ps (replicate vms (replicate hosts Absent))) (sym none) (record { ascend = tt; entries = λ host vm. sym (none_at vms hosts host vm) }));
  least = zero' ∙ sym least;
  room = omega (arith, ap (length {A = Pin}) none, room);
}

-- ---- ports that are written

-- where there was no hairpin and there is none
pub pins_kept : (pins : List Pin) (ports : List (List Port)) (host vm : ℕ) (port : Port) → hairpin_entry (port_at ports host vm) ≡ None → (IsHairpin port → ⊥) → ArePins pins ports → ArePins pins (with_port ports host vm port)
pins_kept pins ports host vm port was not_one are =
    pins_taken pins pins ports host vm port (record { ascend = are.ascend; here = are.entries host vm ∙ was; elsewhere = λ h v n. refl }) not_one are

-- a VM boots where it has no hairpin
pub booted_pins : (pins : PinsView) (ports ports' : List (List Port)) (host vm : ℕ) → hairpin_entry (port_at ports host vm) ≡ None → ports' ≡ ports_after ports (Boot host vm) → PinsFollow pins pins ports ports' 0
unfolding ports_after
booted_pins pins ports ports' host vm none moved = record {
  standing = λ are. subst (λ rows. ArePins pins.pins rows) (sym moved) (pins_kept pins.pins ports host vm Running none (λ x. x) are);
  few = omega arith;
  least = refl;
  room = omega arith;
}

module _ (pins pins' : PinsView) (ports ports' : List (List Port)) (vm : ℕ) where
  -- the hairpin of the VM at the host is taken away
  abbrev pub TakesAway : ℕ → Type 0
  TakesAway host = (rows : List (List Port)) (port : Port) → (IsHairpin port → ⊥) → ArePins pins.pins rows → ArePins pins'.pins (with_port rows host vm port)

  -- a VM is paused where it ran, and a hairpin that it had where it is to arrive is gone
  pub paused_pins : (home host : ℕ) → hairpin_entry (port_at ports home vm) ≡ None → ports' ≡ ports_after ports (Pause vm home host) → TakesAway host → length pins'.pins ≤ length pins.pins → pins'.least ≡ pins.least → pins.room ≤ pins'.room
      → PinsFollow pins pins' ports ports' 0
  unfolding ports_after
  paused_pins home host was moved away fewer least room = record {
    standing = λ are. subst (λ rows. ArePins pins'.pins rows) (sym moved) (away (with_port ports home vm Paused) Arriving (λ x. x) (pins_kept pins.pins ports home vm Paused was (λ x. x) are));
    few = omega (arith, fewer);
    least = least;
    room = room;
  }

  -- a hairpin goes
  pub unpinned_pins : (host : ℕ) → ports' ≡ ports_after ports (Unpinned host vm) → TakesAway host → length pins'.pins ≤ length pins.pins → pins'.least ≡ pins.least → pins.room ≤ pins'.room → PinsFollow pins pins' ports ports' 0
  unfolding ports_after
  unpinned_pins host moved away fewer least room = record {
    standing = λ are. subst (λ rows. ArePins pins'.pins rows) (sym moved) (away ports Absent (λ x. x) are);
    few = omega (arith, fewer);
    least = least;
    room = room;
  }

  -- a VM leaves a hairpin, and runs where it arrived
  pub arrived_pins : (home host entry : ℕ) → vm < length ports → home < length (ports_of ports vm) → host ≢ home → hairpin_entry (port_at ports host vm) ≡ None → ports' ≡ ports_after ports (Arrive vm home host entry)
      → ((rows : List (List Port)) (to : ℕ) → vm < length rows → home < length (ports_of rows vm) → ArePins pins.pins rows → ArePins pins'.pins (with_port rows home vm (Hairpin to entry)))
      → length pins'.pins ≤ length pins.pins + 1 → pins'.least ≡ pins.least → pins.room ≤ pins'.room → PinsFollow pins pins' ports ports' 1
  unfolding ports_after
  arrived_pins home host entry there within apart was moved put few least room =
      let row : List Port = ports_of ports vm in
      let behind : List (List Port) = with_port ports home vm (Hairpin host entry) in
      let same : port_at behind host vm ≡ port_at ports host vm =
      ap (λ (r : List Port). get_or r host Absent) (of_one ports vm (set row home (Hairpin host entry)) there) ∙ get_or-set_other row home host (Hairpin host entry) Absent apart in
      record {
        standing = λ are. subst (λ rows. ArePins pins'.pins rows) (sym moved) (pins_kept pins'.pins behind host vm Running (ap hairpin_entry same ∙ was) (λ x. x) (put ports host there within are));
        few = few;
        least = least;
        room = room;
      }
