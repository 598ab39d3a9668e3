use Rattle.std.proofs.Common.{◌≡◌, ap, subst, sym, List}
use Rattle.and_policy.specs.Sorting.{Ascends}
use Rattle.and_events.specs.Ports.{Halt, ports_after}
use Rattle.and_pins.specs.declared.pin.Pin.{Pin}
use Rattle.and_pins.specs.Pinned.{ArePins, IsFirstPlace, PinsView, pin_before}
use Rattle.and_pins.proofs.Changes.{ascend_without}
use Rattle.and_pins.proofs.Ported.{pins_all_taken}
use Rattle.and_pins.proofs.pins.Pins.take_all.Goals as goal

pub invariant_of-self : goal.invariant_of-self
invariant_of-self c = record {
  ascend = subst (Ascends pin_before) (sym c.take_out_all.ensures.pins) (ascend_without c.args.vm c.self.inside.pins.items c.self.invariant.ascend);
  first = subst (λ (ps : List Pin). IsFirstPlace ps c.self.inside.least c.first_place-self-inside.result) c.deref.ensures.value c.first_place-self-inside.ensures;
}

pub returns-clause-pins : goal.returns-clause-pins
returns-clause-pins c = λ ports a.
    let e : c.args.self.now.pins ≡ c.self.inside.pins.items = sym (ap (λ (v : PinsView). v.pins) c.self.view_is) in
    subst (λ (ps : List Pin). ArePins ps (ports_after ports (Halt c.args.vm))) (sym c.take_out_all.ensures.pins)
    (pins_all_taken c.self.inside.pins.items ports c.args.vm (subst (λ (ps : List Pin). ArePins ps ports) e a))
