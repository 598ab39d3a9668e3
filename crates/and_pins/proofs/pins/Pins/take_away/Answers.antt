use Rattle.std.proofs.Common.{◌≡◌, ap, subst, sym, List}
use Rattle.and_pins.specs.declared.pin.Pin.{Pin}
use Rattle.and_pins.specs.Pinned.{ArePins, PinsView}
use Rattle.and_pins.proofs.Ported.{pins_taken}
use Rattle.and_pins.proofs.pins.Pins.take_away.Goals as goal

pub returns-then-take_out-clause-pins : goal.returns-then-take_out-clause-pins
returns-then-take_out-clause-pins c = λ ports port n a.
    let e : c.args.self.now.pins ≡ c.self.inside.pins.items = sym (ap (λ (v : PinsView). v.pins) c.self.view_is) in
    pins_taken c.self.inside.pins.items c.take_out.new.pins.items ports c.args.host c.args.vm port c.take_out.ensures.changes n (subst (λ (ps : List Pin). ArePins ps ports) e a)

pub returns-else-take_out-clause-pins : goal.returns-else-take_out-clause-pins
returns-else-take_out-clause-pins c = λ ports port n a.
    let e : c.args.self.now.pins ≡ c.self.inside.pins.items = sym (ap (λ (v : PinsView). v.pins) c.self.view_is) in
    pins_taken c.self.inside.pins.items c.take_out.new.pins.items ports c.args.host c.args.vm port c.take_out.ensures.changes n (subst (λ (ps : List Pin). ArePins ps ports) e a)
