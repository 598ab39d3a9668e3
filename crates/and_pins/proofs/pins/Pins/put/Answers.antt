use Rattle.std.proofs.Common.{◌≡◌, ap, subst, sym, List}
use Rattle.and_pins.specs.declared.pin.Pin.{Pin}
use Rattle.and_pins.specs.Pinned.{ArePins, PinsView}
use Rattle.and_pins.proofs.Ported.{pins_put}
use Rattle.and_pins.proofs.pins.Pins.put.Goals as goal

pub returns-clause-pins : goal.returns-clause-pins
returns-clause-pins c = λ ports to k l a.
    let e : c.args.self.now.pins ≡ c.self.inside.pins.items = sym (ap (λ (v : PinsView). v.pins) c.self.view_is) in
    pins_put c.self.inside.pins.items c.put_in.new.pins.items ports c.args.host c.args.vm to c.args.entry c.put_in.ensures.changes k l (subst (λ (ps : List Pin). ArePins ps ports) e a)
